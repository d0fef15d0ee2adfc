-- Each step keeps the rule.
use Rattle.std.proofs.Common.{◌≡◌, ◌≢◌, ℕ, zero, suc, ◌+◌, ◌%◌, ◌^◌, ◌<◌, ◌≤◌, Bool, true, false, eqb, Some, List, [], ◌∷◌, ◌++◌, length, set, take, drop, sym, refl, ap, ◌∙◌, subst, inl, inr, ⊎_elim, append_assoc, append-nil, length-append, eq-eqb, ne_eqb, arith}
use mathlib.Core.Option.{some, none, some-injective, some-ne-none}
use mathlib.Core.Logic.{dite}
use native.Mathlib.Decide.{ℕ_discrete}
use lib.ListN.{get_elem?}
use Rattle.atomic_table.specs.Table.{State, Splits, Joins}
use Rattle.atomic_table.proofs.Lists.{at_set, at_snoc}
use Rattle.ap_paths.specs.declared.entries.Entry.{Entry}
use Rattle.ap_tools.specs.declared.locked.view.Stage.{Stage}
use Rattle.ap_tools.specs.declared.locked.view.Stage.TheVariants.{Idle, Waiting, Turn}
use Rattle.ap_tools.specs.declared.locked.view.Own.{Own}
use Rattle.ap_tools.specs.declared.locked.view.View.{View}
use Rattle.ap_tools.specs.Turns.{Slot, own, view, lone, places_of, one_turn_if, times_owned, total_of_seats, has, tickets, turns, AreKnown, InTurn, FitsHistory, IsLockKept, SeatsKept, AreBy, fresh_owns, others, first_seat_only, united}
use Rattle.ap_tools.proofs.Counts.{total_set, total_snoc, total_at, total_two, total_le, total_zero, total_some}
use Rattle.ap_tools.proofs.SeatPlaces.{places_others}

abbrev pub AllFit : ℕ → ℕ → List Entry → List View → Type 0
AllFit S T H views = (port : ℕ) (v : View) → get_elem? views port ≡ some v → FitsHistory S T H v

-- at most 64 tickets are out
pub window : (seats S T : ℕ) (H : List Entry) (s : State Slot View) → IsLockKept seats S T H s → T ≤ S + 64
window seats S T H s k =
    let le = total_le (λ v. tickets v.stage) (λ v. length v.owns) s.views (λ j u at. (k.fit j u at).owns) in
    let c = k.counted in
    let a = k.all_owned in
    let f = k.few in
    omega arith

pub fit_set : (S T : ℕ) (H : List Entry) (views : List View) (id : ℕ) (w : View) → FitsHistory S T H w → ((j : ℕ) (u : View) → j ≢ id → get_elem? views j ≡ some u → FitsHistory S T H u) → AllFit S T H (set views id w)
fit_set S T H views id w mine others j u at =
    ⊎_elim (λ (x : (j ≡ id) × (w ≡ u)). subst (λ (y : View). FitsHistory S T H y) x.1 mine)
    (λ (x : (j ≢ id) × (get_elem? views j ≡ some u)). others j u x.0 x.1) (at_set views id j w u at)

later_drawn : (S T : ℕ) (H : List Entry) (st : Stage) (os : List Own) → InTurn S T H st os → InTurn S (T + 1) H st os
later_drawn S T H Idle os h = tt
later_drawn S T H (Waiting u) os h = (h.0, (let l = h.1 in omega arith))
later_drawn S T H (Turn u) os h = (h.0, (let l = h.1 in omega arith), h.2)

-- nobody has a ticket that was not drawn
not_drawn : (S T t : ℕ) (H : List Entry) (st : Stage) (os : List Own) → T ≤ t → InTurn S T H st os → has t st ≡ 0
not_drawn S T t H Idle os le h = refl
not_drawn S T t H (Waiting u) os le h = ap one_turn_if (ne_eqb u t (λ e. let a = h.1 in omega arith))
not_drawn S T t H (Turn u) os le h = ap one_turn_if (ne_eqb u t (λ e. let a = h.1 in let b = h.0 in omega arith))

-- who has the turn has the ticket that is served
turn_has : (S T : ℕ) (H : List Entry) (st : Stage) (os : List Own) → InTurn S T H st os → 0 < turns st → has S st ≡ 1
turn_has S T H Idle os h l = absurd (omega arith)
turn_has S T H (Waiting u) os h l = absurd (omega arith)
turn_has S T H (Turn u) os h l = ap one_turn_if (eq-eqb u S h.0)

one_if_le : (b : Bool) → one_turn_if b ≤ 1
one_if_le true = omega arith
one_if_le false = omega arith

-- a ticket is drawn
pub draw_step : (seats S T : ℕ) (H : List Entry) (s : State Slot View) (id : ℕ) (os : List Own) → IsLockKept seats S T H s → get_elem? s.views id ≡ some (view Idle os) → 0 < length os
    → IsLockKept seats S (T + 1) H record { words = (T + 1) % 2 ^ 64 ∷ S % 2 ^ 64 ∷ []; homes = s.homes; views = set s.views id (view (Waiting T) os) }
draw_step seats S T H s id os k at some_mine =
    let v = view Idle os in
    let w = view (Waiting T) os in
    let old = k.fit id v at in
    record {
      words = refl;
      home = (let n = total_set (λ u. turns u.stage) s.views id v w at in
          ⊎_elim (λ h. inl (h.0, (let z = h.1 in omega arith))) (λ h. inr (h.0, (let z = h.1 in omega arith))) k.home);
      drawn_once = λ t.
          let n = total_set (λ u. has t u.stage) s.views id v w at in
          let o = k.drawn_once t in
          dite (ℕ_discrete T t)
          (λ e. let z = total_zero (λ u. has t u.stage) s.views (λ j u there. not_drawn S T t H u.stage u.owns (omega arith) (k.fit j u there).turn) in let b = one_if_le (eqb T t) in omega arith)
          (λ ne. let b = ap one_turn_if (ne_eqb T t ne) in omega arith);
      counted = (let n = total_set (λ u. tickets u.stage) s.views id v w at in let c = k.counted in omega arith);
      owned_once = λ m. (let n = total_set (λ u. times_owned m u.owns) s.views id v w at in let c = k.owned_once m in omega arith);
      all_owned = (let n = total_set (λ u. length u.owns) s.views id v w at in let c = k.all_owned in omega arith);
      few = k.few;
      in_range = λ m far. (let n = total_set (λ u. times_owned m u.owns) s.views id v w at in let c = k.in_range m far in omega arith);
      strangers = λ m no_one. k.strangers m (let n = total_set (λ u. times_owned m u.owns) s.views id v w at in omega arith);
      fit = fit_set S (T + 1) H s.views id w
          record { known = old.known; turn = ((let c = k.counted in omega arith), omega arith); owns = some_mine }
          (λ j u apart there. let f = k.fit j u there in record { known = f.known; turn = later_drawn S T H u.stage u.owns f.turn; owns = f.owns });
    }

-- who has another ticket than the one that is served waits on
served_later : (S T : ℕ) (H hist : List Entry) (st : Stage) (os : List Own) → (has S st ≡ 1 → ⊥) → InTurn S T H st os → InTurn (S + 1) T hist st os
served_later S T H hist Idle os apart h = tt
served_later S T H hist (Waiting u) os apart h =
    let l = h.0 in
    let r = h.1 in
    dite (ℕ_discrete u S) (λ e. absurd (apart (ap one_turn_if (eq-eqb u S e)))) (λ ne. (omega arith, r))
served_later S T H hist (Turn u) os apart h = absurd (apart (ap one_turn_if (eq-eqb u S h.0)))

-- two views have no ticket in common
one_each : (seats S T : ℕ) (H : List Entry) (s : State Slot View) (i j t : ℕ) (v u : View) → IsLockKept seats S T H s → get_elem? s.views i ≡ some v → get_elem? s.views j ≡ some u → j ≢ i → has t v.stage ≡ 1 → has t u.stage ≡ 1 → ⊥
one_each seats S T H s i j t v u k at at' apart a b =
    let two = total_two (λ y. has t y.stage) s.views i j v u at at' apart in
    let o = k.drawn_once t in
    omega arith

-- while a waiting view has the ticket that is served, the book is at home
pub at_home : (seats S T : ℕ) (H : List Entry) (s : State Slot View) (id t : ℕ) (os : List Own) → IsLockKept seats S T H s → get_elem? s.views id ≡ some (view (Waiting t) os) → S ≡ t → (s.homes ≡ some (Some H) ∷ []) × (total_of_seats (λ v. turns v.stage) s.views ≡ 0)
at_home seats S T H s id t os k at is =
    ⊎_elim (λ h. h)
    (λ h.
    let one = total_some (λ v. turns v.stage) s.views (let z = h.1 in omega arith) in
    let j = one.0 in
    let u = one.1 in
    let other : j ≢ id = λ e.
    let same : view (Waiting t) os ≡ u = some-injective (view (Waiting t) os) u (sym at ∙ ap (get_elem? s.views) (sym e) ∙ one.2) in
    let z = ap (λ (y : View). turns y.stage) same in
    let l = one.3 in
    absurd (omega arith) in
    absurd (one_each seats S T H s id j S (view (Waiting t) os) u k at one.2 other (ap one_turn_if (eq-eqb t S (sym is))) (turn_has S T H u.stage u.owns (k.fit j u one.2).turn one.3)))
    k.home

-- the book is taken
pub take_step : (seats S T : ℕ) (H : List Entry) (s : State Slot View) (id t n : ℕ) (seen : List Entry) → IsLockKept seats S T H s → get_elem? s.views id ≡ some (lone (Waiting t) n seen) → S ≡ t
    → IsLockKept seats S T H record { words = s.words; homes = none ∷ []; views = set s.views id (lone (Turn t) n H) }
take_step seats S T H s id t n seen k at is =
    let v = lone (Waiting t) n seen in
    let w = lone (Turn t) n H in
    let old = k.fit id v at in
    let h = at_home seats S T H s id t (own n seen ∷ []) k at is in
    record {
      words = k.words;
      home = inr (refl, (let n = total_set (λ u. turns u.stage) s.views id v w at in let z = h.1 in omega arith));
      drawn_once = λ x. (let n = total_set (λ u. has x u.stage) s.views id v w at in let o = k.drawn_once x in omega arith);
      counted = (let n = total_set (λ u. tickets u.stage) s.views id v w at in let c = k.counted in omega arith);
      owned_once = λ m. (let n = total_set (λ u. times_owned m u.owns) s.views id v w at in let c = k.owned_once m in omega arith);
      all_owned = (let n = total_set (λ u. length u.owns) s.views id v w at in let c = k.all_owned in omega arith);
      few = k.few;
      in_range = λ m far. (let n = total_set (λ u. times_owned m u.owns) s.views id v w at in let c = k.in_range m far in omega arith);
      strangers = λ m no_one. k.strangers m (let n = total_set (λ u. times_owned m u.owns) s.views id v w at in omega arith);
      fit = fit_set S T H s.views id w
          record { known = ((([], sym (append-nil H)), refl), tt); turn = (sym is, (let l = old.turn.1 in omega arith), (refl, tt)); owns = old.owns }
          (λ j u apart there. k.fit j u there);
    }

-- entries of another's number leave a seat's facts
known_later : (n : ℕ) (H hist es : List Entry) (os : List Own) → hist ≡ H ++ es → AreBy n es → times_owned n os ≡ 0 → AreKnown H os → AreKnown hist os
known_later n H hist es [] grown by nil h = tt
known_later n H hist es (o ∷ os) grown by nil h =
    let known = h.0 in
    let apart : n ≢ o.number = λ e. (let m = ap one_turn_if (eq-eqb o.number n (sym e)) in absurd (omega arith)) in (
      (
        (known.0.0 ++ es, grown ∙ ap (λ l. l ++ es) known.0.1 ∙ append_assoc o.seen known.0.0 es),
        ap (places_of o.number) grown ∙ places_others n o.number H es by apart ∙ known.1,
      ),
      known_later n H hist es os grown by (omega arith) h.1,
    )

-- the turn ends, and the book goes home with more entries by its own number
pub end_step : (seats S T : ℕ) (H : List Entry) (s : State Slot View) (id t n : ℕ) (seen hist es : List Entry) → IsLockKept seats S T H s → get_elem? s.views id ≡ some (lone (Turn t) n seen) → hist ≡ seen ++ es → AreBy n es
    → (s.homes ≡ none ∷ []) × IsLockKept seats (S + 1) T hist record { words = T % 2 ^ 64 ∷ (S + 1) % 2 ^ 64 ∷ []; homes = some (Some hist) ∷ []; views = set s.views id (lone Idle n hist) }
end_step seats S T H s id t n seen hist es k at more by =
    let v = lone (Turn t) n seen in
    let w = lone Idle n hist in
    let old = k.fit id v at in
    let served : t ≡ S = old.turn.0 in
    let low = old.turn.1 in
    let all : seen ≡ H = old.turn.2.0 in
    let grown : hist ≡ H ++ es = more ∙ ap (λ l. l ++ es) all in
    let out : (s.homes ≡ none ∷ []) × (total_of_seats (λ u. turns u.stage) s.views ≡ 1) =
    ⊎_elim (λ h. absurd (let a = total_at (λ u. turns u.stage) s.views id v at in let z = h.1 in omega arith)) (λ h. h) k.home in
    let mine : has S v.stage ≡ 1 = ap one_turn_if (eq-eqb t S served) in (
      out.0,
      record {
        words = refl;
        home = inl (refl, (let m = total_set (λ u. turns u.stage) s.views id v w at in let z = out.1 in omega arith));
        drawn_once = λ x. (let m = total_set (λ u. has x u.stage) s.views id v w at in let o = k.drawn_once x in omega arith);
        counted = (let m = total_set (λ u. tickets u.stage) s.views id v w at in let c = k.counted in omega arith);
        owned_once = λ x. (let m = total_set (λ u. times_owned x u.owns) s.views id v w at in let c = k.owned_once x in omega arith);
        all_owned = (let m = total_set (λ u. length u.owns) s.views id v w at in let c = k.all_owned in omega arith);
        few = k.few;
        in_range = λ x far. (let m = total_set (λ u. times_owned x u.owns) s.views id v w at in let c = k.in_range x far in omega arith);
        strangers = λ m no_one.
            let c = total_set (λ u. times_owned m u.owns) s.views id v w at in
            let here = total_at (λ u. times_owned m u.owns) s.views id v at in
            let apart : n ≢ m = λ e. (let o = ap one_turn_if (eq-eqb n m e) in absurd (omega arith)) in
            ap (places_of m) grown ∙ places_others n m H es by apart ∙ k.strangers m (omega arith);
        fit = fit_set (S + 1) T hist s.views id w
            record { known = ((([], sym (append-nil hist)), refl), tt); turn = tt; owns = omega arith }
            (λ j u apart there.
            let f = k.fit j u there in
            record {
              known = known_later n H hist es u.owns grown by
                  (let two = total_two (λ y. times_owned n y.owns) s.views id j v u at there apart in
                  let o = k.owned_once n in
                  let self : times_owned n (own n seen ∷ []) ≡ 1 = rw (eq-eqb n n refl) refl in
                  omega arith)
                  f.known;
              turn = served_later S T H hist u.stage u.owns (λ h. one_each seats S T H s id j S v u k at there apart mine h) f.turn;
              owns = f.owns;
            });
      },
    )

fit_snoc : (S T : ℕ) (H : List Entry) (views : List View) (w : View) → FitsHistory S T H w → AllFit S T H views → AllFit S T H (views ++ w ∷ [])
fit_snoc S T H views w mine all j u at = ⊎_elim (λ x. all j u x) (λ (e : w ≡ u). subst (λ (y : View). FitsHistory S T H y) e mine) (at_snoc views w u j at)

times_cut : (n : ℕ) (os : List Own) → times_owned n (drop 1 os) + times_owned n (take 1 os) ≡ times_owned n os
times_cut n [] = refl
times_cut n (o ∷ os) = omega arith

length_cut : (os : List Own) → length (drop 1 os) + length (take 1 os) ≡ length os
length_cut [] = refl
length_cut (o ∷ os) = omega arith

known_drop : (H : List Entry) (os : List Own) → AreKnown H os → AreKnown H (drop 1 os)
known_drop H [] h = tt
known_drop H (o ∷ os) h = h.1

known_take : (H : List Entry) (os : List Own) → AreKnown H os → AreKnown H (take 1 os)
known_take H [] h = tt
known_take H (o ∷ os) h = (h.0, tt)

pub cut_step : (seats id : ℕ) (v : View) → v.stage ≡ Idle → Splits (SeatsKept seats) id v (others v) (first_seat_only v)
cut_step seats id v idle s kept at =
    let S = kept.0 in
    let T = kept.1 in
    let H = kept.2 in
    let k = kept.3 in
    let l = others v in
    let r = first_seat_only v in
    let vs = set s.views id l in
    let old = k.fit id v at in
    let zt = ap turns idle in
    let zn = ap tickets idle in (
      S,
      T,
      H,
      record {
        words = k.words;
        home = (let n = total_set (λ u. turns u.stage) s.views id v l at in let m = total_snoc (λ u. turns u.stage) vs r in
            ⊎_elim (λ h. inl (h.0, (let z = h.1 in omega arith))) (λ h. inr (h.0, (let z = h.1 in omega arith))) k.home);
        drawn_once = λ t. (let n = total_set (λ u. has t u.stage) s.views id v l at in let m = total_snoc (λ u. has t u.stage) vs r in let o = k.drawn_once t in let z = ap (has t) idle in omega arith);
        counted = (let n = total_set (λ u. tickets u.stage) s.views id v l at in let m = total_snoc (λ u. tickets u.stage) vs r in let c = k.counted in omega arith);
        owned_once = λ x. (let n = total_set (λ u. times_owned x u.owns) s.views id v l at in let m = total_snoc (λ u. times_owned x u.owns) vs r in let c = k.owned_once x in let z = times_cut x v.owns in omega arith);
        all_owned = (let n = total_set (λ u. length u.owns) s.views id v l at in let m = total_snoc (λ u. length u.owns) vs r in let c = k.all_owned in let z = length_cut v.owns in omega arith);
        few = k.few;
        in_range = λ x far. (let n = total_set (λ u. times_owned x u.owns) s.views id v l at in let m = total_snoc (λ u. times_owned x u.owns) vs r in let c = k.in_range x far in let z = times_cut x v.owns in omega arith);
        strangers = λ x no_one. k.strangers x (let n = total_set (λ u. times_owned x u.owns) s.views id v l at in let m = total_snoc (λ u. times_owned x u.owns) vs r in let z = times_cut x v.owns in omega arith);
        fit = fit_snoc S T H vs r record { known = known_take H v.owns old.known; turn = tt; owns = omega arith }
            (fit_set S T H s.views id l record { known = known_drop H v.owns old.known; turn = tt; owns = omega arith } (λ j u apart there. k.fit j u there));
      },
    )

times_both : (n : ℕ) (os us : List Own) → times_owned n (os ++ us) ≡ times_owned n os + times_owned n us
times_both n [] us = omega arith
times_both n (o ∷ os) us = omega (arith, times_both n os us)

known_both : (H : List Entry) (os us : List Own) → AreKnown H os → AreKnown H us → AreKnown H (os ++ us)
known_both H [] us h g = g
known_both H (o ∷ os) us h g = (h.0, known_both H os us h.1 g)

pub unite_step : (seats id : ℕ) (v : View) (other : ℕ) (w : View) → v.stage ≡ Idle → w.stage ≡ Idle → Joins (SeatsKept seats) id v other w (united v w) (view Idle [])
unite_step seats id v other w idle idle' s kept at two at' =
    let S = kept.0 in
    let T = kept.1 in
    let H = kept.2 in
    let k = kept.3 in
    let l = united v w in
    let e = view Idle [] in
    let vs = set s.views id l in
    let was : get_elem? s.views other ≡ some w = ⊎_elim (λ x. absurd (two x.0)) (λ x. x.1) (at_set s.views id other l w at') in
    let mine = k.fit id v at in
    let theirs = k.fit other w was in
    let zt = ap turns idle in
    let zn = ap tickets idle in
    let yt = ap turns idle' in
    let yn = ap tickets idle' in (
      S,
      T,
      H,
      record {
        words = k.words;
        home = (let n = total_set (λ u. turns u.stage) s.views id v l at in let m = total_set (λ u. turns u.stage) vs other w e at' in
            ⊎_elim (λ h. inl (h.0, (let z = h.1 in omega arith))) (λ h. inr (h.0, (let z = h.1 in omega arith))) k.home);
        drawn_once = λ t. (let n = total_set (λ u. has t u.stage) s.views id v l at in let m = total_set (λ u. has t u.stage) vs other w e at' in let o = k.drawn_once t in let z = ap (has t) idle in let y = ap (has t) idle' in omega arith);
        counted = (let n = total_set (λ u. tickets u.stage) s.views id v l at in let m = total_set (λ u. tickets u.stage) vs other w e at' in let c = k.counted in omega arith);
        owned_once = λ x. (let n = total_set (λ u. times_owned x u.owns) s.views id v l at in let m = total_set (λ u. times_owned x u.owns) vs other w e at' in let c = k.owned_once x in let z = times_both x v.owns w.owns in omega arith);
        all_owned = (let n = total_set (λ u. length u.owns) s.views id v l at in let m = total_set (λ u. length u.owns) vs other w e at' in let c = k.all_owned in let z = length-append v.owns w.owns in omega arith);
        few = k.few;
        in_range = λ x far. (let n = total_set (λ u. times_owned x u.owns) s.views id v l at in let m = total_set (λ u. times_owned x u.owns) vs other w e at' in let c = k.in_range x far in let z = times_both x v.owns w.owns in omega arith);
        strangers = λ x no_one. k.strangers x (let n = total_set (λ u. times_owned x u.owns) s.views id v l at in let m = total_set (λ u. times_owned x u.owns) vs other w e at' in let z = times_both x v.owns w.owns in omega arith);
        fit = fit_set S T H vs other e record { known = tt; turn = tt; owns = omega arith }
            (λ j u _ there. fit_set S T H s.views id l record { known = known_both H v.owns w.owns mine.known theirs.known; turn = tt; owns = omega arith } (λ i y apart there'. k.fit i y there') j u there);
      },
    )

turns_le : (st : Stage) → turns st ≤ tickets st
turns_le Idle = omega arith
turns_le (Waiting u) = omega arith
turns_le (Turn u) = omega arith

times_le : (n : ℕ) (os : List Own) → times_owned n os ≤ length os
times_le n [] = omega arith
times_le n (o ∷ os) = let b = one_if_le (eqb o.number n) in let r = times_le n os in omega arith

-- where one view has all seats, the entries bear its numbers
pub no_strangers : (seats S T : ℕ) (H : List Entry) (s : State Slot View) (id : ℕ) (v : View) → IsLockKept seats S T H s → get_elem? s.views id ≡ some v → length v.owns ≡ seats → (n : ℕ) → times_owned n v.owns ≡ 0 → places_of n H ≡ []
no_strangers seats S T H s id v k at all n mine =
    k.strangers n (total_zero (λ u. times_owned n u.owns) s.views (λ j u there.
    dite (ℕ_discrete j id)
    (λ e. (let same : v ≡ u = some-injective v u (sym at ∙ ap (get_elem? s.views) (sym e) ∙ there) in ap (λ (y : View). times_owned n y.owns) (sym same) ∙ mine))
    (λ ne.
    let two = total_two (λ y. length y.owns) s.views id j v u at there ne in
    let whole = k.all_owned in
    let b = times_le n u.owns in
    omega arith)))

-- where an idle view has all seats, the book is at home
pub all_home : (seats S T : ℕ) (H : List Entry) (s : State Slot View) (id : ℕ) (v : View) → IsLockKept seats S T H s → get_elem? s.views id ≡ some v → v.stage ≡ Idle → length v.owns ≡ seats → s.homes ≡ some (Some H) ∷ []
all_home seats S T H s id v k at idle all =
    let quiet : (j : ℕ) (u : View) → get_elem? s.views j ≡ some u → turns u.stage ≡ 0 = λ j u there.
    dite (ℕ_discrete j id)
    (λ e. (let same : v ≡ u = some-injective v u (sym at ∙ ap (get_elem? s.views) (sym e) ∙ there) in ap (λ (y : View). turns y.stage) (sym same) ∙ ap turns idle))
    (λ ne.
    let two = total_two (λ y. length y.owns) s.views id j v u at there ne in
    let whole = k.all_owned in
    let f = (k.fit j u there).owns in
    let g = turns_le u.stage in
    omega arith) in
    let z = total_zero (λ u. turns u.stage) s.views quiet in
    ⊎_elim (λ h. h.0) (λ h. absurd (let y = h.1 in omega arith)) k.home

length_fresh : (i n : ℕ) → length (fresh_owns i n) ≡ n
length_fresh i zero = refl
length_fresh i (suc n) = ap suc (length_fresh (suc i) n)

-- no number below i is among those from i on
none_fresh : (x i n : ℕ) → x < i → times_owned x (fresh_owns i n) ≡ 0
none_fresh x i zero lt = refl
none_fresh x i (suc n) lt = let z = none_fresh x (suc i) n (omega arith) in let y = ap one_turn_if (ne_eqb i x (λ e. omega arith)) in omega arith

-- nor one from i + n on
far_fresh : (x i n : ℕ) → i + n ≤ x → times_owned x (fresh_owns i n) ≡ 0
far_fresh x i zero far = refl
far_fresh x i (suc n) far = let z = far_fresh x (suc i) n (omega arith) in let y = ap one_turn_if (ne_eqb i x (λ e. omega arith)) in omega arith

times_fresh : (x i n : ℕ) → times_owned x (fresh_owns i n) ≤ 1
times_fresh x i zero = omega arith
times_fresh x i (suc n) =
    dite (ℕ_discrete i x)
    (λ e. let z = none_fresh x (suc i) n (omega arith) in let y = one_if_le (eqb i x) in omega arith)
    (λ ne. let z = times_fresh x (suc i) n in let y = ap one_turn_if (ne_eqb i x ne) in omega arith)

known_fresh : (i n : ℕ) → AreKnown [] (fresh_owns i n)
known_fresh i zero = tt
known_fresh i (suc n) = ((([], refl), refl), known_fresh (suc i) n)

fit_first : (seats port : ℕ) (v : View) → get_elem? (view Idle (fresh_owns 0 seats) ∷ []) port ≡ some v → FitsHistory 0 0 [] v
fit_first seats zero v at = subst (λ (u : View). FitsHistory 0 0 [] u) (some-injective (view Idle (fresh_owns 0 seats)) v at) record { known = known_fresh 0 seats; turn = tt; owns = omega arith }
fit_first seats (suc port) v at = absurd (some-ne-none v (sym at))

-- the table at the start
pub begin_step : (seats : ℕ) → seats ≤ 64 → SeatsKept seats record { words = 0 ∷ 0 ∷ []; homes = some (Some []) ∷ []; views = view Idle (fresh_owns 0 seats) ∷ [] }
begin_step seats few = (
  0,
  0,
  [],
  record {
    words = refl;
    home = inl (refl, refl);
    drawn_once = λ t. omega arith;
    counted = refl;
    owned_once = λ n. (let z = times_fresh n 0 seats in omega arith);
    all_owned = (let z = length_fresh 0 seats in omega arith);
    few = few;
    in_range = λ n far. (let z = far_fresh n 0 seats (omega arith) in omega arith);
    strangers = λ n _. refl;
    fit = λ port v at. fit_first seats port v at;
  },
)
