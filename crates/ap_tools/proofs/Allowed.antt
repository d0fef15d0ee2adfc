-- What the table asks of each step.
use Rattle.std.proofs.Common.{◌≡◌, ◌≢◌, ℕ, ◌+◌, ◌%◌, ◌^◌, ◌<◌, Some, None, List, [], ◌∷◌, ◌++◌, length, set, get_or, sym, refl, ap, ◌∙◌, subst, inl, inr, ⊎_elim, arith}
use Rattle.std.proofs.Math.Nat.{mod-add-mod}
use mathlib.Core.Option.{some, none}
use mathlib.Core.Logic.{dite}
use native.Mathlib.Decide.{ℕ_discrete}
use lib.ListN.{get_elem?}
use Rattle.atomic_table.specs.Table.{State, Me, keeps, takes, gives, rest, Allows}
use Rattle.atomic_table.proofs.Lists.{set_again, one_turn}
use Rattle.ap_paths.specs.declared.entries.Entry.{Entry}
use Rattle.ap_tools.specs.declared.locked.view.Stage.TheVariants.{Idle, Waiting, Turn}
use Rattle.ap_tools.specs.declared.locked.view.Own.{Own}
use Rattle.ap_tools.specs.declared.locked.view.View.{View}
use Rattle.ap_tools.specs.Turns.{Slot, own, view, lone, IsLockKept, SeatsKept, Drew, Called, Looked, EndedTurn, AreBy, IsIdle, IsWaiting, HasTurn, MayEnd, seat_number, seen_of}
use Rattle.ap_tools.proofs.Steps.{draw_step, take_step, end_step, at_home, window}

abbrev Homes : Type 0
Homes = List (mathlib.Core.Option.Option Slot)

abbrev state : List ℕ → Homes → List View → State Slot View
state ws hs vs = record { words = ws; homes = hs; views = vs }

pub draw_allows : (seats slots id : ℕ) (os : List Own) → 0 < length os
    → Allows (SeatsKept seats) slots id (view Idle os, []) 0 (λ n. (n + 1) % 2 ^ 64) (Drew (view Idle os, []))
draw_allows seats slots id os some_mine s kept size at fits =
    let S = kept.0 in
    let T = kept.1 in
    let H = kept.2 in
    let k = kept.3 in
    let w = view (Waiting T) os in
    let now = draw_step seats S T H s id os k at some_mine in
    let ws = subst (λ (n : ℕ). IsLockKept seats S (T + 1) H (state (n ∷ S % 2 ^ 64 ∷ []) s.homes (set s.views id w))) (sym (mod-add-mod T (2 ^ 64) 1)) now in (
      w,
      keeps,
      tt,
      subst (λ (ws : List ℕ). SeatsKept seats (state (set ws 0 ((get_or ws 0 0 + 1) % 2 ^ 64)) s.homes (set s.views id w))) (sym k.words) (S, T + 1, H, ws),
      subst (λ (ws : List ℕ). Drew (view Idle os, []) (get_or ws 0 0) (w, [])) (sym k.words) (T, refl, refl),
    )

pub look_allows : (seats slots id t n : ℕ) (seen : List Entry)
    → Allows (SeatsKept seats) slots id (lone (Waiting t) n seen, []) 1 (λ k. k) (Called t (lone (Waiting t) n seen, []))
look_allows seats slots id t n seen s kept size at fits =
    let S = kept.0 in
    let T = kept.1 in
    let H = kept.2 in
    let k = kept.3 in
    let v = lone (Waiting t) n seen in
    let w = lone (Turn t) n H in
    let old = k.fit id v at in
    let far = window seats S T H s k in
    let low = old.turn.0 in
    let high = old.turn.1 in
    let found : get_or s.words 1 0 ≡ S % 2 ^ 64 = ap (λ (ws : List ℕ). get_or ws 1 0) k.words in
    let same : set s.words 1 (get_or s.words 1 0) ≡ s.words = subst (λ (ws : List ℕ). set ws 1 (get_or ws 1 0) ≡ ws) (sym k.words) refl in
    dite (ℕ_discrete (S % 2 ^ 64) (t % 2 ^ 64))
    (λ e.
    let is : S ≡ t = one_turn S t (2 ^ 64) low (omega arith) e in
    let h = at_home seats S T H s id t (own n seen ∷ []) k at is in (
      w,
      takes 0 (Some H),
      subst (λ (hs : Homes). get_elem? hs 0 ≡ some (some (Some H))) (sym h.0) refl,
      subst (λ (ws : List ℕ). SeatsKept seats (state ws (set s.homes 0 none) (set s.views id w))) (sym same)
          (subst (λ (hs : Homes). SeatsKept seats (state s.words (set hs 0 none) (set s.views id w))) (sym h.0) (S, T, H, take_step seats S T H s id t n seen k at is)),
      inl (found ∙ e, (H, old.known.0, refl)),
    ))
    (λ ne. (
      v,
      keeps,
      tt,
      subst (λ (ws : List ℕ). SeatsKept seats (state ws s.homes (set s.views id v))) (sym same)
          (subst (λ (vs : List View). SeatsKept seats (state s.words s.homes vs)) (sym (set_again s.views id v at)) kept),
      inr ((λ e. ne (sym found ∙ e)), refl),
    ))

pub end_allows : (seats slots id t n : ℕ) (seen hist es : List Entry) → hist ≡ seen ++ es → AreBy n es
    → Allows (SeatsKept seats) slots id (lone (Turn t) n seen, (0, Some hist) ∷ []) 1 (λ n. (n + 1) % 2 ^ 64) (λ x w. w ≡ (lone Idle n hist, []))
end_allows seats slots id t n seen hist es more by s kept size at fits =
    let S = kept.0 in
    let T = kept.1 in
    let H = kept.2 in
    let k = kept.3 in
    let w = lone Idle n hist in
    let now = end_step seats S T H s id t n seen hist es k at more by in
    let ws = subst (λ (m : ℕ). IsLockKept seats (S + 1) T hist (state (T % 2 ^ 64 ∷ m ∷ []) (some (Some hist) ∷ []) (set s.views id w))) (sym (mod-add-mod S (2 ^ 64) 1)) now.1 in (
      w,
      gives,
      tt,
      subst (λ (hs : Homes). SeatsKept seats (state (set s.words 1 ((get_or s.words 1 0 + 1) % 2 ^ 64)) (set hs 0 (some (Some hist))) (set s.views id w))) (sym now.0)
          (subst (λ (ws : List ℕ). SeatsKept seats (state (set ws 1 ((get_or ws 1 0 + 1) % 2 ^ 64)) (some (Some hist) ∷ []) (set s.views id w))) (sym k.words) (S + 1, T, hist, ws)),
      refl,
    )

held : Slot → List Entry
held (Some h) = h
held None = []

some_same : (a b : List Entry) → Some a ≡ Some b → a ≡ b
unfolding held
some_same a b is = ap held is

weaker : (K : State Slot View → Type 0) (slots id : ℕ) (m : Me Slot View) (i : ℕ) (f : ℕ → ℕ) (P Q : ℕ → Me Slot View → Type 0) → ((n : ℕ) (w : Me Slot View) → P n w → Q n w) → Allows K slots id m i f P → Allows K slots id m i f Q
weaker K slots id m i f P Q imp a s kept size at fits = let r = a s kept size at fits in (r.0, r.1, r.2, r.3, imp _ _ r.4)

pub draw_at : (seats slots id : ℕ) (m : Me Slot View) → IsIdle m → Allows (SeatsKept seats) slots id m 0 (λ n. (n + 1) % 2 ^ 64) (Drew m)
draw_at seats slots id m idle =
    subst (λ (x : Me Slot View). Allows (SeatsKept seats) slots id x 0 (λ n. (n + 1) % 2 ^ 64) (Drew x)) (sym idle) (draw_allows seats slots id (own (seat_number m.0) (seen_of m.0) ∷ []) (omega arith))

pub drawn : (m w : Me Slot View) (n : ℕ) → IsIdle m → Drew m n w → IsWaiting m.0 n w
drawn m w n idle drew =
    (drew.0, drew.1, drew.2 ∙ ap (λ (x : Me Slot View). (view (Waiting drew.0) x.0.owns, x.1)) idle)

pub look_at : (seats slots id n : ℕ) (v : View) (m : Me Slot View) → IsWaiting v n m → Allows (SeatsKept seats) slots id m 1 (λ k. k) (Looked m)
look_at seats slots id n v m waits =
    subst (λ (x : Me Slot View). Allows (SeatsKept seats) slots id x 1 (λ k. k) (Looked x)) (sym waits.2) (look_allows seats slots id waits.0 (seat_number v) (seen_of v))

pub end_at : (seats slots id : ℕ) (m : Me Slot View) → MayEnd m → Allows (SeatsKept seats) slots id m 1 (λ n. (n + 1) % 2 ^ 64) (EndedTurn m)
end_at seats slots id m may =
    let t = may.0 in
    let n = seat_number m.0 in
    let hist = may.1 in
    let adds = may.3 in
    let x : Me Slot View = (lone (Turn t) n (seen_of m.0), (0, Some hist) ∷ []) in
    let then : (k : ℕ) (w : Me Slot View) → w ≡ (lone Idle n hist, []) → EndedTurn x k w = λ k w e history is. e ∙ ap (λ (h : List Entry). (lone Idle n h, [])) (some_same hist history is) in
    subst (λ (y : Me Slot View). Allows (SeatsKept seats) slots id y 1 (λ n. (n + 1) % 2 ^ 64) (EndedTurn y)) (sym may.2)
    (weaker (SeatsKept seats) slots id x 1 (λ n. (n + 1) % 2 ^ 64) _ (EndedTurn x) then (end_allows seats slots id t n (seen_of m.0) hist adds.0 adds.1 adds.2))

-- the turn was found
pub called : (v : View) (n found : ℕ) (m w : Me Slot View) → IsWaiting v n m → Looked m found w → found ≡ n → (history : List Entry) × HasTurn v history w
called v n found m w waits looked is =
    let x : Me Slot View = (lone (Waiting waits.0) (seat_number v) (seen_of v), []) in
    let c : Called waits.0 x found w = subst (λ (x : Me Slot View). Looked x found w) waits.2 looked in
    ⊎_elim (λ h. (h.1.0, (h.1.1, (waits.0, h.1.2)))) (λ h. absurd (h.0 (is ∙ waits.1))) c

-- or it was not
pub waits_on : (v : View) (n found : ℕ) (m w : Me Slot View) → IsWaiting v n m → Looked m found w → found ≢ n → IsWaiting v n w
waits_on v n found m w waits looked ne =
    let x : Me Slot View = (lone (Waiting waits.0) (seat_number v) (seen_of v), []) in
    let c : Called waits.0 x found w = subst (λ (x : Me Slot View). Looked x found w) waits.2 looked in
    ⊎_elim (λ h. absurd (ne (h.0 ∙ sym waits.1))) (λ h. (waits.0, waits.1, h.1)) c

pub carried : (m : Me Slot View) (w : View) (x : ℕ × Slot) → m ≡ (w, x ∷ []) → m.1 ≡ x ∷ rest m.1
carried m w x is = subst (λ (y : Me Slot View). y.1 ≡ x ∷ rest y.1) (sym is) refl
