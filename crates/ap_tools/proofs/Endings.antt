-- How the seats are made, and what they know at the end.
use Rattle.std.proofs.Common.{◌≡◌, ℕ, zero, suc, ◌+◌, ◌-◌, ◌<◌, ◌≤◌, eqb, Some, None, List, [], ◌∷◌, ◌++◌, length, sym, refl, ap, ◌∙◌, subst, add-one, zero-add, arith}
use mathlib.Core.Option.{some, none, some-injective}
use lib.ListN.{get_elem?}
use Rattle.atomic_table.specs.Table.{Me, Final, Seen}
use Rattle.atomic_table.specs.Seated.{TableId}
use Rattle.ap_paths.specs.declared.entries.Entry.{Entry}
use Rattle.ap_tools.specs.declared.locked.view.Stage.TheVariants.{Idle}
use Rattle.ap_tools.specs.declared.locked.view.Own.{Own}
use Rattle.ap_tools.specs.declared.locked.view.View.{View}
use Rattle.ap_tools.specs.Turns.{Slot, SeatsKept, view, lone, fresh_owns, seen_of, places_of, AreKnown, others, first_seat_only, united, times_owned, one_turn_if}
use Rattle.ap_tools.specs.Seats.{SeatView, Raw, seat_view, IsSeat, AreOfBook, AreLogged, new_seats, seats_with}
use Rattle.ap_tools.proofs.Steps.{all_home, no_strangers}

-- what the closed table has in its slot
pub taken_out : (seats id : ℕ) (v : View) (ws : List ℕ) (xs : List Slot) (x : Slot) → Final (Seen (SeatsKept seats) id v) ws xs → v.stage ≡ Idle → length v.owns ≡ seats → get_elem? xs 0 ≡ some x
    → (history : List Entry) × (x ≡ Some history) × AreKnown history v.owns × ((n : ℕ) → times_owned n v.owns ≡ 0 → places_of n history ≡ []) × ((n : ℕ) → seats ≤ n → places_of n history ≡ [])
taken_out seats id v ws xs x final idle all got =
    let s = final.0 in
    let kept = final.1.0 in
    let at = final.1.1 in
    let H = kept.2 in
    let k = kept.3 in
    let home = all_home seats kept.0 kept.1 H s id v k at idle all in
    let there : get_elem? s.homes 0 ≡ some (some (Some H)) = ap (λ (hs : List (mathlib.Core.Option.Option Slot)). get_elem? hs 0) home in
    let same = final.4 0 (Some H) there in
    (H, some-injective x (Some H) (sym got ∙ same), (k.fit id v at).known, no_strangers seats kept.0 kept.1 H s id v k at all, λ n far. k.strangers n (k.in_range n far))

one_seat : TableId → ℕ → SeatView
one_seat book n = record { book = book; number = n; seen = [] }

new_seats-last' : (book : TableId) (i n : ℕ) → new_seats book i (suc n) ≡ new_seats book i n ++ one_seat book (i + n) ∷ []
unfolding one_seat
new_seats-last' book i zero = ap (λ (k : ℕ). one_seat book k ∷ []) (omega arith)
new_seats-last' book i (suc n) =
    ap (λ l. one_seat book i ∷ l) (new_seats-last' book (suc i) n ∙ ap (λ (k : ℕ). new_seats book (suc i) n ++ one_seat book k ∷ []) (omega arith))

pub new_seats-last : (book : TableId) (n : ℕ) (s : SeatView) → s ≡ record { book = book; number = n; seen = [] } → new_seats book 0 (n + 1) ≡ new_seats book 0 n ++ s ∷ []
unfolding one_seat
new_seats-last book n s is = ap (new_seats book 0) (add-one n) ∙ new_seats-last' book 0 n ∙ ap (λ (k : ℕ). new_seats book 0 n ++ one_seat book k ∷ []) (zero-add n) ∙ ap (λ x. new_seats book 0 n ++ x ∷ []) (sym is)

pub new_seats-length : (book : TableId) (i n : ℕ) → length (new_seats book i n) ≡ n
new_seats-length book i zero = refl
new_seats-length book i (suc n) = ap suc (new_seats-length book (suc i) n)

suc-sub : (n : ℕ) → suc n - 1 ≡ n
suc-sub n = omega arith

-- the first of at least one seat
pub cut_first : (i n : ℕ) → 0 < n → (others (view Idle (fresh_owns i n)) ≡ view Idle (fresh_owns (i + 1) (n - 1))) × (first_seat_only (view Idle (fresh_owns i n)) ≡ lone Idle i [])
cut_first i zero lt = absurd (omega arith)
cut_first i (suc n) lt = (ap (λ (k : ℕ × ℕ). view Idle (fresh_owns k.0 k.1)) (λ j. (sym (add-one i) j, sym (suc-sub n) j)), refl)

-- a seat's view is of a seat, as it was made
pub made_seat : (book : TableId) (n : ℕ) (raw : Raw) → raw.table_id ≡ book → raw.me ≡ (lone Idle n [], []) → IsSeat n raw × (seat_view n raw ≡ record { book = book; number = n; seen = [] })
made_seat book n raw of is =
    let seen : seen_of raw.me.0 ≡ [] = ap (λ (m : Me Slot View). seen_of m.0) is in (
      is ∙ ap (λ (s : List Entry). (lone Idle n s, [])) (sym seen),
      λ j. record { book = of j; number = n; seen = seen j },
    )

logged_both : (H : List Entry) (xs ys : List SeatView) → AreLogged H xs → AreLogged H ys → AreLogged H (xs ++ ys)
logged_both H [] ys h g = g
logged_both H (x ∷ xs) ys h g = (h.0, logged_both H xs ys h.1 g)

-- a seat that is known is logged
pub logged_one : (H : List Entry) (n : ℕ) (raw : Raw) (s : SeatView) → seat_view n raw ≡ s → IsSeat n raw → AreKnown H raw.me.0.owns → AreLogged H (s ∷ [])
logged_one H n raw s is seat known =
    let owns = ap (λ (m : Me Slot View). m.0.owns) seat in
    let k = subst (λ (os : List Own). AreKnown H os) owns known in
    subst (λ (x : SeatView). AreLogged H (x ∷ [])) is (k.0, tt)

pub logged_last : (H : List Entry) (xs : List SeatView) (s : SeatView) → AreLogged H (s ∷ []) → AreLogged H xs → AreLogged H (xs ++ s ∷ [])
logged_last H xs s one all = logged_both H xs (s ∷ []) all one

of_both : (book : TableId) (xs : List SeatView) (s : SeatView) → AreOfBook book (xs ++ s ∷ []) → AreOfBook book xs × (s.book ≡ book)
of_both book [] s h = (tt, h.0)
of_both book (x ∷ xs) s h = let r = of_both book xs s h.1 in ((h.0, r.0), r.1)

pub of_last : (book : TableId) (all xs : List SeatView) (s : SeatView) → all ≡ xs ++ s ∷ [] → AreOfBook book all → AreOfBook book xs × (s.book ≡ book)
of_last book all xs s is h = of_both book xs s (subst (AreOfBook book) is h)

known_parts : (H : List Entry) (os us : List Own) → AreKnown H (os ++ us) → AreKnown H os × AreKnown H us
known_parts H [] us h = (tt, h)
known_parts H (o ∷ os) us h = let r = known_parts H os us h.1 in ((h.0, r.0), r.1)

-- one more seat was taken in
pub took_in : (H : List Entry) (n : ℕ) (first new : View) (raw : Raw) (s : SeatView) (all xs : List SeatView) → new ≡ united first raw.me.0 → all ≡ xs ++ s ∷ [] → seat_view n raw ≡ s → IsSeat n raw → AreKnown H new.owns → AreLogged H xs → AreKnown H first.owns × AreLogged H all
took_in H n first new raw s all xs is more same seat known logged =
    let parts = known_parts H first.owns raw.me.0.owns (subst (λ (v : View). AreKnown H v.owns) is known) in
    (parts.0, subst (λ (l : List SeatView). AreLogged H l) (sym more) (logged_last H xs s (logged_one H n raw s same seat parts.1) logged))

held : Slot → List Entry
held (Some h) = h
held None = []

pub some_is : (a b : List Entry) → Some a ≡ Some b → a ≡ b
unfolding held
some_is a b is = ap held is

pub none_is : (a : List Entry) → None ≡ Some a → ⊥
none_is a is = cc

times_both : (n : ℕ) (os us : List Own) → times_owned n (os ++ us) ≡ times_owned n os + times_owned n us
times_both n [] us = omega arith
times_both n (o ∷ os) us = omega (arith, times_both n os us)

pub seats_with-last : (n : ℕ) (xs : List SeatView) (s : SeatView) → seats_with n (xs ++ s ∷ []) ≡ seats_with n xs + one_turn_if (eqb s.number n)
seats_with-last n [] s = omega arith
seats_with-last n (x ∷ xs) s = omega (arith, seats_with-last n xs s)

-- the numbers of a seat that was taken in
pub times_one : (n k : ℕ) (raw : Raw) (s : SeatView) → seat_view k raw ≡ s → IsSeat k raw → times_owned n raw.me.0.owns ≡ one_turn_if (eqb s.number n)
times_one n k raw s same seat =
    let a = ap (λ (m : Me Slot View). times_owned n m.0.owns) seat in
    let b = ap (λ (x : SeatView). one_turn_if (eqb x.number n)) same in
    omega arith

pub times_more : (n k : ℕ) (first new : View) (raw : Raw) (s : SeatView) (all xs : List SeatView) → new ≡ united first raw.me.0 → all ≡ xs ++ s ∷ [] → seat_view k raw ≡ s → IsSeat k raw → times_owned n new.owns + seats_with n xs ≡ times_owned n first.owns + seats_with n all
times_more n k first new raw s all xs is more same seat =
    let a = ap (λ (v : View). times_owned n v.owns) is in
    let b = times_both n first.owns raw.me.0.owns in
    let c = times_one n k raw s same seat in
    let d = ap (seats_with n) more in
    omega (arith, seats_with-last n xs s)
