-- The logs of seats, entry by entry.
use Rattle.std.proofs.Common.{◌≡◌, ℕ, zero, suc, ◌+◌, ◌<◌, ◌≤◌, List, Vec, [], ◌∷◌, ◌++◌, length, take, get_or, set, refl, sym, ap, ◌∙◌, add-one, zero-add, arith}
use Rattle.std.proofs.lemmas.List.{take_more}
use Rattle.ap_paths.specs.declared.entries.Entry.{Entry}
use Rattle.ap_tools.specs.Turns.{maker_of, places_of}
use Rattle.ap_tools.specs.Seats.{logs_from, logs_of}
use Rattle.ap_tools.specs.Noting.{lists_of, noted}
use Rattle.ap_tools.proofs.SeatPlaces.{places_others, places_mine}

length_take : (i : ℕ) (xs : List Entry) → i < length xs → length (take i xs) ≡ i
length_take zero xs lt = refl
length_take (suc i) [] lt = absurd (omega arith)
length_take (suc i) (x ∷ xs) lt = ap suc (length_take i xs (omega arith))

logs_from-last : (i n : ℕ) (history : List Entry) → logs_from i (suc n) history ≡ logs_from i n history ++ places_of (i + n) history ∷ []
logs_from-last i zero history = ap (λ (k : ℕ). places_of k history ∷ []) (omega arith)
logs_from-last i (suc n) history =
    ap (λ l. places_of i history ∷ l) (logs_from-last (suc i) n history ∙ ap (λ (k : ℕ). logs_from (suc i) n history ++ places_of k history ∷ []) (omega arith))

-- one more log is made
pub logs_of-last : (n : ℕ) (history : List Entry) → logs_of (n + 1) history ≡ logs_of n history ++ places_of n history ∷ []
logs_of-last n history =
    ap (λ (k : ℕ). logs_from 0 k history) (add-one n) ∙ logs_from-last 0 n history ∙ ap (λ (k : ℕ). logs_from 0 n history ++ places_of k history ∷ []) (zero-add n)

pub lists_of-last : {Z : Type 0} (vs : List (Vec ℕ Z)) (v : Vec ℕ Z) → lists_of (vs ++ v ∷ []) ≡ lists_of vs ++ v.items ∷ []
lists_of-last [] v = refl
lists_of-last (u ∷ us) v = ap (λ l. u.items ∷ l) (lists_of-last us v)

-- a log of a number is set to itself with one more place
pub noted_set : {Z : Type 0} (vs : List (Vec ℕ Z)) (n place : ℕ) (d v : Vec ℕ Z) → n < length vs → v.items ≡ (get_or vs n d).items ++ place ∷ [] → lists_of (set vs n v) ≡ noted n place (lists_of vs)
noted_set [] n place d v lt is = absurd (omega arith)
noted_set (u ∷ us) zero place d v lt is = ap (λ l. l ∷ lists_of us) is
noted_set (u ∷ us) (suc n) place d v lt is = ap (λ l. u.items ∷ l) (noted_set us n place d v (omega arith) is)

-- there is no log of a number past the end
pub noted_past : {Z : Type 0} (vs : List (Vec ℕ Z)) (n place : ℕ) → length vs ≤ n → noted n place (lists_of vs) ≡ lists_of vs
noted_past [] n place le = refl
noted_past (u ∷ us) zero place le = absurd (omega arith)
noted_past (u ∷ us) (suc n) place le = ap (λ l. u.items ∷ l) (noted_past us n place (omega arith))

-- an entry of a number below all of these leaves their logs
logs_below : (i n : ℕ) (history : List Entry) (e : Entry) → maker_of e < i → logs_from i n (history ++ e ∷ []) ≡ logs_from i n history
logs_below i zero history e lt = refl
logs_below i (suc n) history e lt =
    ap (λ l. l ∷ logs_from (suc i) n (history ++ e ∷ [])) (places_others (maker_of e) i history (e ∷ []) (refl, tt) (λ is. omega arith))
    ∙ ap (λ l. places_of i history ∷ l) (logs_below (suc i) n history e (omega arith))

logs_noted : (i m n : ℕ) (history : List Entry) (e : Entry) → maker_of e ≡ i + m → logs_from i n (history ++ e ∷ []) ≡ noted m (length history) (logs_from i n history)
logs_noted i m zero history e is = refl
logs_noted i zero (suc n) history e is =
    let mine : maker_of e ≡ i = omega arith in
    ap (λ l. l ∷ logs_from (suc i) n (history ++ e ∷ [])) (places_mine i history e mine)
    ∙ ap (λ l. (places_of i history ++ length history ∷ []) ∷ l) (logs_below (suc i) n history e (omega arith))
logs_noted i (suc m) (suc n) history e is =
    ap (λ l. l ∷ logs_from (suc i) n (history ++ e ∷ [])) (places_others (maker_of e) i history (e ∷ []) (refl, tt) (λ s. omega arith))
    ∙ ap (λ l. places_of i history ∷ l) (logs_noted (suc i) m n history e (omega arith))

-- one more entry is read
pub one_more : (n i : ℕ) (d : Entry) (history : List Entry) → i < length history → logs_of n (take (i + 1) history) ≡ noted (maker_of (get_or history i d)) i (logs_of n (take i history))
one_more n i d history lt =
    let e = get_or history i d in
    ap (logs_of n) (take_more history i d lt) ∙ logs_noted 0 (maker_of e) n (take i history) e (sym (zero-add (maker_of e)))
    ∙ ap (λ (k : ℕ). noted (maker_of e) k (logs_of n (take i history))) (length_take i history lt)
