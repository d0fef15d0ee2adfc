-- The places of a seat's entries in a history.
use Rattle.std.proofs.Common.{◌≡◌, ◌≢◌, ℕ, suc, ◌+◌, true, false, eqb, if◌then◌else◌, List, [], ◌∷◌, ◌++◌, length, sym, refl, ap, ◌∙◌, append-nil, length-append, eq-eqb, ne_eqb, arith}
use Rattle.ap_paths.specs.declared.entries.Entry.{Entry}
use Rattle.ap_tools.specs.Turns.{maker_of, own_places_from, places_of, AreBy}

pub places_from-append : (i n : ℕ) (xs ys : List Entry) → own_places_from i n (xs ++ ys) ≡ own_places_from i n xs ++ own_places_from (i + length xs) n ys
places_from-append i n [] ys = ap (λ k. own_places_from k n ys) (omega arith)
places_from-append i n (x ∷ xs) ys =
    let rest = places_from-append (suc i) n xs ys in
    let k : suc i + length xs ≡ i + suc (length xs) = omega arith in
    let r = rest ∙ ap (λ k. own_places_from (suc i) n xs ++ own_places_from k n ys) k in
    elim (eqb (maker_of x) n) as (λ b. (if b then i ∷ own_places_from (suc i) n (xs ++ ys) else own_places_from (suc i) n (xs ++ ys)) ≡ (if b then i ∷ own_places_from (suc i) n xs else own_places_from (suc i) n xs) ++ own_places_from (i + suc (length xs)) n ys)
    [ true ↦ ap (λ l. i ∷ l) r | false ↦ r ]

nil_both : (xs ys : List ℕ) → xs ++ ys ≡ [] → (xs ≡ []) × (ys ≡ [])
nil_both [] ys e = (refl, e)
nil_both (x ∷ xs) ys e = absurd (let n = ap length e in omega arith)

same_front : (xs ys : List ℕ) → xs ++ ys ≡ xs → ys ≡ []
same_front xs [] e = refl
same_front xs (y ∷ ys) e = absurd (let n = ap length e in omega (arith, length-append xs (y ∷ ys)))

eqb_apart : (a b : ℕ) → a ≢ b → eqb a b ≡ false
eqb_apart a b ne = ne_eqb a b ne

none_by : (i n m : ℕ) (es : List Entry) → AreBy n es → n ≢ m → own_places_from i m es ≡ []
none_by i n m [] by apart = refl
none_by i n m (e ∷ es) by apart = rw (eqb_apart (maker_of e) m (λ s. apart (sym by.0 ∙ s))) (none_by (suc i) n m es by.1 apart)

-- entries of another number leave the places
pub places_others : (n m : ℕ) (history es : List Entry) → AreBy n es → n ≢ m → places_of m (history ++ es) ≡ places_of m history
places_others n m history es by apart =
    places_from-append 0 m history es ∙ ap (λ l. places_of m history ++ l) (none_by (0 + length history) n m es by apart) ∙ append-nil (places_of m history)

-- an entry of one's own adds its place
pub places_mine : (n : ℕ) (history : List Entry) (e : Entry) → maker_of e ≡ n → places_of n (history ++ e ∷ []) ≡ places_of n history ++ length history ∷ []
places_mine n history e is =
    places_from-append 0 n history (e ∷ []) ∙ ap (λ l. places_of n history ++ l) (rw (eq-eqb (maker_of e) n is) (ap (λ (k : ℕ). k ∷ []) (omega arith)))
