-- The test of kids says what it is to say.
use Rattle.std.proofs.Common.{◌≡◌, ◌≢◌, ℕ, zero, suc, ◌+◌, ◌-◌, ◌<◌, ◌≤◌, Bool, true, false, ◌==◌, ◌&&◌, if◌then◌else◌, Some, None, List, [], ◌∷◌, ◌++◌, length, drop, sym, refl, ap, ◌∙◌, subst, true≢false, eq-eqb, ne_eqb, add-one, arith}
use Rattle.std.specs.Bool.{MatchBool}
use Rattle.std.proofs.lemmas.Bool.Decides.{nat_tests}
use Rattle.std.proofs.lemmas.Bool.{and_parts}
use mathlib.Core.Logic.{dite}
use native.Mathlib.Decide.{ℕ_discrete}
use Rattle.ap_defs.specs.Answers.{NominalOut}
use Rattle.ap_paths.specs.Trees.{Choices, Outputs, InChoiceTree, times, Ascends, AreAtMost, AreKids}
use Rattle.ap_paths.proofs.Frontiers.{kids_in}
use Rattle.ap_play.specs.Covers.{covers, is_none, starts}
use Rattle.ap_tools.proofs.Places.{same_some, some_there}

none_is : (xs : List NominalOut) → is_none xs ≡ true → xs ≡ []
none_is [] e = refl
none_is (x ∷ xs) e = absurd (true≢false (sym e))

is_same : (x y : ℕ) → (x == y) ≡ true → x ≡ y
is_same x y e = grind (arith, nat_tests)

is_other : (x y : ℕ) → (x == y) ≡ false → x ≢ y
is_other x y e = λ s. true≢false (sym (eq-eqb x y s) ∙ e)

abbrev count_if : Bool → ℕ
count_if b = if b then 1 else 0

counts : (k j : ℕ) → k ≡ j → count_if (k == j) ≡ 1
counts k j e = ap count_if (eq-eqb k j e)

counts_not : (k j : ℕ) → k ≢ j → count_if (k == j) ≡ 0
counts_not k j e = ap count_if (ne_eqb k j e)

none_below : (i j : ℕ) (ks : List ℕ) → i < j → Ascends j ks → times i ks ≡ 0
none_below i j [] l h = refl
none_below i j (k ∷ ks) l h = let a = h.0 in let r = none_below i (suc k) ks (omega arith) h.1 in let s = counts_not k i (λ e. omega arith) in omega arith

abbrev AreUnder : ℕ → List ℕ → Type 0
AreUnder n [] = Unit {0}
AreUnder n (k ∷ ks) = (k < n) × AreUnder n ks

under_same : (m n : ℕ) (ks : List ℕ) → m ≡ n → AreUnder m ks → AreUnder n ks
under_same m n ks e h = subst (λ k. AreUnder k ks) e h

abbrev LeavesOut : Outputs → List ℕ → ℕ → ℕ → List ℕ → Type 0
LeavesOut at p i n ks = (k : ℕ) → i ≤ k → k < n → times k ks ≡ 0 → at (p ++ k ∷ []) ≡ []

abbrev Covered : Outputs → List ℕ → ℕ → ℕ → List ℕ → Type 0
Covered at p i n ks = Ascends i ks × AreUnder (i + n) ks × LeavesOut at p i (i + n) ks

sound : (at : Outputs) (p : List ℕ) (i n : ℕ) (ks : List ℕ) → covers at p i n ks ≡ true → Covered at p i n ks
sound at p i zero [] e = (tt, tt, λ k low high none. absurd (omega arith))
sound at p i zero (k ∷ ks) e = absurd (true≢false (sym e))
sound at p i (suc n) [] e =
    let b = and_parts (is_none (at (p ++ i ∷ []))) (covers at p (suc i) n []) e in
    let r = sound at p (suc i) n [] b.1 in (
      tt,
      tt,
      λ k low high none. dite (ℕ_discrete i k)
          (λ same. subst (λ (j : ℕ). at (p ++ j ∷ []) ≡ []) same (none_is (at (p ++ i ∷ [])) b.0))
          (λ ne. r.2 k (omega arith) (omega arith) none),
    )
sound at p i (suc n) (k ∷ ks) e =
    let step : (b : Bool) → (k == i) ≡ b → (if b then covers at p (suc i) n ks else is_none (at (p ++ i ∷ [])) && covers at p (suc i) n (k ∷ ks)) ≡ true → Covered at p i (suc n) (k ∷ ks) = λ b.
    elim b as (λ b. (k == i) ≡ b → (if b then covers at p (suc i) n ks else is_none (at (p ++ i ∷ [])) && covers at p (suc i) n (k ∷ ks)) ≡ true → Covered at p i (suc n) (k ∷ ks)) [
      | true ↦ λ s h.
          (let same = is_same k i s in
          let r = sound at p (suc i) n ks h in (
            ((omega arith), subst (λ (j : ℕ). Ascends (suc j) ks) (sym same) r.0),
            ((omega arith), under_same (suc i + n) (i + suc n) ks (omega arith) r.1),
            λ j low high none. (let other : k ≢ j = λ z. (let one = counts k j z in omega arith) in let not_one = counts_not k j other in r.2 j (omega arith) (omega arith) (omega arith)),
          ))
      | false ↦ λ s h.
          (let ne = is_other k i s in
          let b = and_parts (is_none (at (p ++ i ∷ []))) (covers at p (suc i) n (k ∷ ks)) h in
          let r = sound at p (suc i) n (k ∷ ks) b.1 in (
            ((let z = r.0.0 in omega arith), r.0.1),
            under_same (suc i + n) (i + suc n) (k ∷ ks) (omega arith) r.1,
            λ j low high none. dite (ℕ_discrete i j)
                (λ same. subst (λ (x : ℕ). at (p ++ x ∷ []) ≡ []) same (none_is (at (p ++ i ∷ [])) b.0))
                (λ other. r.2 j (omega arith) (omega arith) none),
          ))
    ] in
    step (k == i) refl e

complete : (at : Outputs) (p : List ℕ) (i n : ℕ) (ks : List ℕ) → Covered at p i n ks → covers at p i n ks ≡ true
complete at p i zero [] h = refl
complete at p i zero (k ∷ ks) h = absurd (let a = h.0.0 in let b = h.1.0 in omega arith)
complete at p i (suc n) [] h =
    let r = complete at p (suc i) n [] (tt, tt, λ k low high none. h.2 k (omega arith) (omega arith) none) in
    let here : at (p ++ i ∷ []) ≡ [] = h.2 i (omega arith) (omega arith) refl in
    ap (λ o. is_none o && covers at p (suc i) n []) here ∙ r
complete at p i (suc n) (k ∷ ks) h =
    let step : (b : Bool) → (k == i) ≡ b → (if b then covers at p (suc i) n ks else is_none (at (p ++ i ∷ [])) && covers at p (suc i) n (k ∷ ks)) ≡ true = λ b.
    elim b as (λ b. (k == i) ≡ b → (if b then covers at p (suc i) n ks else is_none (at (p ++ i ∷ [])) && covers at p (suc i) n (k ∷ ks)) ≡ true) [
      | true ↦ λ s.
          (let same = is_same k i s in
          complete at p (suc i) n ks (
            subst (λ (j : ℕ). Ascends (suc j) ks) same h.0.1,
            under_same (i + suc n) (suc i + n) ks (omega arith) h.1.1,
            λ j low high none. (let other = counts_not k j (λ z. omega arith) in h.2 j (omega arith) (omega arith) (omega arith)),
          ))
      | false ↦ λ s.
          (let ne = is_other k i s in
          let up : i < k = (let z = h.0.0 in let y : k ≢ i = ne in omega arith) in
          let here : at (p ++ i ∷ []) ≡ [] = h.2 i (omega arith) (omega arith) (none_below i k (k ∷ ks) up ((omega arith), h.0.1)) in
          let r = complete at p (suc i) n (k ∷ ks) (((omega arith), h.0.1), under_same (i + suc n) (suc i + n) (k ∷ ks) (omega arith) h.1, λ j low high none. h.2 j (omega arith) (omega arith) none) in
          ap (λ o. is_none o && covers at p (suc i) n (k ∷ ks)) here ∙ r)
    ] in
    step (k == i) refl

under_at_most : (w : ℕ) (ks : List ℕ) → AreUnder (1 + w) ks → AreAtMost w ks
under_at_most w [] h = tt
under_at_most w (k ∷ ks) h = ((let z = h.0 in omega arith), under_at_most w ks h.1)

at_most_under : (w : ℕ) (ks : List ℕ) → AreAtMost w ks → AreUnder (1 + w) ks
at_most_under w [] h = tt
at_most_under w (k ∷ ks) h = ((let z = h.0 in omega arith), at_most_under w ks h.1)

pub judged : (c : Choices) (at : Outputs) (p ks : List ℕ) (w : ℕ) (b : Bool) → c p ≡ Some w → b ≡ covers at p 1 w ks → MatchBool b (AreKids c at p ks) (AreKids c at p ks → ⊥)
judged c at p ks w true wide is =
    let r = sound at p 1 w ks (sym is) in (w, wide, r.0, under_at_most w ks r.1, λ k low high none. r.2 k low (omega arith) none)
judged c at p ks w false wide is = λ kids.
    let same : kids.0 ≡ w = same_some kids.0 w (sym kids.1 ∙ wide) in
    let all : covers at p 1 kids.0 ks ≡ true = complete at p 1 kids.0 ks (kids.2, at_most_under kids.0 ks kids.3, λ k low high none. kids.4 k low (omega arith) none) in
    true≢false (sym all ∙ ap (λ n. covers at p 1 n ks) same ∙ sym is)

pub no_kids : (c : Choices) (at : Outputs) (p ks : List ℕ) → c p ≡ None → AreKids c at p ks → ⊥
no_kids c at p ks ends kids = some_there kids.0 (sym kids.1 ∙ ends)

-- the choice i of p is in the tree
pub choice_in : (c : Choices) (p : List ℕ) (w i : ℕ) → InChoiceTree c p → c p ≡ Some w → i < w → InChoiceTree c (p ++ (i + 1) ∷ [])
choice_in c p w i there wide l = (kids_in c p w 1 ((i + 1) ∷ []) there wide (omega arith) ((omega arith), tt) ((omega arith), tt)).0

covers_next : (at : Outputs) (p : List ℕ) (i n : ℕ) (ls : List ℕ) → starts i ls ≡ true → covers at p i (suc n) ls ≡ covers at p (suc i) n (drop 1 ls)
covers_next at p i n [] e = absurd (true≢false (sym e))
covers_next at p i n (k ∷ ks) e = rw e refl

covers_barren : (at : Outputs) (p : List ℕ) (i n : ℕ) (ls : List ℕ) → starts i ls ≡ false → is_none (at (p ++ i ∷ [])) ≡ true → covers at p i (suc n) ls ≡ covers at p (suc i) n ls
covers_barren at p i n [] e none = rw none refl
covers_barren at p i n (k ∷ ks) e none = rw (e, none) refl

drop_again : (n : ℕ) (xs : List ℕ) → drop 1 (drop n xs) ≡ drop (suc n) xs
drop_again zero [] = refl
drop_again zero (x ∷ xs) = refl
drop_again (suc n) [] = refl
drop_again (suc n) (x ∷ xs) = drop_again n xs

starts_below : (n k : ℕ) (xs : List ℕ) → starts k (drop n xs) ≡ true → n < length xs
starts_below zero k [] e = absurd (true≢false (sym e))
starts_below zero k (x ∷ xs) e = omega arith
starts_below (suc n) k [] e = absurd (true≢false (sym e))
starts_below (suc n) k (x ∷ xs) e = let z = starts_below n k xs e in omega arith

pub next_kid : (at : Outputs) (p : List ℕ) (i w next : ℕ) (ks : List ℕ) → i < w → starts (i + 1) (drop next ks) ≡ true
    → (covers at p (suc i) (w - i) (drop next ks) ≡ covers at p (suc (i + 1)) (w - (i + 1)) (drop (next + 1) ks)) × (next + 1 ≤ length ks)
next_kid at p i w next ks l e =
    let e' : starts (suc i) (drop next ks) ≡ true = ap (λ k. starts k (drop next ks)) (sym (add-one i)) ∙ e in (
      ap (λ m. covers at p (suc i) m (drop next ks)) (let z : w - i ≡ suc (w - (i + 1)) = omega arith in z)
          ∙ covers_next at p (suc i) (w - (i + 1)) (drop next ks) e'
          ∙ ap (covers at p (suc (suc i)) (w - (i + 1))) (drop_again next ks ∙ ap (λ m. drop m ks) (sym (add-one next)))
          ∙ ap (λ m. covers at p (suc m) (w - (i + 1)) (drop (next + 1) ks)) (sym (add-one i)),
      (let z = starts_below next (i + 1) ks e in omega arith),
    )

pub barren_choice : (at : Outputs) (p : List ℕ) (i w next : ℕ) (ks : List ℕ) → i < w → starts (i + 1) (drop next ks) ≡ false → is_none (at (p ++ (i + 1) ∷ [])) ≡ true
    → covers at p (suc i) (w - i) (drop next ks) ≡ covers at p (suc (i + 1)) (w - (i + 1)) (drop next ks)
barren_choice at p i w next ks l e none =
    let e' : starts (suc i) (drop next ks) ≡ false = ap (λ k. starts k (drop next ks)) (sym (add-one i)) ∙ e in
    let none' : is_none (at (p ++ suc i ∷ [])) ≡ true = ap (λ k. is_none (at (p ++ k ∷ []))) (sym (add-one i)) ∙ none in
    ap (λ m. covers at p (suc i) m (drop next ks)) (let z : w - i ≡ suc (w - (i + 1)) = omega arith in z)
    ∙ covers_barren at p (suc i) (w - (i + 1)) (drop next ks) e' none'
    ∙ ap (λ m. covers at p (suc m) (w - (i + 1)) (drop next ks)) (sym (add-one i))

none_left : (n : ℕ) (xs : List ℕ) → n ≤ length xs → is_none (drop n xs) ≡ (n == length xs)
none_left zero [] l = refl
none_left zero (x ∷ xs) l = sym (ne_eqb zero (suc (length xs)) (λ e. omega arith))
none_left (suc n) [] l = absurd (omega arith)
none_left (suc n) (x ∷ xs) l = none_left n xs (omega arith) ∙ grind (arith, nat_tests)

pub all_covered : (at : Outputs) (p : List ℕ) (i w next : ℕ) (ks : List ℕ) → i ≤ w → w ≤ i → next ≤ length ks → covers at p (suc i) (w - i) (drop next ks) ≡ (next == length ks)
all_covered at p i w next ks a b l = ap (λ m. covers at p (suc i) m (drop next ks)) (let z : w - i ≡ 0 = omega arith in z) ∙ none_left next ks l
