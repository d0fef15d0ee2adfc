-- A variable that stands at a place of variables that are all different has that place.
use Rattle.std.proofs.Common.{◌≡◌, ℕ, zero, suc, ◌+◌, true, false, List, [], ◌∷◌, length, nat_lt, refl, subst, ap, ◌∙◌, arith, ◌==◌}
use Rattle.std.specs.Prelude.{position, Some, slice_get}
use Rattle.std.specs.List.{position_or_len, IsDistinct, AllByRecursion}
use Rattle.std.specs.Option.{unwrap_or}
use Rattle.std.proofs.lemmas.Bool.Decides.{nat_tests}
use Rattle.ap_defs.specs.declared.terms.Var.{Var}
use Rattle.ap_defs.specs.Freshness.{var_eq}
use Rattle.ap_answers.proofs.ConditionLemmas.{var_flips}

same_var : (n : ℕ) → (n == n) ≡ true
same_var n = grind (arith, nat_tests)

some_same : (x y : Var) → Some x ≡ Some y → x ≡ y
some_same x y h = ap (λ o. unwrap_or o x) h

at_place : (P : Var → Type 0) (xs : List Var) (i : ℕ) (x : Var) → AllByRecursion P xs → slice_get xs i ≡ Some x → P x
at_place P [] i x a h = absurd (cc)
at_place P (y ∷ ys) zero x a h = subst P (some_same y x h) a.0
at_place P (y ∷ ys) (suc i) x a h = at_place P ys i x a.1 h

first_there : (xs : List Var) (i : ℕ) (x : Var) → IsDistinct var_eq xs → slice_get xs i ≡ Some x → (position_or_len (var_eq x) xs ≡ i) × (nat_lt i (length xs) ≡ true)
unfolding IsDistinct
first_there [] i x d h = absurd (cc)
first_there (y ∷ ys) zero x d h =
    let same : var_eq x y ≡ true = ap (λ z. var_eq x z) (some_same y x h) ∙ same_var x.num in
    (rw same refl, grind (arith, nat_tests))
first_there (y ∷ ys) (suc i) x d h =
    let other : var_eq x y ≡ false = var_flips x y ∙ at_place (λ z. var_eq y z ≡ false) ys i x d.0 h in
    let rest : (position_or_len (var_eq x) ys ≡ i) × (nat_lt i (length ys) ≡ true) = first_there ys i x d.1 h in
    let step : position_or_len (var_eq x) (y ∷ ys) ≡ 1 + position_or_len (var_eq x) ys = rw other refl in
    (let k : 1 + position_or_len (var_eq x) ys ≡ suc i = rw rest.0 (omega arith) in step ∙ k, let m : nat_lt i (length ys) ≡ true = rest.1 in grind (arith, nat_tests))

pub place_found : (xs : List Var) (i : ℕ) (x : Var) → IsDistinct var_eq xs → slice_get xs i ≡ Some x → position (var_eq x) xs ≡ Some i
place_found xs i x d h =
    let there : (position_or_len (var_eq x) xs ≡ i) × (nat_lt i (length xs) ≡ true) = first_there xs i x d h in
    rw (there.0, there.1) refl
