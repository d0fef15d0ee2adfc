-- The term beside a variable in two lists that grow.
use Rattle.std.proofs.Common.{◌≡◌, ℕ, suc, ◌+◌, Bool, true, false, cond, List, [], ◌∷◌, ◌++◌, length, nat_lt, refl, sym, ap, ◌∙◌, arith}
use Rattle.std.specs.Prelude.{◌||◌, if◌then◌else◌, position, Some, None}
use Rattle.std.specs.List.{list_any, position_or_len}
use Rattle.std.proofs.lemmas.Bool.Decides.{nat_tests}
use Rattle.ap_defs.specs.declared.terms.Term.{Term}
use Rattle.ap_defs.specs.declared.terms.Var.{Var}
use Rattle.ap_defs.specs.Freshness.{var_eq}
use Rattle.ap_defs.specs.Terms.{GroundTerm, NominalTerm, term_of}
use Rattle.ap_defs.specs.Types.{NominalConstructor, NominalType}
use Rattle.ap_defs.specs.Typing.{embedded}
use Rattle.ap_theory.proofs.TermLemmas.{same_var, var_same}
use Rattle.ap_picks.specs.Picks.{picked}
use Rattle.ap_property.specs.Stated.{given, picks_from}
use Rattle.ap_instance.specs.Tables.{term_at_place, term_beside}

later : (b : Bool) (t : Term) (ts : List Term) (other : NominalTerm) (n : ℕ) → term_at_place (t ∷ ts) other (cond b (Some (1 + n)) None) ≡ term_at_place ts other (cond b (Some n) None)
later true t ts other n = let one : 1 + n ≡ suc n = omega arith in rw one refl
later false t ts other n = refl

starts : (n : ℕ) → nat_lt 0 (suc n) ≡ true
starts n = grind (arith, nat_tests)

-- the first one, or one of those that follow
term_first : (x : Var) (xs : List Var) (t : Term) (ts : List Term) (other : Var → NominalTerm) (y : Var) (b : Bool) → var_eq y x ≡ b
    → term_beside (x ∷ xs) (t ∷ ts) other y ≡ (if b then term_of t else term_beside xs ts other y)
term_first x xs t ts other y true e = rw (e, starts (length xs)) refl
term_first x xs t ts other y false e =
    let p = var_eq y in
    let lower : nat_lt (1 + position_or_len p xs) (suc (length xs)) ≡ nat_lt (position_or_len p xs) (length xs) = grind (arith, nat_tests) in
    rw (e, lower) (later (nat_lt (position_or_len p xs) (length xs)) t ts (other y) (position_or_len p xs))

pub flipped : (x y : Var) → var_eq x y ≡ var_eq y x
flipped x y = elim (var_eq x y) as (λ b. var_eq x y ≡ b → b ≡ var_eq y x) [
  | true ↦ λ e. sym (same_var y x (sym (var_same x y e)))
  | false ↦ λ e. elim (var_eq y x) as (λ b. var_eq y x ≡ b → false ≡ b) [
    | true ↦ λ k. let no : true ≡ false = sym (same_var x y (sym (var_same y x k))) ∙ e in cc
    | false ↦ λ k. refl
  ] refl
] refl

-- a variable that comes last
pub added_last : (xs : List Var) (ts : List Term) (x : Var) (t : Term) (other : Var → NominalTerm) (y : Var) → length xs ≡ length ts
    → term_beside (xs ++ x ∷ []) (ts ++ t ∷ []) other y ≡ term_beside xs ts (λ z. if var_eq x z then term_of t else other z) y
added_last [] [] x t other y e = term_first x [] t [] other y (var_eq y x) refl ∙ ap (λ b. if b then term_of t else other y) (flipped y x)
added_last [] (u ∷ ts) x t other y e = absurd (omega (arith, e))
added_last (z ∷ xs) [] x t other y e = absurd (omega (arith, e))
added_last (z ∷ xs) (u ∷ ts) x t other y e =
    term_first z (xs ++ x ∷ []) u (ts ++ t ∷ []) other y (var_eq y z) refl
    ∙ ap (λ r. if var_eq y z then term_of u else r) (added_last xs ts x t other y (omega (arith, e)))
    ∙ sym (term_first z xs u ts (λ v. if var_eq x v then term_of t else other v) y (var_eq y z) refl)

-- only what stands for the variable itself matters
pub beside_at : (xs : List Var) (ts : List Term) (f g : Var → NominalTerm) (y : Var) → f y ≡ g y → term_beside xs ts f y ≡ term_beside xs ts g y
beside_at xs ts f g y e = ap (λ r. term_at_place ts r (position (var_eq y) xs)) e

-- one that is there
pub added_none : (xs : List Var) (ts : List Term) (x : Var) (t : NominalTerm) (other : Var → NominalTerm) (y : Var) → length xs ≡ length ts → list_any (var_eq x) xs ≡ true
    → term_beside xs ts other y ≡ term_beside xs ts (λ z. if var_eq x z then t else other z) y
added_none [] ts x t other y e h = cc
added_none (z ∷ xs) [] x t other y e h = absurd (omega (arith, e))
added_none (z ∷ xs) (u ∷ ts) x t other y e h =
    term_first z xs u ts other y (var_eq y z) refl
    ∙ rest (λ j. added_none xs ts x t other y (omega (arith, e)) j) (var_eq y z) refl
    ∙ sym (term_first z xs u ts (λ v. if var_eq x v then t else other v) y (var_eq y z) refl)
  where
    rest : (list_any (var_eq x) xs ≡ true → term_beside xs ts other y ≡ term_beside xs ts (λ v. if var_eq x v then t else other v) y) → (b : Bool) → var_eq y z ≡ b → (if b then term_of u else term_beside xs ts other y) ≡ (if b then term_of u else term_beside xs ts (λ v. if var_eq x v then t else other v) y)
    rest earlier true k = refl
    rest earlier false k =
        elim (var_eq x z) as (λ b. var_eq x z ≡ b → (b || list_any (var_eq x) xs) ≡ true
        → term_beside xs ts other y ≡ term_beside xs ts (λ v. if var_eq x v then t else other v) y) [
          | true ↦ λ i j.
              let apart : var_eq x y ≡ false = ap (λ v. var_eq v y) (var_same x z i) ∙ flipped z y ∙ k in
              beside_at xs ts other (λ v. if var_eq x v then t else other v) y (sym (ap (λ b. if b then t else other y) apart))
          | false ↦ λ i j. earlier j
        ] refl h

-- one more term is picked
module _ (cs : List NominalConstructor) (n : ℕ) (x : Var) (ty : NominalType) (vs : List (Var × NominalType)) (ss : List ℕ) (t : Term) (made : term_of t ≡ embedded (picked cs n ty ss).0) where
  picked_given : (y : Var) → (if var_eq x y then term_of t else embedded (given (picks_from cs n vs (picked cs n ty ss).1).0 y)) ≡ embedded (given (picks_from cs n ((x, ty) ∷ vs) ss).0 y)
  picked_given y = elim (var_eq x y) as (λ b. (if b then term_of t else embedded (given (picks_from cs n vs (picked cs n ty ss).1).0 y))
      ≡ embedded (if b then (picked cs n ty ss).0 else given (picks_from cs n vs (picked cs n ty ss).1).0 y)) [ true ↦ made | false ↦ refl ]

  pub next_pick : (xs ys : List Var) (ts us : List Term) (all : Var → GroundTerm)
      → ((other : Var → NominalTerm) (y : Var) → term_beside ys us other y ≡ term_beside xs ts (λ z. if var_eq x z then term_of t else other z) y)
      → ((y : Var) → term_beside xs ts (λ z. embedded (given (picks_from cs n ((x, ty) ∷ vs) ss).0 z)) y ≡ embedded (all y))
      → (y : Var) → term_beside ys us (λ z. embedded (given (picks_from cs n vs (picked cs n ty ss).1).0 z)) y ≡ embedded (all y)
  next_pick xs ys ts us all added before y =
      added (λ z. embedded (given (picks_from cs n vs (picked cs n ty ss).1).0 z)) y
      ∙ beside_at xs ts (λ z. if var_eq x z then term_of t else embedded (given (picks_from cs n vs (picked cs n ty ss).1).0 z)) (λ z. embedded (given (picks_from cs n ((x, ty) ∷ vs) ss).0 z)) y (picked_given y)
      ∙ before y
