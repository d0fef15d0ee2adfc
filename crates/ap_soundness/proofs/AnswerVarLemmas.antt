-- The variables of an answer, and their types.
use Rattle.std.proofs.Common.{subst, ◌≡◌, zero, suc, ℕ, true, false, ◌||◌, List, [], ◌∷◌, map, refl, sym, ap, ◌∙◌, inl, inr, true≢false}
use Rattle.std.specs.Prelude.{if◌then◌else◌, nat_lt, Option, Some, None}
use Rattle.ap_defs.specs.Answers.{add_var, ascending_vars, closed_term, kind_at, typed_vars, with_type}
use Rattle.ap_defs.specs.Canonical.{canonical_term}
use Rattle.ap_defs.specs.Freshness.{var_eq}
use Rattle.ap_defs.specs.GroundProofs.{HasTypeOf}
use Rattle.ap_defs.specs.Groundings.{Grounding}
use Rattle.ap_defs.specs.Occurrences.{vars_of_terms}
use Rattle.ap_defs.specs.Resolution.{State}
use Rattle.ap_defs.specs.Terms.{NominalTerm, abs, app, name, pair, susp, unit}
use Rattle.ap_defs.specs.Types as types
use Rattle.ap_defs.specs.Types.{NominalConstructor, NominalKind, NominalType}
use Rattle.ap_defs.specs.Typing.{IsOfType}
use Rattle.ap_defs.specs.Unification.{has_var, vars_then}
use Rattle.ap_defs.specs.declared.terms.Var.{Var}
use Rattle.ap_program.specs.RawTyping.{AreVarsOf, IsVarOf}
use Rattle.ap_search.proofs.RecordLemmas.{has_var-append, vars_then-append}
use Rattle.ap_theory.proofs.BooleanLemmas.{or_cases, or_if_left, or_if_right}
use Rattle.ap_theory.proofs.TermLemmas.{var_same}
use Rattle.ap_program.specs.Typed.{AreInhabited}
use Rattle.ap_types.specs.Inhabited.{IsInhabited}
use Rattle.ap_ground.specs.TypedGroundings.{GivesTypes, HaveInhabitants}

has_added : (x y : Var) (ys : List Var) → (var_eq x y || has_var x ys) ≡ true → has_var x (add_var y ys) ≡ true
has_added x y [] h = h
has_added x y (z ∷ ys) h =
    elim (var_eq y z) as (λ v. var_eq y z ≡ v → has_var x (if v then (z ∷ ys) else (if nat_lt y.num z.num then (y ∷ z ∷ ys) else (z ∷ add_var y ys))) ≡ true) [
      | true ↦ λ e. elim (or_cases (var_eq x y) (var_eq x z || has_var x ys) h) [
        | inl i ↦ or_if_left (var_eq x z) (has_var x ys) (ap (var_eq x) (sym (var_same y z e)) ∙ i)
        | inr i ↦ i
      ]
      | false ↦ λ e. elim (nat_lt y.num z.num) as (λ v. has_var x (if v then (y ∷ z ∷ ys) else (z ∷ add_var y ys)) ≡ true) [
        | true ↦ h
        | false ↦ elim (or_cases (var_eq x y) (var_eq x z || has_var x ys) h) [
          | inl i ↦ or_if_right (var_eq x z) (has_var x (add_var y ys)) (has_added x y ys (or_if_left (var_eq x y) (has_var x ys) i))
          | inr i ↦ elim (or_cases (var_eq x z) (has_var x ys) i) [
            | inl j ↦ or_if_left (var_eq x z) (has_var x (add_var y ys)) j
            | inr j ↦ or_if_right (var_eq x z) (has_var x (add_var y ys)) (has_added x y ys (or_if_right (var_eq x y) (has_var x ys) j))
          ]
        ]
      ]
    ] refl

pub has_ascending : (x : Var) (xs : List Var) → has_var x xs ≡ true → has_var x (ascending_vars xs) ≡ true
has_ascending x [] h = h
has_ascending x (y ∷ ys) h =
    has_added x y (ascending_vars ys) (elim (or_cases (var_eq x y) (has_var x ys) h) [
      | inl i ↦ or_if_left (var_eq x y) (has_var x (ascending_vars ys)) i
      | inr i ↦ or_if_right (var_eq x y) (has_var x (ascending_vars ys)) (has_ascending x ys i)
    ])

-- a variable of what stands for a variable of the list
pub has_in_closed : (s : State) (x y : Var) (xs : List Var) → has_var x xs ≡ true → has_var y (vars_then (closed_term s (susp [] x)) []) ≡ true
    → has_var y (vars_of_terms (map (λ z. closed_term s (susp [] z)) xs)) ≡ true
has_in_closed s x y [] h k = absurd (true≢false (sym h))
has_in_closed s x y (z ∷ xs) h k =
    let rest = vars_of_terms (map (λ v. closed_term s (susp [] v)) xs) in
    let here = vars_then (closed_term s (susp [] z)) [] in
    let split : has_var y (vars_then (closed_term s (susp [] z)) rest) ≡ (has_var y here || has_var y rest) =
    ap (has_var y) (vars_then-append (closed_term s (susp [] z)) [] rest) ∙ has_var-append y here rest in
    split ∙ elim (or_cases (var_eq x z) (has_var x xs) h) [
      | inl i ↦ or_if_left (has_var y here) (has_var y rest) (subst (λ (v : Var). has_var y (vars_then (closed_term s (susp [] v)) []) ≡ true) (var_same x z i) k)
      | inr i ↦ or_if_right (has_var y here) (has_var y rest) (has_in_closed s x y xs i k)
    ]

-- canonical lists change no variables
pub canonical_vars : (t : NominalTerm) (xs : List Var) → vars_then (canonical_term t) xs ≡ vars_then t xs
canonical_vars unit xs = refl
canonical_vars (name a) xs = refl
canonical_vars (pair t u) xs = ap (vars_then (canonical_term t)) (canonical_vars u xs) ∙ canonical_vars t (vars_then u xs)
canonical_vars (app f t) xs = canonical_vars t xs
canonical_vars (abs a t) xs = canonical_vars t xs
canonical_vars (susp p x) xs = refl

-- a variable of an answer has a term of its type
pub given_type : (cs : List NominalConstructor) (kinds : List NominalKind) (g : Grounding) (xs : List Var) → GivesTypes cs (typed_vars kinds xs) g
    → (x : Var) (a : NominalType) → has_var x xs ≡ true → IsVarOf kinds x a → HasTypeOf cs (kind_at kinds x.num) (g x)
given_type cs kinds g [] h x a m v = absurd (true≢false (sym m))
given_type cs kinds g (y ∷ ys) h x a m v =
    elim (or_cases (var_eq x y) (has_var x ys) m) [
      | inl i ↦
          let same : y ≡ x = sym (var_same x y i) in
          let here = subst (λ (o : Option NominalKind). GivesTypes cs (with_type y o (typed_vars kinds ys)) g) (ap (λ (z : Var). kind_at kinds z.num) same ∙ v) h in
          subst (λ (o : Option NominalKind). HasTypeOf cs o (g x)) (sym v) (subst (λ (z : Var). IsOfType cs (g z) a) same here.0)
      | inr i ↦ given_type cs kinds g ys (later (kind_at kinds y.num) h) x a i v
    ]
  where
    later : (o : Option NominalKind) → GivesTypes cs (with_type y o (typed_vars kinds ys)) g → GivesTypes cs (typed_vars kinds ys) g
    later None h = h
    later (Some (types.name s)) h = h
    later (Some (types.var t)) h = h.1

-- the variables of an answer have the types beside them
pub answer_kinds : (kinds : List NominalKind) (xs : List Var) → AreVarsOf kinds (typed_vars kinds xs)
answer_kinds kinds [] = tt
answer_kinds kinds (x ∷ xs) = first (kind_at kinds x.num) refl (answer_kinds kinds xs)
  where
    first : (o : Option NominalKind) → kind_at kinds x.num ≡ o → AreVarsOf kinds (typed_vars kinds xs) → AreVarsOf kinds (with_type x o (typed_vars kinds xs))
    first None e rest = rest
    first (Some (types.name s)) e rest = rest
    first (Some (types.var t)) e rest = (e, rest)

-- and those are inhabited
kind_inhabited : (cs : List NominalConstructor) (kinds : List NominalKind) (n : ℕ) (t : NominalType) → AreInhabited cs kinds → kind_at kinds n ≡ Some (types.var t) → IsInhabited cs t
kind_inhabited cs [] n t h e = cc
kind_inhabited cs (types.name s ∷ ks) zero t h e = cc
kind_inhabited cs (types.name s ∷ ks) (suc n) t h e = kind_inhabited cs ks n t h e
kind_inhabited cs (types.var u ∷ ks) zero t h e = let same : u ≡ t = cc in subst (λ (v : NominalType). IsInhabited cs v) same h.0
kind_inhabited cs (types.var u ∷ ks) (suc n) t h e = kind_inhabited cs ks n t h.1 e

pub answer_inhabited : (cs : List NominalConstructor) (kinds : List NominalKind) → AreInhabited cs kinds → (xs : List Var) → HaveInhabitants cs (typed_vars kinds xs)
answer_inhabited cs kinds h [] = tt
answer_inhabited cs kinds h (x ∷ xs) = first (kind_at kinds x.num) refl (answer_inhabited cs kinds h xs)
  where
    first : (o : Option NominalKind) → kind_at kinds x.num ≡ o → HaveInhabitants cs (typed_vars kinds xs) → HaveInhabitants cs (with_type x o (typed_vars kinds xs))
    first None e rest = rest
    first (Some (types.name s)) e rest = rest
    first (Some (types.var t)) e rest = (kind_inhabited cs kinds x.num t h e, rest)
