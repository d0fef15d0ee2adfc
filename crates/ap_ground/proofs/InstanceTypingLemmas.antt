-- Ground terms that have types: instances of typed terms, and terms that avoid names.
use Rattle.std.proofs.Common.{subst, ◌≡◌, ℕ, zero, suc, true, List, [], ◌∷◌, map, refl, sym, inl, inr}
use Rattle.std.specs.Prelude.{Option, Some, None}
use Rattle.ap_defs.specs.Alpha.{fresh}
use Rattle.ap_defs.specs.Answers.{kind_at}
use Rattle.ap_defs.specs.Freshness.{var_eq}
use Rattle.ap_defs.specs.GroundProofs.{HasTypeOf}
use Rattle.ap_defs.specs.Groundings.{Grounding, grounded}
use Rattle.ap_defs.specs.Occurrences.{vars_of_terms}
use Rattle.ap_defs.specs.Permutations.{has_name, name_eq}
use Rattle.ap_defs.specs.Printing.{constructor_in}
use Rattle.ap_defs.specs.Terms.{GroundTerm, NominalTerm, abs, app, name, pair, susp, unit}
use Rattle.ap_defs.specs.Types as types
use Rattle.ap_defs.specs.Types.{NominalConstructor, NominalKind, NominalType}
use Rattle.ap_defs.specs.Typing.{IsApplication, IsOfType, IsTyped, Want, arguments, embedded, more, nothing, one}
use Rattle.ap_defs.specs.Unification.{has_var, vars_then}
use Rattle.ap_defs.specs.declared.terms.Name.{Name}
use Rattle.ap_defs.specs.declared.terms.Var.{Var}
use Rattle.ap_program.specs.RawTyping.{HasTermType, IsTypedTerm, IsVarOf}
use Rattle.ap_program.specs.Typed.{HaveTypes}
use Rattle.ap_theory.proofs.BooleanLemmas.{or_cases, or_if_left, or_if_right}
use Rattle.ap_theory.proofs.PermutationLemmas.{name_eq_same}
use Rattle.ap_theory.proofs.TermLemmas.{same_var}
use Rattle.ap_types.proofs.WitnessLemmas.{inhabited_has_terms}
use Rattle.ap_types.specs.Statements.{AreFresh}
use Rattle.ap_ground.specs.StatementsOnTypedTerms.{InhabitedAvoidsNames, InstancesHaveTypes, InstancesHaveTypesEach}
use Rattle.ap_ground.specs.TypedGroundings.{GivesKinds}
use Rattle.ap_ground.proofs.GroundTypingLemmas.{typed_act}

fresh_each : (as' : List Name) (g : GroundTerm) → AreFresh as' g → (a : Name) → has_name a as' ≡ true → fresh a g ≡ true
fresh_each [] g h a k = cc
fresh_each (b ∷ bs) g h a k =
    elim (or_cases (name_eq a b) (has_name a bs) k) [
      | inl e ↦ subst (λ (c : Name). fresh c g ≡ true) (sym (name_eq_same a b e)) h.0
      | inr e ↦ fresh_each bs g h.1 a e
    ]

pub inhabited_avoids : InhabitedAvoidsNames
inhabited_avoids cs t h avoided = let w = inhabited_has_terms cs t h avoided in (w.0, w.1, fresh_each avoided w.0 w.2)

-- a ground term of the type that a variable has by the kinds
pub of_its_type : (cs : List NominalConstructor) (kinds : List NominalKind) (x : Var) (a : NominalType) (g : GroundTerm) → IsVarOf kinds x a
    → HasTypeOf cs (kind_at kinds x.num) g → IsOfType cs g a
of_its_type cs kinds x a g h k = subst (λ (o : Option NominalKind). HasTypeOf cs o g) h k

module _ (cs : List NominalConstructor) (kinds : List NominalKind) (g : Grounding) where
  -- What is true of a term is true of what is left: the variables that follow are typed too.
  abbrev Given : List Var → Type 0
  Given xs = GivesKinds cs kinds xs g

  abbrev Grounds : NominalTerm → Type 0
  Grounds t = (w : Want) (xs : List Var) → IsTypedTerm cs kinds t w → Given (vars_then t xs) → IsTyped cs (λ x. None) (embedded (grounded g t)) w × Given xs

  application_grounded : (t : NominalTerm) → Grounds t → (o : Option NominalConstructor) (d : ℕ) (xs : List Var) → IsApplication (IsTypedTerm cs kinds t) o d → Given (vars_then t xs)
      → IsApplication (IsTyped cs (λ x. None) (embedded (grounded g t))) o d × Given xs
  application_grounded t i None d xs h k = absurd h
  application_grounded t i (Some c) d xs h k = let l = i (arguments c.args) xs h.1 k in ((h.0, l.0), l.1)

  typed_then : (t : NominalTerm) (w : Want) (xs : List Var) → IsTypedTerm cs kinds t w → Given (vars_then t xs)
      → IsTyped cs (λ x. None) (embedded (grounded g t)) w × Given xs
  typed_then unit nothing xs h k = (tt, k)
  typed_then unit (one types.unit) xs h k = (tt, k)
  typed_then (name a) (one (types.names s)) xs h k = (h.0, k)
  typed_then (pair t u) (one (types.pair a b)) xs h k =
      let l = typed_then t (one a) (vars_then u xs) h.0 k in
      let r = typed_then u (one b) xs h.1 l.1 in
      ((l.0, r.0), r.1)
  typed_then (pair t u) (more a w) xs h k =
      let l = typed_then t (one a) (vars_then u xs) h.0 k in
      let r = typed_then u w xs h.1 l.1 in
      ((l.0, r.0), r.1)
  typed_then (app zero t) (one (types.list a)) xs h k = typed_then t nothing xs h k
  typed_then (app (suc zero) t) (one (types.list a)) xs h k = typed_then t (more a (one (types.list a))) xs h k
  typed_then (app f t) (one (types.base d)) xs h k = application_grounded t (typed_then t) (constructor_in cs f) d xs h k
  typed_then (abs a t) (one (types.abs s b)) xs h k = let l = typed_then t (one b) xs h.1 k in ((h.0.0, l.0), l.1)
  typed_then (susp p x) (one a) xs h k =
      let here : IsOfType cs (g x) a = of_its_type cs kinds x a (g x) h.1 (k x (or_if_left (var_eq x x) (has_var x xs) (same_var x x refl))) in
      (typed_act cs (λ x. None) p (g x) (one a) here, λ y l. k y (or_if_right (var_eq y x) (has_var y xs) l))
  typed_then _ _ xs h k = absurd h

  typed_each : (ts : List NominalTerm) (as' : List NominalType) → HaveTypes (HasTermType cs kinds) ts as' → Given (vars_of_terms ts) → HaveTypes (IsOfType cs) (map (grounded g) ts) as'
  typed_each [] [] h k = tt
  typed_each (t ∷ ts) (a ∷ as') h k = let l = typed_then t (one a) (vars_of_terms ts) h.0 k in (l.0, typed_each ts as' h.1 l.1)
  typed_each _ _ h k = absurd h

pub grounded_typed : InstancesHaveTypes
grounded_typed cs kinds g t a h k = (typed_then cs kinds g t (one a) [] h k).0

pub grounded_each_typed : InstancesHaveTypesEach
grounded_each_typed = typed_each
