-- The test of types is true just where a term is typed, and typed terms have typed instances.
use Rattle.std.proofs.Common.{subst, ◌≡◌, ℕ, zero, suc, true, false, List, [], ◌∷◌, map, refl, sym, ap, ap₂, ◌∙◌, true≢false}
use Rattle.std.specs.Prelude.{if◌then◌else◌, ◌==◌, Option, Some, None}
use Rattle.ap_defs.specs.declared.terms.Name.{Name}
use Rattle.ap_defs.specs.declared.terms.Var.{Var}
use Rattle.ap_defs.specs.Answers.{kind_at}
use Rattle.ap_defs.specs.Freshness.{var_eq}
use Rattle.ap_defs.specs.GroundProofs.{AreOfSorts, AreOfTypes, HasTypeOf}
use Rattle.ap_defs.specs.Groundings.{Grounding, grounded}
use Rattle.ap_defs.specs.Printing.{constructor_in}
use Rattle.ap_defs.specs.Terms as terms
use Rattle.ap_defs.specs.Terms.{NominalTerm}
use Rattle.ap_defs.specs.Types as types
use Rattle.ap_defs.specs.Types.{NominalConstructor, NominalKind, NominalType}
use Rattle.ap_defs.specs.Typing.{IsApplication, IsOfType, IsTyped, VarTypes, Want, arguments, embedded, more, nothing, one}
use Rattle.ap_theory.proofs.BooleanLemmas.{and_both, and_left, and_right}
use Rattle.ap_theory.proofs.TermLemmas.{number_same, same_number, var_same}
use Rattle.ap_ground.specs.TypedGroundings.{GivesTypes}
use Rattle.ap_ground.proofs.GroundTypingLemmas.{typed_act}
use Rattle.ap_checks.specs.StatementsOnChecks.{TypesAreTested}
use Rattle.ap_checks.specs.TypeTests.{has_kind, have_kinds, have_sorts, is_application, is_type, is_typed, type_beside, type_eq}

-- Equal types.
type_eq_same : (a b : NominalType) → type_eq a b ≡ true → a ≡ b
type_eq_same types.unit types.unit h = refl
type_eq_same (types.names s) (types.names r) h = ap types.names (number_same s r h)
type_eq_same (types.base d) (types.base e) h = ap types.base (number_same d e h)
type_eq_same (types.pair a b) (types.pair c d) h = ap₂ types.pair (type_eq_same a c (and_left (type_eq a c) (type_eq b d) h)) (type_eq_same b d (and_right (type_eq a c) (type_eq b d) h))
type_eq_same (types.list a) (types.list b) h = ap types.list (type_eq_same a b h)
type_eq_same (types.abs s a) (types.abs r b) h = ap₂ types.abs (number_same s r (and_left (s == r) (type_eq a b) h)) (type_eq_same a b (and_right (s == r) (type_eq a b) h))
type_eq_same _ _ h = absurd (true≢false (sym h))

type_eq_itself : (a : NominalType) → type_eq a a ≡ true
type_eq_itself types.unit = refl
type_eq_itself (types.names s) = same_number s s refl
type_eq_itself (types.base d) = same_number d d refl
type_eq_itself (types.pair a b) = and_both (type_eq a a) (type_eq b b) (type_eq_itself a) (type_eq_itself b)
type_eq_itself (types.list a) = type_eq_itself a
type_eq_itself (types.abs s a) = and_both (s == s) (type_eq a a) (same_number s s refl) (type_eq_itself a)

is_type_some : (o : Option NominalType) (a : NominalType) → is_type o a ≡ true → o ≡ Some a
is_type_some None a h = absurd (true≢false (sym h))
is_type_some (Some b) a h = ap Some (type_eq_same b a h)

some_is_type : (o : Option NominalType) (a : NominalType) → o ≡ Some a → is_type o a ≡ true
some_is_type o a h = ap (λ z. is_type z a) h ∙ type_eq_itself a

module _ (cs : List NominalConstructor) (vars : VarTypes) where
  -- The test tells that the term is typed.
  application_holds : (t : NominalTerm) → ((w : Want) → is_typed cs vars t w ≡ true → IsTyped cs vars t w) → (o : Option NominalConstructor) (d : ℕ)
      → is_application (is_typed cs vars t) o d ≡ true → IsApplication (IsTyped cs vars t) o d
  application_holds t inner None d h = absurd (true≢false (sym h))
  application_holds t inner (Some c) d h =
      (number_same c.result d (and_left (c.result == d) (is_typed cs vars t (arguments c.args)) h), inner (arguments c.args) (and_right (c.result == d) (is_typed cs vars t (arguments c.args)) h))

  pub typed_holds : (t : NominalTerm) (w : Want) → is_typed cs vars t w ≡ true → IsTyped cs vars t w
  typed_holds terms.unit nothing h = tt
  typed_holds terms.unit (one types.unit) h = tt
  typed_holds (terms.name a) (one (types.names s)) h = number_same a.sort s h
  typed_holds (terms.pair t u) (one (types.pair a b)) h =
      (typed_holds t (one a) (and_left (is_typed cs vars t (one a)) (is_typed cs vars u (one b)) h), typed_holds u (one b) (and_right (is_typed cs vars t (one a)) (is_typed cs vars u (one b)) h))
  typed_holds (terms.pair t u) (more a w) h =
      (typed_holds t (one a) (and_left (is_typed cs vars t (one a)) (is_typed cs vars u w) h), typed_holds u w (and_right (is_typed cs vars t (one a)) (is_typed cs vars u w) h))
  typed_holds (terms.app zero t) (one (types.list a)) h = typed_holds t nothing h
  typed_holds (terms.app (suc zero) t) (one (types.list a)) h = typed_holds t (more a (one (types.list a))) h
  typed_holds (terms.app f t) (one (types.base d)) h = application_holds t (typed_holds t) (constructor_in cs f) d h
  typed_holds (terms.abs a t) (one (types.abs s b)) h =
      (number_same a.sort s (and_left (a.sort == s) (is_typed cs vars t (one b)) h), typed_holds t (one b) (and_right (a.sort == s) (is_typed cs vars t (one b)) h))
  typed_holds (terms.susp p x) (one a) h = is_type_some (vars x) a h
  typed_holds _ _ h = absurd (true≢false (sym h))

  -- And the other way round.
  holds_application : (t : NominalTerm) → ((w : Want) → IsTyped cs vars t w → is_typed cs vars t w ≡ true) → (o : Option NominalConstructor) (d : ℕ)
      → IsApplication (IsTyped cs vars t) o d → is_application (is_typed cs vars t) o d ≡ true
  holds_application t inner None d h = absurd h
  holds_application t inner (Some c) d h = and_both (c.result == d) (is_typed cs vars t (arguments c.args)) (same_number c.result d h.0) (inner (arguments c.args) h.1)

  pub holds_typed : (t : NominalTerm) (w : Want) → IsTyped cs vars t w → is_typed cs vars t w ≡ true
  holds_typed terms.unit nothing h = refl
  holds_typed terms.unit (one types.unit) h = refl
  holds_typed (terms.name a) (one (types.names s)) h = same_number a.sort s h
  holds_typed (terms.pair t u) (one (types.pair a b)) h = and_both (is_typed cs vars t (one a)) (is_typed cs vars u (one b)) (holds_typed t (one a) h.0) (holds_typed u (one b) h.1)
  holds_typed (terms.pair t u) (more a w) h = and_both (is_typed cs vars t (one a)) (is_typed cs vars u w) (holds_typed t (one a) h.0) (holds_typed u w h.1)
  holds_typed (terms.app zero t) (one (types.list a)) h = holds_typed t nothing h
  holds_typed (terms.app (suc zero) t) (one (types.list a)) h = holds_typed t (more a (one (types.list a))) h
  holds_typed (terms.app f t) (one (types.base d)) h = holds_application t (holds_typed t) (constructor_in cs f) d h
  holds_typed (terms.abs a t) (one (types.abs s b)) h = and_both (a.sort == s) (is_typed cs vars t (one b)) (same_number a.sort s h.0) (holds_typed t (one b) h.1)
  holds_typed (terms.susp p x) (one a) h = some_is_type (vars x) a h
  holds_typed _ _ h = absurd h

  -- Instances of typed terms, where each variable has a term of its type.
  module _ (g : Grounding) (given : (x : Var) (a : NominalType) → vars x ≡ Some a → IsOfType cs (g x) a) where
    application_instance : (t : NominalTerm) → ((w : Want) → IsTyped cs vars t w → IsTyped cs (λ x. None) (embedded (grounded g t)) w) → (o : Option NominalConstructor) (d : ℕ)
        → IsApplication (IsTyped cs vars t) o d → IsApplication (IsTyped cs (λ x. None) (embedded (grounded g t))) o d
    application_instance t inner None d h = absurd h
    application_instance t inner (Some c) d h = (h.0, inner (arguments c.args) h.1)

    typed_instance : (t : NominalTerm) (w : Want) → IsTyped cs vars t w → IsTyped cs (λ x. None) (embedded (grounded g t)) w
    typed_instance terms.unit nothing h = tt
    typed_instance terms.unit (one types.unit) h = tt
    typed_instance (terms.name a) (one (types.names s)) h = h
    typed_instance (terms.pair t u) (one (types.pair a b)) h = (typed_instance t (one a) h.0, typed_instance u (one b) h.1)
    typed_instance (terms.pair t u) (more a w) h = (typed_instance t (one a) h.0, typed_instance u w h.1)
    typed_instance (terms.app zero t) (one (types.list a)) h = typed_instance t nothing h
    typed_instance (terms.app (suc zero) t) (one (types.list a)) h = typed_instance t (more a (one (types.list a))) h
    typed_instance (terms.app f t) (one (types.base d)) h = application_instance t (typed_instance t) (constructor_in cs f) d h
    typed_instance (terms.abs a t) (one (types.abs s b)) h = (h.0, typed_instance t (one b) h.1)
    typed_instance (terms.susp p x) (one a) h = typed_act cs (λ y. None) p (g x) (one a) (given x a h)
    typed_instance _ _ h = absurd h

    pub kind_instance : (o : Option NominalKind) (t : NominalTerm) → has_kind cs vars o t ≡ true → HasTypeOf cs o (grounded g t)
    kind_instance (Some (types.var a)) t h = typed_instance t (one a) (typed_holds t (one a) h)
    kind_instance (Some (types.name s)) t h = absurd (true≢false (sym h))
    kind_instance None t h = absurd (true≢false (sym h))

    pub kinds_instance : (kinds : List NominalKind) (xs : List Var) (ts : List NominalTerm) → have_kinds cs vars kinds xs ts ≡ true → AreOfTypes cs kinds xs (map (grounded g) ts)
    kinds_instance kinds [] [] h = tt
    kinds_instance kinds (x ∷ xs) (t ∷ ts) h =
        let first = has_kind cs vars (kind_at kinds x.num) t in
        let rest = have_kinds cs vars kinds xs ts in
        (kind_instance (kind_at kinds x.num) t (and_left first rest h), kinds_instance kinds xs ts (and_right first rest h))
    kinds_instance kinds _ _ h = absurd (true≢false (sym h))

pub types_tested : TypesAreTested
types_tested cs vars t w = (typed_holds cs vars t w, holds_typed cs vars t w)

-- names of the sorts of their places
pub sorts_hold : (as' cs : List Name) → have_sorts as' cs ≡ true → AreOfSorts as' cs
sorts_hold [] [] h = tt
sorts_hold (a ∷ as') (c ∷ cs) h =
    (number_same c.sort a.sort (and_left (c.sort == a.sort) (have_sorts as' cs) h), sorts_hold as' cs (and_right (c.sort == a.sort) (have_sorts as' cs) h))
sorts_hold _ _ h = absurd (true≢false (sym h))

-- a grounding that gives each typed variable a term of its type
pub given_beside : (cs : List NominalConstructor) (g : Grounding) (vs : List (Var × NominalType)) → GivesTypes cs vs g
    → (x : Var) (a : NominalType) → type_beside vs x ≡ Some a → IsOfType cs (g x) a
given_beside cs g [] h x a e = cc
given_beside cs g (v ∷ vs) h x a e =
    elim (var_eq v.0 x) as (λ b. var_eq v.0 x ≡ b → (if b then Some v.1 else type_beside vs x) ≡ Some a → IsOfType cs (g x) a) [
      | true ↦ λ i j.
          let same : v.1 ≡ a = cc in
          subst (λ (z : Var). IsOfType cs (g z) a) (var_same v.0 x i) (subst (λ (b : NominalType). IsOfType cs (g v.0) b) same h.0)
      | false ↦ λ i j. given_beside cs g vs h.1 x a j
    ] refl e
