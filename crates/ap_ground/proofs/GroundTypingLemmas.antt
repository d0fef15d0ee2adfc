-- A permutation keeps the types of ground terms.
use Rattle.std.proofs.Common.{zero, suc, List, []}
use Rattle.std.proofs.Common.{◌∙◌}
use Rattle.std.specs.Prelude.{ℕ, ◌∷◌, map, Option, Some, None}
use Rattle.ap_defs.specs.Answers.{kind_at}
use Rattle.ap_defs.specs.GroundProofs.{AreOfTypes, HasTypeOf}
use Rattle.ap_defs.specs.Printing.{constructor_in}
use Rattle.ap_defs.specs.Terms.{GroundTerm, abs, act_ground, app, name, pair, unit}
use Rattle.ap_defs.specs.Types as types
use Rattle.ap_defs.specs.Types.{NominalConstructor, NominalKind, NominalType}
use Rattle.ap_defs.specs.Typing.{IsApplication, IsOfType, IsTyped, VarTypes, Want, arguments, embedded, more, nothing, one}
use Rattle.ap_defs.specs.declared.terms.Swap.{Swap}
use Rattle.ap_defs.specs.declared.terms.Var.{Var}
use Rattle.ap_theory.proofs.PermutationLemmas.{act_sort}

module _ (cs : List NominalConstructor) (vars : VarTypes) (s : List Swap) where
  abbrev Keeps : GroundTerm → Type 0
  Keeps g = (w : Want) → IsTyped cs vars (embedded g) w → IsTyped cs vars (embedded (act_ground s g)) w

  application_act : (g : GroundTerm) → Keeps g → (o : Option NominalConstructor) (d : ℕ)
      → IsApplication (IsTyped cs vars (embedded g)) o d → IsApplication (IsTyped cs vars (embedded (act_ground s g))) o d
  application_act g k None d h = absurd h
  application_act g k (Some c) d h = (h.0, k (arguments c.args) h.1)

  pub typed_act : (g : GroundTerm) (w : Want) → IsTyped cs vars (embedded g) w → IsTyped cs vars (embedded (act_ground s g)) w
  typed_act unit w h = h
  typed_act (name a) (one (types.names n)) h = act_sort s a ∙ h
  typed_act (pair t u) (one (types.pair a b)) h = (typed_act t (one a) h.0, typed_act u (one b) h.1)
  typed_act (pair t u) (more a w) h = (typed_act t (one a) h.0, typed_act u w h.1)
  typed_act (app zero t) (one (types.list a)) h = typed_act t nothing h
  typed_act (app (suc zero) t) (one (types.list a)) h = typed_act t (more a (one (types.list a))) h
  typed_act (app f t) (one (types.base d)) h = application_act t (typed_act t) (constructor_in cs f) d h
  typed_act (abs a t) (one (types.abs n b)) h = (act_sort s a ∙ h.0, typed_act t (one b) h.1)
  typed_act _ _ h = absurd h

pub of_type_act : (cs : List NominalConstructor) (s : List Swap) (g : GroundTerm) (a : NominalType) → IsOfType cs g a → IsOfType cs (act_ground s g) a
of_type_act cs s g a h = typed_act cs (λ x. None) s g (one a) h

pub type_of_act : (cs : List NominalConstructor) (s : List Swap) (o : Option NominalKind) (g : GroundTerm) → HasTypeOf cs o g → HasTypeOf cs o (act_ground s g)
type_of_act cs s (Some (types.var t)) g h = of_type_act cs s g t h
type_of_act cs s (Some (types.name n)) g h = absurd h
type_of_act cs s None g h = absurd h

pub types_act : (cs : List NominalConstructor) (kinds : List NominalKind) (s : List Swap) (xs : List Var) (gs : List GroundTerm)
    → AreOfTypes cs kinds xs gs → AreOfTypes cs kinds xs (map (act_ground s) gs)
types_act cs kinds s [] [] h = tt
types_act cs kinds s (x ∷ xs) (g ∷ gs) h = (type_of_act cs s (kind_at kinds x.num) g h.0, types_act cs kinds s xs gs h.1)
types_act cs kinds s _ _ h = absurd h
