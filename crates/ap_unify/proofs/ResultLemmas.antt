-- The groundings of what unification gives.
use Rattle.std.proofs.Common.{◌≡◌, Bool, true, false, ◌&&◌, List, refl, sym, ap, ap₂, ◌∙◌, true≢false}
use Rattle.std.specs.Prelude.{Option, Some, None}
use Rattle.ap_defs.specs.Groundings.{Grounding, agrees, equates_all, is_instance, meets}
use Rattle.ap_defs.specs.Terms.{NominalTerm}
use Rattle.ap_defs.specs.Unification.{Unified, unify}
use Rattle.ap_store.specs.Triples.{Triple}
use Rattle.ap_theory.proofs.GroundingLemmas.{unify_instances}
use Rattle.ap_unify.specs.Unified.{IsResult, is_of, solves}

turned : (p q r : Bool) → ((p && q) && r) ≡ (q && (p && r))
turned true true r = refl
turned true false r = refl
turned false true r = refl
turned false false r = refl

-- those that solve the equations are the instances of the result
pub instances : (g : Grounding) (a : Triple) (ts us : List NominalTerm) (o : Option Unified) → o ≡ unify a.bindings a.conditions ts us → solves g a ts us ≡ is_instance g o
instances g a ts us o e =
    turned (agrees g a.bindings) (meets g a.conditions) (equates_all g ts us) ∙ unify_instances g a.bindings a.conditions ts us ∙ ap (is_instance g) (sym e)

instance_result : (g : Grounding) (a b : Triple) (o : Option Unified) (solved : Bool) → IsResult o a solved b → is_instance g o ≡ (solved && is_of g b)
instance_result g a b None solved h = sym (ap (λ v. v && is_of g b) h)
instance_result g a b (Some r) solved h = sym (ap₂ (λ v c. v && is_of g c) h.0 h.1)

-- the same of an answer
pub instances_of_result : (g : Grounding) (a b : Triple) (ts us : List NominalTerm) (solved : Bool) → IsResult (unify a.bindings a.conditions ts us) a solved b
    → solves g a ts us ≡ (solved && is_of g b)
instances_of_result g a b ts us solved h =
    instances g a ts us (unify a.bindings a.conditions ts us) refl ∙ instance_result g a b (unify a.bindings a.conditions ts us) solved h

-- where there is no result, it doesn't matter what the store has
pub result_false : (a b c : Triple) (o : Option Unified) → IsResult o a false b → IsResult o a false c
result_false a b c None h = refl
result_false a b c (Some r) h = absurd (true≢false (sym h.0))
