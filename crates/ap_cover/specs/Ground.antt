-- Derivations of answers that are ground proofs: no variable stands in them, nor is there a condition.
use Rattle.std.specs.Prelude.{Bool, true, false, ◌&&◌, List, [], ◌∷◌, map}
use Rattle.std.specs.List.{list_all}
use Rattle.ap_defs.specs.Answers.{NominalAnswer}
use Rattle.ap_defs.specs.Derivations as nodes
use Rattle.ap_defs.specs.Derivations.{NominalDerivation}
use Rattle.ap_defs.specs.Groundings.{grounded}
use Rattle.ap_defs.specs.Terms as terms
use Rattle.ap_defs.specs.Terms.{GroundTerm, NominalTerm}
use Rattle.ap_bundle.specs.Bundles.{NominalProved}

abbrev pub is_ground_term : NominalTerm → Bool
is_ground_term terms.unit = true
is_ground_term (terms.name a) = true
is_ground_term (terms.pair t u) = is_ground_term t && is_ground_term u
is_ground_term (terms.app f t) = is_ground_term t
is_ground_term (terms.abs a t) = is_ground_term t
is_ground_term (terms.susp p x) = false

abbrev pub is_ground_derivation : NominalDerivation → Bool
is_ground_derivation (nodes.atom k names ts d) = list_all is_ground_term ts && is_ground_derivation d
is_ground_derivation nodes.equal = true
is_ground_derivation nodes.fresh = true
is_ground_derivation nodes.succeed = true
is_ground_derivation (nodes.both d e) = is_ground_derivation d && is_ground_derivation e
is_ground_derivation (nodes.left d) = is_ground_derivation d
is_ground_derivation (nodes.right d) = is_ground_derivation d
is_ground_derivation (nodes.exists t d) = is_ground_term t && is_ground_derivation d
is_ground_derivation (nodes.new a d) = is_ground_derivation d

abbrev pub is_empty : {A : Type 0} → List A → Bool
is_empty [] = true
is_empty (x ∷ xs) = false

-- no suspension stands in the bindings, and there are no variables and no conditions
abbrev pub is_ground_answer : NominalAnswer → Bool
is_ground_answer a = is_empty a.vars && (is_empty a.conds && list_all is_ground_term a.binds)

abbrev pub is_ground : NominalProved → Bool
is_ground d = is_ground_answer d.answer && is_ground_derivation d.derivation

-- terms without variables, as ground terms
abbrev pub ground_terms : List NominalTerm → List GroundTerm
ground_terms ts = map (grounded (λ x. terms.unit)) ts
