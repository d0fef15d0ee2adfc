-- Instances of answers, up to names that are none of the query's, are derivable.
use Rattle.std.proofs.Common.{subst, ◌≡◌, ℕ, true, false, List, [], ◌∷◌, map, refl, sym, ap₂, ◌∙◌, inl, inr}
use Rattle.std.specs.Prelude.{if◌then◌else◌}
use Rattle.ap_defs.specs.Alpha.{alpha}
use Rattle.ap_defs.specs.Answers as answers
use Rattle.ap_defs.specs.Answers.{NominalAnswer, NominalOut, query_outs}
use Rattle.ap_defs.specs.Freshness.{var_eq}
use Rattle.ap_defs.specs.Goals.{NominalProgram, NominalQuery}
use Rattle.ap_defs.specs.GroundProofs.{AlphaEach, IsDerivable, environment, term_for}
use Rattle.ap_defs.specs.Groundings.{Grounding, grounded}
use Rattle.ap_defs.specs.Permutations.{inverse}
use Rattle.ap_defs.specs.Renaming.{local_names, local_vars, replace_names}
use Rattle.ap_defs.specs.Resolution.{kinds_of}
use Rattle.ap_defs.specs.Terms.{GroundTerm, NominalTerm, act_ground}
use Rattle.ap_defs.specs.declared.terms.Swap.{Swap}
use Rattle.ap_defs.specs.declared.terms.Var.{Var}
use Rattle.ap_program.specs.Typed.{IsTypedProgram, IsTypedQuery, term_form}
use Rattle.ap_theory.proofs.GroundLemmas.{act_ground-append, act_ground_none, act_ground_same}
use Rattle.ap_theory.proofs.PermutationLemmas.{act-append, act_inverse}
use Rattle.ap_theory.proofs.ReplacementLemmas.{act_grounded}
use Rattle.ap_ground.specs.ShownInstances.{InEachInstance}
use Rattle.ap_ground.proofs.AlphaLemmas.{alpha_each_sym}
use Rattle.ap_ground.proofs.DerivabilityLemmas.{derivable_act}
use Rattle.ap_ground.proofs.FillerLemmas.{gives_types_act}
use Rattle.ap_ground.proofs.FreeIdentifierLemmas.{proofs_see_free}
use Rattle.ap_ground.proofs.ShownConditionLemmas.{grounded_alike}
use Rattle.ap_soundness.specs.FoundStates.{EachAnswer}
use Rattle.ap_soundness.proofs.AnswerLemmas.{answers_sound}
use Rattle.ap_complete.specs.Coverings.{IsGroundInstance, SomeAnswer}
use Rattle.ap_complete.specs.StatementsOnCompleteness.{InstancesAreDerivable}
use Rattle.ap_complete.proofs.CompletenessLemmas.{meets_moved}

-- Equal ground terms have equal derivability.
same_term_for : (xs : List Var) (gs hs : List GroundTerm) → AlphaEach gs hs → (x : Var) → alpha (term_for xs gs x) (term_for xs hs x) ≡ true
same_term_for [] gs hs h x = refl
same_term_for (y ∷ ys) [] [] h x = refl
same_term_for (y ∷ ys) (g ∷ gs) [] h x = absurd h
same_term_for (y ∷ ys) [] (u ∷ us) h x = absurd h
same_term_for (y ∷ ys) (g ∷ gs) (u ∷ us) h x =
    elim (var_eq y x) as (λ b. alpha (if b then g else term_for ys gs x) (if b then u else term_for ys us x) ≡ true) [ true ↦ h.0 | false ↦ same_term_for ys gs us h.1 x ]

derivable_alike : (p : NominalProgram) (q : NominalQuery) (gs hs : List GroundTerm) (depth : ℕ) → AlphaEach gs hs → IsDerivable p q gs depth → IsDerivable p q hs depth
derivable_alike p q gs hs depth e h =
    let names = local_names 0 q.locals in (
      h.0,
      proofs_see_free p (kinds_of q.locals) h.0 q.goal (environment q.locals names gs) (environment q.locals names hs) h.1
          (record { names = λ b i. refl; terms = λ x i. same_term_for (local_vars 0 q.locals) gs hs e x }),
      h.2,
    )

-- Swappings that act on what stands for the variables, and on the names of a term.
module _ (s : List Swap) (f : Grounding) where
  there_and_back : (t : GroundTerm) → act_ground s (act_ground (inverse s) t) ≡ t
  there_and_back t =
      sym (act_ground-append s (inverse s) t) ∙ act_ground_same _ [] (λ b. act-append s (inverse s) b ∙ act_inverse s b) t ∙ act_ground_none t

  acted_instances : (ts : List NominalTerm) → map (act_ground s) (map (grounded (λ x. act_ground (inverse s) (f x))) ts) ≡ map (λ t. grounded f (replace_names s t)) ts
  acted_instances [] = refl
  acted_instances (t ∷ ts) =
      ap₂ ◌∷◌
      (act_grounded s (λ x. act_ground (inverse s) (f x)) t
      ∙ grounded_alike (λ x. act_ground s (act_ground (inverse s) (f x))) f (replace_names s t) (λ x i. there_and_back (f x)))
      (acted_instances ts)

module _ (p : NominalProgram) (typed : IsTypedProgram p) (q : NominalQuery) (t : IsTypedQuery term_form p.signature q) (depth : ℕ) (gs : List GroundTerm) where
  instance_derivable : (a : NominalAnswer) → InEachInstance p.signature.constructors a (λ hs. IsDerivable p q hs depth) → IsGroundInstance p.signature.constructors q.locals a gs
      → IsDerivable p q gs depth
  instance_derivable a h i =
      let back : Grounding = λ x. act_ground (inverse i.swaps) (i.grounding x) in
      let first = h back (record {
        types = gives_types_act p.signature.constructors (inverse i.swaps) i.grounding a.vars i.types;
        conditions = sym (meets_moved i.grounding i.swaps a.conds) ∙ i.conditions;
      }) in
      let acted = derivable_act p typed q t i.swaps i.leaves (map (grounded back) a.binds) depth first in
      let names = map (λ u. grounded i.grounding (replace_names i.swaps u)) a.binds in
      derivable_alike p q names gs depth (alpha_each_sym gs names i.equal)
      (subst (λ (hs : List GroundTerm). IsDerivable p q hs depth) (acted_instances i.swaps i.grounding a.binds) acted)

  some_derivable : (os : List NominalOut) → EachAnswer (λ a. InEachInstance p.signature.constructors a (λ hs. IsDerivable p q hs depth)) os
      → SomeAnswer (λ a. IsGroundInstance p.signature.constructors q.locals a gs) os → IsDerivable p q gs depth
  some_derivable [] h i = absurd i
  some_derivable (answers.found l a ∷ os) h (inl i) = instance_derivable a h.0 i
  some_derivable (answers.found l a ∷ os) h (inr i) = some_derivable os h.1 i
  some_derivable (answers.cut l ∷ os) h i = some_derivable os h i
  some_derivable (answers.stuck l ∷ os) h i = some_derivable os h i

pub instances_derivable : InstancesAreDerivable
instances_derivable p typed q t depth gs i = some_derivable p typed q t depth gs (query_outs p.clauses depth q) (answers_sound p typed depth q t) i
