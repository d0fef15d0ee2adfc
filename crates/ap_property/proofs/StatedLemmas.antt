-- A query is derivable for the stated instance of each of its answers.
use Rattle.std.proofs.Common.{◌≡◌, ◌∙◌, ℕ, List, [], ◌∷◌, length, map, refl, sym, ap₂, subst}
use Rattle.ap_defs.specs.Answers as answers
use Rattle.ap_defs.specs.Answers.{NominalAnswer, NominalOut, answer_in, binds_in, derivation_in, out_in, query_outs, vars_in}
use Rattle.ap_defs.specs.Derivations.{NominalDerivation}
use Rattle.ap_defs.specs.Goals.{NominalProgram, NominalQuery}
use Rattle.ap_defs.specs.Groundings.{Grounding, grounded}
use Rattle.ap_defs.specs.Permutations.{inverse}
use Rattle.ap_defs.specs.Renaming.{local_vars, replace_names}
use Rattle.ap_defs.specs.Resolution.{Output, State, cut, found, kinds_of, solve_query, chose, stuck}
use Rattle.ap_defs.specs.Terms.{GroundTerm, NominalTerm, act_ground}
use Rattle.ap_defs.specs.Types.{NominalConstructor}
use Rattle.ap_defs.specs.declared.terms.Swap.{Swap}
use Rattle.ap_defs.specs.declared.terms.Var.{Var}
use Rattle.ap_program.specs.Typed.{IsTypedProgram, IsTypedQuery, term_form}
use Rattle.ap_theory.proofs.GroundLemmas.{act_ground-append, act_ground_none, act_ground_same}
use Rattle.ap_theory.proofs.PermutationLemmas.{act-append, act_inverse}
use Rattle.ap_theory.proofs.ReplacementLemmas.{act_grounded}
use Rattle.ap_ground.specs.ShownInstances.{InEachInstance, IsTypedDerivable}
use Rattle.ap_ground.proofs.DerivabilityLemmas.{derivable_act}
use Rattle.ap_ground.proofs.FillerLemmas.{gives_types_act}
use Rattle.ap_ground.proofs.GroundTypingLemmas.{types_act}
use Rattle.ap_ground.proofs.ShownConditionLemmas.{grounded_alike}
use Rattle.ap_soundness.specs.FoundStates.{EachAnswer, EachFound}
use Rattle.ap_soundness.proofs.AnswerLemmas.{answers_typed_sound}
use Rattle.ap_soundness.proofs.AnswerVarLemmas.{answer_inhabited, answer_kinds}
use Rattle.ap_soundness.proofs.QueryLemmas.{FromQuery, query_found}
use Rattle.ap_complete.proofs.CompletenessLemmas.{meets_moved}
use Rattle.ap_property.specs.Fitting.{FitsLocals}
use Rattle.ap_property.specs.Stated.{given, picks_from, settling, stated}
use Rattle.ap_property.specs.StatementsOnProperties.{AnswersHaveTypes, HasTypedVars, StatedInstancesAreDerivable, StatedInstancesFit}
use Rattle.ap_property.proofs.PickedLemmas.{given_names, picks_give, picks_made}
use Rattle.ap_property.proofs.SettlingLemmas.{binds_known, conditions_met, other_sorts, settling_leaves}

-- Swappings that act on what stands for the variables, and on the names of a term.
module _ (s : List Swap) (f : Grounding) where
  there_and_back : (t : GroundTerm) → act_ground s (act_ground (inverse s) t) ≡ t
  there_and_back t =
      sym (act_ground-append s (inverse s) t) ∙ act_ground_same _ [] (λ b. act-append s (inverse s) b ∙ act_inverse s b) t ∙ act_ground_none t

  acted_instances : (ts : List NominalTerm) → map (act_ground s) (map (grounded (λ x. act_ground (inverse s) (f x))) ts) ≡ map (λ t. grounded f (replace_names s t)) ts
  acted_instances [] = refl
  acted_instances (t ∷ ts) =
      ap₂ ◌∷◌
      (act_grounded s (λ x. act_ground (inverse s) (f x)) t
      ∙ grounded_alike (λ x. act_ground s (act_ground (inverse s) (f x))) f (replace_names s t) (λ x i. there_and_back (f x)))
      (acted_instances ts)

-- the variables of each answer have inhabited types
module _ (p : NominalProgram) (typed : IsTypedProgram p) (depth : ℕ) (q : NominalQuery) (t : IsTypedQuery term_form p.signature q) where
  abbrev cs : List NominalConstructor
  cs = p.signature.constructors

  vars_typed : (s : State) (d : NominalDerivation) → FromQuery p typed depth q t s d → HasTypedVars cs (answer_in q.locals s d)
  vars_typed s d f = record {
    kinds = s.kinds;
    typed = answer_kinds s.kinds (vars_in (binds_in q.locals s) s.conditions (derivation_in s d));
    inhabited = answer_inhabited cs s.kinds (f.inhabited t.1) (vars_in (binds_in q.locals s) s.conditions (derivation_in s d));
  }

  outs_typed : (os : List Output) → EachFound (FromQuery p typed depth q t) os → EachAnswer (HasTypedVars cs) (map (out_in q.locals) os)
  outs_typed [] h = tt
  outs_typed (found r s d ∷ os) h = (vars_typed s d h.0, outs_typed os h.1)
  outs_typed (cut r ∷ os) h = outs_typed os h
  outs_typed (chose r c ∷ os) h = absurd c
  outs_typed (stuck r ∷ os) h = outs_typed os h

  -- An answer that is sound in each of its instances.
  module _ (a : NominalAnswer) (v : HasTypedVars cs a) (each : InEachInstance cs a (IsTypedDerivable p q depth)) where
    abbrev picks : List (Var × GroundTerm) × List ℕ
    picks = picks_from cs (length q.locals) a.vars (other_sorts q.locals a)

    abbrev f : Grounding
    f = given picks.0

    abbrev back : Grounding
    back x = act_ground (inverse (settling q.locals a)) (f x)

    stated_derivable : IsTypedDerivable p q depth (stated cs q.locals a).terms
    stated_derivable =
        let s = settling q.locals a in
        let made = picks_made cs (length q.locals) a.vars v.inhabited (other_sorts q.locals a) in
        let new = given_names (length q.locals) (other_sorts q.locals a) picks.1 picks.0 made.names in
        let met = conditions_met q.locals a picks.1 f new made.added made.extends in
        let first = each back (record {
          types = gives_types_act cs (inverse s) f a.vars (picks_give cs v.kinds (length q.locals) a.vars v.typed v.inhabited (other_sorts q.locals a));
          conditions = sym (meets_moved f s a.conds) ∙ met;
        }) in
        let moved = derivable_act p typed q t s (settling_leaves q.locals a) (map (grounded back) a.binds) depth first.1 in
        let types = types_act cs (kinds_of q.locals) s (local_vars 0 q.locals) (map (grounded back) a.binds) first.0 in
        subst (IsTypedDerivable p q depth) (acted_instances s f a.binds) (types, moved)

    stated_fits : FitsLocals cs q.locals (stated cs q.locals a)
    stated_fits =
        let made = picks_made cs (length q.locals) a.vars v.inhabited (other_sorts q.locals a) in
        let new = given_names (length q.locals) (other_sorts q.locals a) picks.1 picks.0 made.names in
        record { types = stated_derivable.0; names = binds_known q.locals a picks.1 f new made.added made.extends }

  both_hold : (os : List NominalOut) → EachAnswer (HasTypedVars cs) os → EachAnswer (λ a. InEachInstance cs a (IsTypedDerivable p q depth)) os
      → (P : NominalAnswer → Type 0) → ((a : NominalAnswer) → HasTypedVars cs a → InEachInstance cs a (IsTypedDerivable p q depth) → P a) → EachAnswer P os
  both_hold [] h k P w = tt
  both_hold (answers.found r a ∷ os) h k P w = (w a h.0 k.0, both_hold os h.1 k.1 P w)
  both_hold (answers.cut r ∷ os) h k P w = both_hold os h k P w
  both_hold (answers.stuck r ∷ os) h k P w = both_hold os h k P w

  pub each_typed : EachAnswer (HasTypedVars cs) (query_outs p.clauses depth q)
  each_typed = outs_typed (solve_query p.clauses depth q) (query_found p typed depth q t)

  pub each_follows : (P : NominalAnswer → Type 0) → ((a : NominalAnswer) → HasTypedVars cs a → InEachInstance cs a (IsTypedDerivable p q depth) → P a) → EachAnswer P (query_outs p.clauses depth q)
  each_follows P w = both_hold (query_outs p.clauses depth q) each_typed (answers_typed_sound p typed depth q t) P w

pub answers_have_types : AnswersHaveTypes
answers_have_types p typed q t depth = each_typed p typed depth q t

pub stated_instances_derivable : StatedInstancesAreDerivable
stated_instances_derivable p typed q t depth = each_follows p typed depth q t _ (stated_derivable p typed depth q t)

pub stated_instances_fit : StatedInstancesFit
stated_instances_fit p typed q t depth = each_follows p typed depth q t _ (stated_fits p typed depth q t)
