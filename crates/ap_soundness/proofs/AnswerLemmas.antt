-- Answers are sound: each instance, and each instance of what is shown, is derivable.
use Rattle.std.proofs.Common.{subst, ◌≡◌, ℕ, List, [], ◌∷◌, map, refl, sym, ap₂}
use Rattle.ap_defs.specs.Answers as answers
use Rattle.ap_defs.specs.Answers.{NominalAnswer, NominalOut, answer_in, binds_in, closed_term, derivation_in, out_in, query_outs, vars_in}
use Rattle.ap_defs.specs.Derivations.{NominalDerivation, terms_in}
use Rattle.ap_defs.specs.Goals.{NominalProgram, NominalQuery}
use Rattle.ap_defs.specs.GroundProofs.{IsDerivable}
use Rattle.ap_defs.specs.Groundings.{Grounding, grounded}
use Rattle.ap_defs.specs.Occurrences.{vars_of_terms}
use Rattle.ap_defs.specs.Renaming.{local_vars}
use Rattle.ap_defs.specs.Resolution.{Output, State, cut, found, solve_query, chose, stuck}
use Rattle.ap_defs.specs.Substitution.{under}
use Rattle.ap_defs.specs.Terms.{susp}
use Rattle.ap_defs.specs.Types.{NominalConstructor, NominalKind}
use Rattle.ap_defs.specs.declared.terms.Var.{Var}
use Rattle.ap_program.specs.RawTyping.{AreVarsOf}
use Rattle.ap_program.specs.Typed.{IsTypedProgram, IsTypedQuery, term_form}
use Rattle.ap_search.specs.FitStates.{AllFound, IsFitState}
use Rattle.ap_search.specs.TypedStates.{IsTypedState}
use Rattle.ap_search.proofs.FitStateLemmas.{query_fits}
use Rattle.ap_search.proofs.TypedBelowLemmas.{typed_fits, typed_query_below}
use Rattle.ap_search.proofs.TypedStateLemmas.{query_states_typed}
use Rattle.ap_ground.specs.ShownInstances.{InEachInstance, InEachShownInstance, IsTypedDerivable}
use Rattle.ap_ground.specs.TypedGroundings.{HaveInhabitants}
use Rattle.ap_ground.proofs.ShownLemmas.{shown_typed}
use Rattle.ap_soundness.specs.FoundStates.{EachAnswer, EachFound}
use Rattle.ap_soundness.specs.StatementsOnSoundness.{AnswersAreSound, AnswersAreSoundAndTyped, ShownAnswersAreSound}
use Rattle.ap_soundness.proofs.QueryLemmas.{FromQuery, derivable, query_found}
use Rattle.ap_soundness.proofs.AnswerVarLemmas.{answer_inhabited, answer_kinds}
use Rattle.ap_soundness.proofs.AnswerTypeLemmas.{closing_gives, derivation_answered, locals_have_types}
use Rattle.ap_soundness.proofs.ClosingLemmas.{closing, closing_solves, grounded_canonical}

binds_grounded : (s : State) (g : Grounding) (xs : List Var) → map (closing s.bindings g) xs ≡ map (grounded g) (map (λ x. closed_term s (susp [] x)) xs)
binds_grounded s g [] = refl
binds_grounded s g (x ∷ xs) = ap₂ ◌∷◌ (sym (grounded_canonical g (under s.bindings (susp [] x)))) (binds_grounded s g xs)

-- an answer that is sound, with what is known of its variables
record IsSound (p : NominalProgram) (depth : ℕ) (q : NominalQuery) (a : NominalAnswer) : Type 0 where
  kinds : List NominalKind
  typed : AreVarsOf kinds a.vars
  inhabited : HaveInhabitants p.signature.constructors a.vars
  derivable_each : InEachInstance p.signature.constructors a (IsTypedDerivable p q depth)

module _ (p : NominalProgram) (typed : IsTypedProgram p) (depth : ℕ) (q : NominalQuery) (t : IsTypedQuery term_form p.signature q) where
  abbrev cs : List NominalConstructor
  cs = p.signature.constructors

  answer_sound : (s : State) (d : NominalDerivation) → IsFitState s → IsTypedState cs s → FromQuery p typed depth q t s d → IsSound p depth q (answer_in q.locals s d)
  answer_sound s d fit of f = record {
    kinds = s.kinds;
    typed = answer_kinds s.kinds (vars_in (binds_in q.locals s) s.conditions (derivation_in s d));
    inhabited = answer_inhabited cs s.kinds (f.inhabited t.1) (vars_in (binds_in q.locals s) s.conditions (derivation_in s d));
    derivable_each = λ g h.
        subst (IsTypedDerivable p q depth) (binds_grounded s g (local_vars 0 q.locals)) (
          locals_have_types cs q.locals s of d f.kept g h.types,
          derivable p typed depth q t s d f (closing s.bindings g) (closing_solves s fit g h.conditions)
              (closing_gives cs q.locals s of d (vars_of_terms (terms_in d)) (derivation_answered cs q.locals s of d) f.known g h.types),
        );
  }

  outs_sound : (os : List Output) → AllFound IsFitState os → AllFound (IsTypedState cs) os → EachFound (FromQuery p typed depth q t) os → EachAnswer (IsSound p depth q) (map (out_in q.locals) os)
  outs_sound [] h i j = tt
  outs_sound (found r s d ∷ os) h i j = (answer_sound s d h.0 i.0 j.0, outs_sound os h.1 i.1 j.1)
  outs_sound (cut r ∷ os) h i j = outs_sound os h i j
  outs_sound (chose r c ∷ os) h i j = absurd c
  outs_sound (stuck r ∷ os) h i j = outs_sound os h i j

  each_answer : (P : NominalAnswer → Type 0) → ((a : NominalAnswer) → IsSound p depth q a → P a) → (os : List NominalOut) → EachAnswer (IsSound p depth q) os → EachAnswer P os
  each_answer P w [] h = tt
  each_answer P w (answers.found r a ∷ os) h = (w a h.0, each_answer P w os h.1)
  each_answer P w (answers.cut r ∷ os) h = each_answer P w os h
  each_answer P w (answers.stuck r ∷ os) h = each_answer P w os h

  -- what follows from an answer's being sound holds of each answer
  each_sound : (P : NominalAnswer → Type 0) → ((a : NominalAnswer) → IsSound p depth q a → P a) → EachAnswer P (query_outs p.clauses depth q)
  each_sound P w =
      each_answer P w (query_outs p.clauses depth q)
      (outs_sound (solve_query p.clauses depth q) (query_fits p.clauses (typed_fits p typed) depth q (typed_query_below p q t)) (query_states_typed p typed depth q t) (query_found p typed depth q t))

pub answers_sound : AnswersAreSound
answers_sound p typed depth q t =
    each_sound p typed depth q t (λ a. InEachInstance p.signature.constructors a (λ gs. IsDerivable p q gs depth)) (λ a h g i. (h.derivable_each g i).1)

pub answers_typed_sound : AnswersAreSoundAndTyped
answers_typed_sound p typed depth q t = each_sound p typed depth q t (λ a. InEachInstance p.signature.constructors a (IsTypedDerivable p q depth)) (λ a h. h.derivable_each)

pub shown_sound : ShownAnswersAreSound
shown_sound p typed depth q t =
    each_sound p typed depth q t (λ a. InEachShownInstance p.signature.constructors q.locals a (IsTypedDerivable p q depth))
    (λ a h. shown_typed p typed q t a h.kinds h.typed h.inhabited depth h.derivable_each)
