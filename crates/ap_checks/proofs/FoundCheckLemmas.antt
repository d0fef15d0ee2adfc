-- The derivation of each state that was found checks against its answer.
use Rattle.std.proofs.Common.{subst, ◌≡◌, ◌+◌, ℕ, true, List, [], ◌∷◌, ◌++◌, map, sym, ap, ◌∙◌, arith}
use Rattle.std.specs.Prelude.{Some, None}
use Rattle.ap_defs.specs.declared.terms.Var.{Var}
use Rattle.ap_defs.specs.Answers.{NominalAnswer, answer_in, binds_in, derivation_in, kind_at, vars_in}
use Rattle.ap_defs.specs.Derivations.{NominalDerivation, terms_in}
use Rattle.ap_defs.specs.Goals.{NominalProgram, NominalQuery}
use Rattle.ap_defs.specs.Occurrences.{vars_of_terms}
use Rattle.ap_defs.specs.Renaming.{local_names, local_vars}
use Rattle.ap_defs.specs.Resolution.{Output, State, cut, first_state, found, kinds_of, solve, solve_query, chose, stuck}
use Rattle.ap_defs.specs.Substitution.{under}
use Rattle.ap_defs.specs.Terms.{NominalTerm, susp}
use Rattle.ap_defs.specs.Types as types
use Rattle.ap_defs.specs.Types.{NominalConstructor, NominalKind, NominalType}
use Rattle.ap_defs.specs.Typing.{VarTypes, one}
use Rattle.ap_defs.specs.Unification.{has_var, vars_then}
use Rattle.ap_program.specs.RawTyping.{HasTermType}
use Rattle.ap_program.specs.Typed.{IsTypedProgram, IsTypedQuery, term_form}
use Rattle.ap_search.specs.FitStates.{AllFound, IsFitState}
use Rattle.ap_search.specs.TypedStates.{IsTypedState}
use Rattle.ap_search.proofs.FitStateLemmas.{query_fits}
use Rattle.ap_search.proofs.RecordLemmas.{has_var-append}
use Rattle.ap_search.proofs.TypedBelowLemmas.{typed_fits, typed_query_below}
use Rattle.ap_search.proofs.TypedStateLemmas.{query_states_typed}
use Rattle.ap_search.proofs.TypingLemmas.{under_typed}
use Rattle.ap_theory.proofs.BooleanLemmas.{and_both, or_if_left, or_if_right}
use Rattle.ap_ground.proofs.ItemEnvironmentLemmas.{free_is_variable, goal_vars_local}
use Rattle.ap_ground.proofs.OccurrenceLemmas.{IsVariable}
use Rattle.ap_ground.proofs.ScopeLemmas.{goal_local}
use Rattle.ap_ground.proofs.ShiftLemmas.{goal_by_none, var_by_none}
use Rattle.ap_soundness.specs.FoundStates.{EachFound}
use Rattle.ap_soundness.proofs.AnswerTypeLemmas.{derivation_answered, locals_answered}
use Rattle.ap_soundness.proofs.AnswerVarLemmas.{has_ascending}
use Rattle.ap_soundness.proofs.EachFoundLemmas.{Property}
use Rattle.ap_soundness.proofs.StepLemmas.{vars_in_nodes}
use Rattle.ap_checks.specs.Checks.{Checks, refusal_of_rule, is_answer, refusal, verdict}
use Rattle.ap_checks.specs.OpenEnvironments.{open_environment}
use Rattle.ap_checks.specs.StatementsOnChecks.{FoundDerivationsCheck}
use Rattle.ap_checks.specs.TypeTests.{has_kind, have_kinds, type_beside}
use Rattle.ap_checks.proofs.AnswerCheckLemmas.{answer_once, beside_typed, closing_open, closing_terms, conds_typed, occurs_in, typed_canonical}
use Rattle.ap_checks.proofs.OpenFoundLemmas.{found_is_checked}
use Rattle.ap_checks.proofs.OpenLemmas.{AgreeOpen, refusal_sees_free}
use Rattle.ap_checks.proofs.OpenShiftLemmas.{kinds_renamed, open_item_agrees, open_shifted}
use Rattle.ap_checks.proofs.OpenStepLemmas.{CheckedFrom, test_passes}
use Rattle.ap_checks.proofs.TypeTestLemmas.{holds_typed}

module _ (p : NominalProgram) (typed : IsTypedProgram p) (depth : ℕ) (q : NominalQuery) (fits : IsTypedQuery term_form p.signature q) where
  abbrev cs : List NominalConstructor
  cs = p.signature.constructors

  abbrev FromQuery : Property
  FromQuery = CheckedFrom p (kinds_of q.locals) 0 q.goal (first_state q) depth

  query_checked : EachFound FromQuery (solve_query p.clauses depth q)
  query_checked =
      subst (λ goal. EachFound FromQuery (solve p.clauses depth goal (first_state q))) (goal_by_none q.goal)
      (found_is_checked p typed depth (kinds_of q.locals) 0 q.goal (first_state q) (λ i k e. let l : 0 + i ≡ i = omega arith in ap (kind_at (kinds_of q.locals)) l ∙ e) fits.0)

  module _ (s : State) (d : NominalDerivation) (fit : IsFitState s) (of : IsTypedState cs s) (f : FromQuery s d) where
    abbrev a : NominalAnswer
    a = answer_in q.locals s d

    abbrev vars : VarTypes
    vars = type_beside a.vars

    abbrev answer_vars : List Var
    answer_vars = vars_in (binds_in q.locals s) s.conditions (derivation_in s d)

    -- what stands for variables has their types by those of the answer's variables
    answered_typed : (xs : List Var) → ((x y : Var) → has_var x xs ≡ true → has_var y (vars_then (under s.bindings (susp [] x)) []) ≡ true → has_var y answer_vars ≡ true)
        → (x : Var) → has_var x xs ≡ true → (v : IsVariable s.kinds x) → has_kind cs vars (Some (types.var v.0)) (closing_terms s x) ≡ true
    answered_typed xs answered x m v =
        let u = under s.bindings (susp [] x) in
        let here : HasTermType cs s.kinds u v.0 = under_typed cs s.kinds s.bindings of.bindings (susp [] x) (one v.0) (tt, v.1) in
        holds_typed cs vars (closing_terms s x) (one v.0)
        (typed_canonical cs s.kinds vars u (one v.0) (λ y b o k. beside_typed s.kinds answer_vars y b (answered x y m (occurs_in y u o)) k) here)

    nodes_given : (x : Var) → has_var x (vars_in_nodes d) ≡ true → has_kind cs vars (kind_at s.kinds x.num) (closing_terms s x) ≡ true
    nodes_given x m =
        let v = f.from.known x m in
        ap (λ o. has_kind cs vars o (closing_terms s x)) v.1 ∙ answered_typed (vars_of_terms (terms_in d)) (derivation_answered cs q.locals s of d) x m v

    binds_given : have_kinds cs vars (kinds_of q.locals) (local_vars 0 q.locals) a.binds ≡ true
    binds_given =
        kinds_renamed cs vars (kinds_of q.locals) (closing_terms s) (local_vars 0 q.locals) (λ x m.
        let v = free_is_variable q.locals x m in
        let there = f.from.kept x.num (types.var v.0) v.1 in
        ap (λ o. has_kind cs vars o (closing_terms s x)) v.1 ∙ answered_typed (local_vars 0 q.locals) (locals_answered cs q.locals s of d) x m (v.0, there))

    conds_among : (y : Var) → has_var y (map (λ c. c.var) s.conditions) ≡ true → has_var y answer_vars ≡ true
    conds_among y m =
        let bound = vars_of_terms (binds_in q.locals s) in
        let conds = map (λ c. c.var) s.conditions in
        let brought = vars_of_terms (terms_in (derivation_in s d)) in
        has_ascending y ((bound ++ conds) ++ brought)
        (has_var-append y (bound ++ conds) brought ∙ or_if_left (has_var y (bound ++ conds)) (has_var y brought)
        (has_var-append y bound conds ∙ or_if_right (has_var y bound) (has_var y conds) m))

    answer_fits : is_answer p q a ≡ true
    answer_fits =
        let once = answer_once s.kinds (vars_of_terms (binds_in q.locals s) ++ map (λ c. c.var) s.conditions ++ vars_of_terms (terms_in (derivation_in s d))) in
        and_both _ _ binds_given (and_both _ _ once (conds_typed s.kinds answer_vars s.conditions of.conditions conds_among))

    agrees_on_query : AgreeOpen q.goal (open_shifted 0 (closing_terms s)) (open_environment q.locals (local_names 0 q.locals) a.binds)
    agrees_on_query =
        subst (λ (t : Var → NominalTerm). AgreeOpen q.goal (open_shifted 0 (closing_terms s)) (open_environment q.locals (local_names 0 q.locals) (map t (local_vars 0 q.locals))))
        (λ i x. closing_terms s (var_by_none x i))
        (open_item_agrees 0 (closing_terms s) q.locals q.goal (goal_local p.signature q.locals [] q.goal fits.2 fits.0)
        (goal_vars_local cs p.signature.predicates q.locals q.goal fits.0 (λ i e. (fits.2.inside i e).1)))

    nothing_refused : refusal p a (kinds_of q.locals) 1 (derivation_in s d) q.goal (open_environment q.locals (local_names 0 q.locals) a.binds) ≡ None
    nothing_refused =
        sym (refusal_sees_free p a (kinds_of q.locals) 1 (derivation_in s d) q.goal (open_shifted 0 (closing_terms s)) (open_environment q.locals (local_names 0 q.locals) a.binds) agrees_on_query)
        ∙ ap (λ e. refusal p a (kinds_of q.locals) 1 e q.goal (open_shifted 0 (closing_terms s))) (sym (f.plain s))
        ∙ (f.checks a (closing_terms s) (closing_open s fit) nodes_given).1 1

    state_checks : Checks p q a (derivation_in s d)
    state_checks =
        ap verdict
        (test_passes (is_answer p q a) (refusal_of_rule 0 10) (refusal p a (kinds_of q.locals) 1 (derivation_in s d) q.goal (open_environment q.locals (local_names 0 q.locals) a.binds)) answer_fits nothing_refused)

  outs_check : (os : List Output) → AllFound IsFitState os → AllFound (IsTypedState cs) os → EachFound FromQuery os
      → EachFound (λ s d. Checks p q (answer_in q.locals s d) (derivation_in s d)) os
  outs_check [] h i j = tt
  outs_check (found r s d ∷ os) h i j = (state_checks s d h.0 i.0 j.0, outs_check os h.1 i.1 j.1)
  outs_check (cut r ∷ os) h i j = outs_check os h i j
  outs_check (chose r c ∷ os) h i j = absurd c
  outs_check (stuck r ∷ os) h i j = outs_check os h i j

pub found_check : FoundDerivationsCheck
found_check p typed depth q fits =
    outs_check p typed depth q fits (solve_query p.clauses depth q)
    (query_fits p.clauses (typed_fits p typed) depth q (typed_query_below p q fits)) (query_states_typed p typed depth q fits) (query_checked p typed depth q fits)
