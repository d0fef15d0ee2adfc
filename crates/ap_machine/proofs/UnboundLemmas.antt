-- Of the variables that were brought the unbound ones suffice for an answer.
use Rattle.std.proofs.Common.{◌≡◌, ℕ, suc, true, false, ◌||◌, List, [], ◌∷◌, ◌++◌, map, refl, sym, ap, ap₂, ◌∙◌, inl, inr, true≢false}
use Rattle.std.specs.Prelude.{if◌then◌else◌, not}
use Rattle.ap_defs.specs.Answers as answers
use Rattle.ap_defs.specs.Answers.{binds_in, closed_term, query_outs, typed_vars}
use Rattle.ap_defs.specs.Canonical.{canonical_term}
use Rattle.ap_defs.specs.Freshness.{var_eq}
use Rattle.ap_defs.specs.Goals.{atom, NominalClause, NominalProgram, NominalQuery, Clauses}
use Rattle.ap_defs.specs.Occurrences.{vars_of_terms}
use Rattle.ap_defs.specs.Paths.{Mark, marked_query}
use Rattle.ap_defs.specs.Renaming.{local_vars}
use Rattle.ap_defs.specs.Resolution.{State, chose, cut, first_state, found, stuck}
use Rattle.ap_defs.specs.Substitution.{moved, occurs, under}
use Rattle.ap_defs.specs.Terms as terms
use Rattle.ap_defs.specs.Terms.{NominalTerm}
use Rattle.ap_defs.specs.Types.{NominalLocal, NominalSignature}
use Rattle.ap_defs.specs.Unification.{has_var, vars_then}
use Rattle.ap_defs.specs.declared.terms.Var.{Var}
use Rattle.ap_ground.proofs.FreeIdentifierLemmas.{var_in_left, var_in_right}
use Rattle.ap_ground.proofs.ItemEnvironmentLemmas.{goal_vars_local}
use Rattle.ap_program.specs.Typed.{AreTypedClauses, AreTypedFrom, IsTypedClause, IsTypedProgram, IsTypedQuery, term_form}
use Rattle.ap_search.proofs.ContinuationLemmas.{follow, marked_solve_follows}
use Rattle.ap_search.proofs.MarkLemmas.{marks_stack}
use Rattle.ap_search.proofs.QueryTreeLemmas.{outs_among_marks}
use Rattle.ap_search.proofs.RecordLemmas.{answer_by_vars, ascending_same, has_closed, has_var-append}
use Rattle.ap_search.specs.Continuations.{answer_then, stack_outs}
use Rattle.ap_search.specs.Marks.{out, choice, mark_in, outs_among, with_choices, stack_marks}
use Rattle.ap_search.specs.Records.{SameVars, answer_with, closed_vars, vars_brought}
use Rattle.ap_theory.proofs.BooleanLemmas.{or_assoc, or_cases, or_if_left, or_if_right, same_test}
use Rattle.ap_theory.proofs.IdempotenceLemmas.{bound_term_unbound, under_each}
use Rattle.ap_theory.proofs.OpenSoundnessLemmas.{under_keeps}
use Rattle.ap_theory.proofs.TermLemmas.{same_var, var_same}
use Rattle.ap_theory.proofs.VariableLemmas.{each_susp}
use Rattle.ap_theory.specs.Variables.{IsUnbound, is_bound}
use Rattle.ap_machine.specs.Unbound.{answer_by_unbound, unbound_vars}
use Rattle.ap_machine.proofs.OverLemmas.{Among, IsOver, AllOver, HasOwnVars, HaveOwnVars, AllHaveOwnVars, query_over}

has_canonical : (y : Var) (t : NominalTerm) (xs : List Var) → has_var y (vars_then (canonical_term t) xs) ≡ (occurs y t || has_var y xs)
has_canonical y terms.unit xs = refl
has_canonical y (terms.name a) xs = refl
has_canonical y (terms.pair t u) xs =
    has_canonical y t (vars_then (canonical_term u) xs) ∙ ap (λ b. occurs y t || b) (has_canonical y u xs) ∙ sym (or_assoc (occurs y t) (occurs y u) (has_var y xs))
has_canonical y (terms.app f t) xs = has_canonical y t xs
has_canonical y (terms.abs a t) xs = has_canonical y t xs
has_canonical y (terms.susp p x) xs = refl

module _ (s : State) where
  -- an unbound variable stands for itself
  closed_itself : (y : Var) → IsUnbound s.bindings y → has_var y (vars_then (closed_term s (terms.susp [] y)) []) ≡ true
  closed_itself y u =
      ap (λ o. has_var y (vars_then (canonical_term (moved [] y o)) [])) (bound_term_unbound s.bindings y u) ∙ or_if_left (var_eq y y) false (same_var y y refl)

  -- a variable in what stands for some stands in what stands for one of them
  record IsIn (y : Var) (ys : List Var) : Type 0 where
    origin : Var
    among : Among ys origin
    here : occurs y (under s.bindings (terms.susp [] origin)) ≡ true

  closed_from : (y : Var) (ys : List Var) → has_var y (vars_of_terms (closed_vars s ys)) ≡ true → IsIn y ys
  closed_from y [] k = absurd (true≢false (sym k))
  closed_from y (x ∷ ys) k =
      let t = under s.bindings (terms.susp [] x) in
      elim (or_cases (occurs y t) (has_var y (vars_of_terms (closed_vars s ys))) (sym (has_canonical y t (vars_of_terms (closed_vars s ys))) ∙ k)) [
        | inl i ↦ record { origin = x; among = or_if_left (var_eq x x) (has_var x ys) (same_var x x refl); here = i }
        | inr i ↦ let r = closed_from y ys i in record { origin = r.origin; among = or_if_right (var_eq r.origin x) (has_var r.origin ys) r.among; here = r.here }
      ]

  has_unbound : (y : Var) (ys : List Var) → IsUnbound s.bindings y → has_var y ys ≡ true → has_var y (unbound_vars s ys) ≡ true
  has_unbound y [] u m = m
  has_unbound y (z ∷ ys) u m =
      elim (is_bound z s.bindings) as (λ b. is_bound z s.bindings ≡ b → has_var y (if not b then (z ∷ unbound_vars s ys) else unbound_vars s ys) ≡ true) [
        | true ↦ λ e. elim (or_cases (var_eq y z) (has_var y ys) m) [
          | inl i ↦ absurd (true≢false (sym e ∙ ap (λ w. is_bound w s.bindings) (sym (var_same y z i)) ∙ u))
          | inr i ↦ has_unbound y ys u i
        ]
        | false ↦ λ e. elim (or_cases (var_eq y z) (has_var y ys) m) [
          | inl i ↦ or_if_left (var_eq y z) (has_var y (unbound_vars s ys)) i
          | inr i ↦ or_if_right (var_eq y z) (has_var y (unbound_vars s ys)) (has_unbound y ys u i)
        ]
      ] refl

  unbound_has : (y : Var) (ys : List Var) → has_var y (unbound_vars s ys) ≡ true → IsUnbound s.bindings y × (has_var y ys ≡ true)
  unbound_has y [] m = absurd (true≢false (sym m))
  unbound_has y (z ∷ ys) m =
      elim (is_bound z s.bindings) as (λ b. is_bound z s.bindings ≡ b → has_var y (if not b then (z ∷ unbound_vars s ys) else unbound_vars s ys) ≡ true
      → IsUnbound s.bindings y × (has_var y (z ∷ ys) ≡ true)) [
        | true ↦ λ e k. let r = unbound_has y ys k in (r.0, or_if_right (var_eq y z) (has_var y ys) r.1)
        | false ↦ λ e k. elim (or_cases (var_eq y z) (has_var y (unbound_vars s ys)) k) [
          | inl i ↦ (ap (λ w. is_bound w s.bindings) (var_same y z i) ∙ e, or_if_left (var_eq y z) (has_var y ys) i)
          | inr i ↦ let r = unbound_has y ys i in (r.0, or_if_right (var_eq y z) (has_var y ys) r.1)
        ]
      ] refl m

module _ (locals : List NominalLocal) (s : State) (xs : List Var) (h : IsOver (local_vars 0 locals ++ xs) s) where
  abbrev own : List Var
  own = local_vars 0 locals

  abbrev front : List Var
  front = vars_of_terms (binds_in locals s) ++ map (λ c. c.var) s.conditions

  abbrev all : List Var
  all = vars_of_terms (closed_vars s xs)

  -- what stands in a variable that was brought is the query's own, or was brought itself
  all_seen : (y : Var) → has_var y all ≡ true → has_var y (front ++ unbound_vars s xs) ≡ true
  all_seen y m =
      let r = closed_from s y xs m in
      let P = Among (own ++ xs) in
      let u : IsUnbound s.bindings y = under_each s.bindings h.idempotent (terms.susp [] r.origin) y r.here in
      let a : Among (own ++ xs) y = under_keeps P s.bindings h.bindings (terms.susp [] r.origin) (each_susp P [] r.origin (var_in_right r.origin own xs r.among)) y r.here in
      elim (or_cases (has_var y own) (has_var y xs) (sym (has_var-append y own xs) ∙ a)) [
        | inl i ↦
            var_in_left y front (unbound_vars s xs)
            (var_in_left y (vars_of_terms (binds_in locals s)) (map (λ c. c.var) s.conditions) (has_closed s y y own i (closed_itself s y u)))
        | inr i ↦ var_in_right y front (unbound_vars s xs) (has_unbound s y xs u i)
      ]

  unbound_seen : (y : Var) → has_var y (unbound_vars s xs) ≡ true → has_var y all ≡ true
  unbound_seen y m = let r = unbound_has s y xs m in has_closed s y y xs r.1 (closed_itself s y r.0)

  same_seen : SameVars (front ++ all) (front ++ unbound_vars s xs)
  same_seen y =
      same_test (has_var y (front ++ all)) (has_var y (front ++ unbound_vars s xs))
      (λ m. elim (or_cases (has_var y front) (has_var y all) (sym (has_var-append y front all) ∙ m)) [
        | inl i ↦ var_in_left y front (unbound_vars s xs) i
        | inr i ↦ all_seen y i
      ])
      (λ m. elim (or_cases (has_var y front) (has_var y (unbound_vars s xs)) (sym (has_var-append y front (unbound_vars s xs)) ∙ m)) [
        | inl i ↦ var_in_left y front all i
        | inr i ↦ var_in_right y front all (unbound_seen y i)
      ])

  unbound_suffice : answer_with locals s xs ≡ answer_by_unbound locals s xs
  unbound_suffice =
      ap (λ vs. record { binds = binds_in locals s; conds = s.conditions; vars = typed_vars s.kinds vs }) (ascending_same (front ++ all) (front ++ unbound_vars s xs) same_seen)

follow_unbound : (locals : List NominalLocal) (ms : List Mark) → AllOver (local_vars 0 locals) ms
    → follow with_choices choice (answer_then with_choices (answer_by_unbound locals)) [] [] ms ≡ map (mark_in locals) ms
follow_unbound locals [] h = refl
follow_unbound locals (found q s d ∷ ms) h =
    ap₂ (λ a l. out (answers.found q a) ∷ l) (sym (answer_by_vars locals s d ∙ unbound_suffice locals s (vars_brought d) h.0)) (follow_unbound locals ms h.1)
follow_unbound locals (cut q ∷ ms) h = ap (λ l. out (answers.cut q) ∷ l) (follow_unbound locals ms h)
follow_unbound locals (stuck q ∷ ms) h = ap (λ l. out (answers.stuck q) ∷ l) (follow_unbound locals ms h)
follow_unbound locals (chose q w ∷ ms) h = ap (λ l. choice q w ∷ l) (follow_unbound locals ms h)

-- Typed programs.
module _ (sig : NominalSignature) where
  own_clause : (p : ℕ) (c : NominalClause) → IsTypedClause term_form sig p c → HasOwnVars c
  own_clause p c h = (
    goal_vars_local sig.constructors sig.predicates c.locals (atom c.pred c.args) h.1.0 (λ i e. (h.3.inside i e).0),
    goal_vars_local sig.constructors sig.predicates c.locals c.body h.1.1 (λ i e. (h.3.inside i e).1),
  )

  own_clauses : (p : ℕ) (cs : List NominalClause) → AreTypedClauses term_form sig p cs → HaveOwnVars cs
  own_clauses p [] h = tt
  own_clauses p (c ∷ cs) h = (own_clause p c h.0, own_clauses p cs h.1)

  own_program : (p : ℕ) (css : Clauses) → AreTypedFrom term_form sig p css → AllHaveOwnVars css
  own_program p [] h = tt
  own_program p (cs ∷ css) h = (own_clauses p cs h.0, own_program (suc p) css h.1)

module _ (p : NominalProgram) (typed : IsTypedProgram p) (d : ℕ) (q : NominalQuery) (asked : IsTypedQuery term_form p.signature q) where
  pub marked_stack_by_unbound : stack_marks p.clauses (answer_by_unbound q.locals) (record { goal = q.goal; depth = d } ∷ []) [] (first_state q) [] ≡ map (mark_in q.locals) (marked_query p.clauses d q)
  marked_stack_by_unbound =
      let free = goal_vars_local p.signature.constructors p.signature.predicates q.locals q.goal asked.0 (λ i e. (asked.2.inside i e).1) in
      marked_solve_follows p.clauses d q.goal (answer_then with_choices (answer_by_unbound q.locals)) [] (first_state q) []
      ∙ follow_unbound q.locals (marked_query p.clauses d q) (query_over p.clauses (own_program p.signature 0 p.clauses typed.0) d q free)

  pub stack_by_unbound : stack_outs p.clauses (answer_by_unbound q.locals) (record { goal = q.goal; depth = d } ∷ []) [] (first_state q) [] ≡ query_outs p.clauses d q
  stack_by_unbound =
      sym (marks_stack p.clauses (answer_by_unbound q.locals) (record { goal = q.goal; depth = d } ∷ []) [] (first_state q) [])
      ∙ ap outs_among marked_stack_by_unbound ∙ sym (outs_among_marks p.clauses d q)
