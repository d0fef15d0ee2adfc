-- One clause back: the node of a clause isn't refused where no node of its body's derivation is.
use Rattle.std.proofs.Common.{subst, ◌≡◌, ℕ, suc, true, ◌&&◌, ◌||◌, List, [], ◌∷◌, map, refl, sym, ap, ap₂, ◌∙◌}
use Rattle.std.specs.Prelude.{Option, Some, None}
use Rattle.ap_defs.specs.Answers.{NominalAnswer, closed_term}
use Rattle.ap_defs.specs.Derivations as nodes
use Rattle.ap_defs.specs.Derivations.{NominalDerivation, map_terms}
use Rattle.ap_defs.specs.Freshness.{Conds, alpha_under}
use Rattle.ap_defs.specs.Goals.{atom, NominalClause, NominalProgram, clauses_of}
use Rattle.ap_defs.specs.GroundProofs.{clause_at}
use Rattle.ap_defs.specs.Renaming.{local_names, local_vars, rename_term, rename_var}
use Rattle.ap_defs.specs.Resolution.{State, clause_node, kinds_of}
use Rattle.ap_defs.specs.Terms as terms
use Rattle.ap_defs.specs.Terms.{NominalTerm}
use Rattle.ap_defs.specs.Types.{NominalConstructor, NominalKind, NominalType}
use Rattle.ap_defs.specs.Unification.{Unified, has_var, unify}
use Rattle.ap_defs.specs.declared.terms.Name.{Name}
use Rattle.ap_defs.specs.declared.terms.Var.{Var}
use Rattle.ap_program.specs.RawTyping.{HasTermType}
use Rattle.ap_program.specs.Typed.{AreArguments, HaveTypes, IsTypedClause, predicate_at, term_form}
use Rattle.ap_theory.specs.Contexts.{listed_context}
use Rattle.ap_theory.specs.Substitutions.{EquatesAll, Substitution, applied}
use Rattle.ap_theory.proofs.BooleanLemmas.{and_both, or_if_left, or_if_right}
use Rattle.ap_theory.proofs.TermLemmas.{act_term_none}
use Rattle.ap_theory.proofs.TestLemmas.{Equal_alpha_under}
use Rattle.ap_ground.proofs.ItemEnvironmentLemmas.{free_is_variable, vars_from}
use Rattle.ap_ground.proofs.ShiftLemmas.{has_renamed}
use Rattle.ap_soundness.proofs.ClauseLemmas as found
use Rattle.ap_soundness.proofs.StepLemmas.{vars_in_nodes}
use Rattle.ap_checks.specs.Checks.{Refusal, are_different, refusal_of_rule, tests_by_clause, equal_each, have_counts, refusal, with_clause}
use Rattle.ap_checks.specs.OpenEnvironments.{open_environment, put_in}
use Rattle.ap_checks.specs.TypeTests.{has_kind, have_kinds, have_sorts, type_beside}
use Rattle.ap_checks.proofs.OpenBackwardLemmas.{open_unify_back}
use Rattle.ap_checks.proofs.OpenLemmas.{puts_agree, refusal_sees_free}
use Rattle.ap_checks.proofs.OpenShiftLemmas.{kinds_renamed, node_counts, node_different, node_sorts, open_body_agrees, open_head_agrees, open_item, open_node_terms, open_shifted, put_shifted}
use Rattle.ap_checks.proofs.OpenStepLemmas.{CheckedFrom, test_passes}

plain_vars : (q : State) (xs : List Var) → map (applied (λ x. closed_term q (terms.susp [] x))) (map (terms.susp []) xs) ≡ map (closed_term q) (map (terms.susp []) xs)
plain_vars q [] = refl
plain_vars q (x ∷ xs) = ap₂ ◌∷◌ (act_term_none (closed_term q (terms.susp [] x))) (plain_vars q xs)

module _ (p : NominalProgram) where
  abbrev cs : List NominalConstructor
  cs = p.signature.constructors

  clause_passes : (a : NominalAnswer) (n : ℕ) (names : List Name) (ts us : List NominalTerm) (c : NominalClause) (rest : Option Refusal)
      → have_counts c.locals names ts ≡ true → are_different names ≡ true → have_sorts (local_names 0 c.locals) names ≡ true
      → have_kinds cs (type_beside a.vars) (kinds_of c.locals) (local_vars 0 c.locals) ts ≡ true
      → equal_each a.conds us (map (put_in (open_environment c.locals names ts)) c.args) ≡ true → rest ≡ None → tests_by_clause p a n names ts us c rest ≡ None
  clause_passes a n names ts us c rest counts different sorts kinds heads h =
      test_passes (have_counts c.locals names ts) (refusal_of_rule n 3) _ counts
      (test_passes (are_different names) (refusal_of_rule n 4) _ different
      (test_passes (have_sorts (local_names 0 c.locals) names && have_kinds cs (type_beside a.vars) (kinds_of c.locals) (local_vars 0 c.locals) ts) (refusal_of_rule n 5) _
      (and_both _ _ sorts kinds)
      (test_passes (equal_each a.conds us (map (put_in (open_environment c.locals names ts)) c.args)) (refusal_of_rule n 6) rest heads h)))

  heads_equal : (ds : Conds) (t : Substitution) (n m : ℕ) (ks ls : List NominalKind) (ts us : List NominalTerm) (as' : List NominalType)
      → HaveTypes (HasTermType cs ks) ts as' → HaveTypes (HasTermType cs ls) us as' → EquatesAll (listed_context ds) t (map (rename_term n) ts) (map (rename_term m) us)
      → equal_each ds (map (put_in (open_shifted n t)) ts) (map (put_in (open_shifted m t)) us) ≡ true
  heads_equal ds t n m ks ls [] [] as' h k e = refl
  heads_equal ds t n m ks ls [] (u ∷ us) [] h k e = absurd k
  heads_equal ds t n m ks ls [] (u ∷ us) (b ∷ as') h k e = absurd h
  heads_equal ds t n m ks ls (v ∷ ts) us [] h k e = absurd h
  heads_equal ds t n m ks ls (v ∷ ts) [] (b ∷ as') h k e = absurd k
  heads_equal ds t n m ks ls (v ∷ ts) (u ∷ us) (b ∷ as') h k e =
      and_both (alpha_under ds (put_in (open_shifted n t) v) (put_in (open_shifted m t) u)) (equal_each ds (map (put_in (open_shifted n t)) ts) (map (put_in (open_shifted m t)) us))
      (ap₂ (alpha_under ds) (put_shifted n t v) (put_shifted m t u) ∙ Equal_alpha_under ds (applied t (rename_term n v)) (applied t (rename_term m u)) e.0)
      (heads_equal ds t n m ks ls ts us as' h.1 k.1 e.1)

  arguments_equal : (ds : Conds) (t : Substitution) (n m : ℕ) (ks ls : List NominalKind) (ts us : List NominalTerm) (o : Option (List NominalType))
      → AreArguments (HasTermType cs ks) ts o → AreArguments (HasTermType cs ls) us o → EquatesAll (listed_context ds) t (map (rename_term n) ts) (map (rename_term m) us)
      → equal_each ds (map (put_in (open_shifted n t)) ts) (map (put_in (open_shifted m t)) us) ≡ true
  arguments_equal ds t n m ks ls ts us None h k e = absurd h
  arguments_equal ds t n m ks ls ts us (Some as') h k e = heads_equal ds t n m ks ls ts us as' h k e

  module _ (kinds : List NominalKind) (n q : ℕ) (ts : List NominalTerm) (s : State) (depth k : ℕ) (c : NominalClause)
      (here : clause_at (clauses_of p.clauses q) k ≡ Some c) (typed : IsTypedClause term_form p.signature q c)
      (goal_typed : AreArguments (HasTermType cs kinds) ts (predicate_at p.signature.predicates q)) where
    abbrev m : ℕ
    m = found.m p kinds n q ts s depth k c here typed goal_typed

    abbrev item_kinds : List NominalKind
    item_kinds = kinds_of c.locals

    abbrev start : Unified → State
    start r = found.start p kinds n q ts s depth k c here typed goal_typed r

    vars_of_node : (x : Var) (d : NominalDerivation) → has_var x (vars_in_nodes (clause_node k m c.locals d)) ≡ (has_var x (local_vars m c.locals) || has_var x (vars_in_nodes d))
    vars_of_node = found.vars_of_node p kinds n q ts s depth k c here typed goal_typed

    node_passes : (a : NominalAnswer) (t : Substitution) (j : ℕ) (d : NominalDerivation)
        → have_kinds cs (type_beside a.vars) item_kinds (local_vars 0 c.locals) (map (λ x. t (rename_var m x)) (local_vars 0 c.locals)) ≡ true
        → EquatesAll (listed_context a.conds) t (map (rename_term n) ts) (map (rename_term m) c.args)
        → refusal p a item_kinds (suc j) d c.body (open_shifted m t) ≡ None
        → refusal p a kinds j (nodes.atom k (local_names m c.locals) (map (λ x. t (rename_var m x)) (local_vars 0 c.locals)) d) (atom q ts) (open_shifted n t) ≡ None
    node_passes a t j d kinds_hold e body =
        let us = map (λ x. t (rename_var m x)) (local_vars 0 c.locals) in
        let names = local_names m c.locals in
        let env = open_item m t c.locals in
        let agree = open_head_agrees p q c typed m t in
        let rest = refusal p a item_kinds (suc j) d c.body env in
        let args = subst (λ r. AreArguments (HasTermType cs item_kinds) c.args (predicate_at p.signature.predicates r)) typed.0 typed.1.0 in
        let heads : equal_each a.conds (map (put_in (open_shifted n t)) ts) (map (put_in env) c.args) ≡ true =
        ap (equal_each a.conds (map (put_in (open_shifted n t)) ts)) (sym (puts_agree (open_shifted m t) env c.args agree.names agree.terms))
        ∙ arguments_equal a.conds t n m kinds item_kinds ts c.args (predicate_at p.signature.predicates q) goal_typed args e in
        let inner : rest ≡ None = sym (refusal_sees_free p a item_kinds (suc j) d c.body (open_shifted m t) env (open_body_agrees p q c typed m t)) ∙ body in
        ap (λ o. with_clause j o
        (λ b. tests_by_clause p a j names us (map (put_in (open_shifted n t)) ts) b (refusal p a (kinds_of b.locals) (suc j) d b.body (open_environment b.locals names us)))) here
        ∙ clause_passes a j names us (map (put_in (open_shifted n t)) ts) c rest
        (node_counts m (λ x. t (rename_var m x)) c.locals) (node_different m c.locals) (node_sorts m c.locals) kinds_hold heads inner

    pub clause_checked : (r : Unified) → unify s.bindings s.conditions (map (rename_term n) ts) (map (rename_term m) c.args) ≡ Some r
        → (z : State) (d : NominalDerivation) → CheckedFrom p item_kinds m c.body (start r) depth z d
        → CheckedFrom p kinds n (atom q ts) s (suc depth) z (clause_node k m c.locals d)
    clause_checked r e z d i = record {
      from = found.clause_found p kinds n q ts s depth k c here typed goal_typed r e z d i.from;
      plain = λ w. ap₂ (nodes.atom k (local_names m c.locals)) (plain_vars w (local_vars m c.locals)) (i.plain w);
      checks = λ a t w h.
          let inner = i.checks a t w (λ x l. h x (vars_of_node x d ∙ or_if_right (has_var x (local_vars m c.locals)) (has_var x (vars_in_nodes d)) l)) in
          let b = open_unify_back a.conds t s (map (rename_term n) ts) (map (rename_term m) c.args) r e inner.0.agreeing inner.0.meeting in
          let kinds_hold = kinds_renamed cs (type_beside a.vars) item_kinds (λ x. t (rename_var m x)) (local_vars 0 c.locals) (λ x l.
          let v = free_is_variable c.locals x l in
          let y = rename_var m x in
          let local : has_var y (local_vars m c.locals) ≡ true = ap (has_var y) (vars_from m c.locals) ∙ has_renamed m x (local_vars 0 c.locals) ∙ l in
          subst (λ o. has_kind cs (type_beside a.vars) o (t y) ≡ true) (found.local_kind p kinds n q ts s depth k c here typed goal_typed z.kinds i.from.kept x v ∙ sym v.1)
          (h y (vars_of_node y d ∙ or_if_left (has_var y (local_vars m c.locals)) (has_var y (vars_in_nodes d)) local))) in (
            b.0,
            λ j.
                ap (λ us. refusal p a kinds j (nodes.atom k (local_names m c.locals) us (map_terms (applied t) d)) (atom q ts) (open_shifted n t)) (open_node_terms m t c.locals)
                ∙ node_passes a t j (map_terms (applied t) d) kinds_hold b.1 (inner.1 (suc j)),
          );
    }
