-- Search and answers from states that count as equal.
use Rattle.std.proofs.Common.{subst, ◌≡◌, ℕ, zero, suc, List, [], ◌∷◌, ◌++◌, map, refl, sym, ap, ap₂, ◌∙◌}
use Rattle.std.specs.Prelude.{Option, Some, None}
use Rattle.ap_defs.specs.Answers as answers
use Rattle.ap_defs.specs.Answers.{NominalAnswer, answer_in, ascending_vars, binds_in, out_in, typed_vars}
use Rattle.ap_defs.specs.Derivations as nodes
use Rattle.ap_defs.specs.Derivations.{NominalDerivation}
use Rattle.ap_defs.specs.Freshness.{Conds, add_conds, both as both_lists, reduce}
use Rattle.ap_defs.specs.Goals.{NominalGoal, succeed, atom, equal, fresh, both, either, exists, new, NominalClause, Clauses, clauses_of}
use Rattle.ap_defs.specs.Occurrences.{free_vars, vars_of_terms, without_var}
use Rattle.ap_defs.specs.Permutations.{IsSamePerm}
use Rattle.ap_defs.specs.Renaming.{local_vars, rename_goal, rename_term}
use Rattle.ap_defs.specs.Resolution.{Call, Output, State, below, by_clause, by_clauses, calls, clause_node, each_found, fresh_for_each, if_reduced, if_unified, just_found, kinds_of, next_number, outputs, solve, test_fresh}
use Rattle.ap_defs.specs.SameTerm.{SameTerm, SameTerms, next_term, no_terms, same_abs, same_app, same_name, same_pair, same_susp, same_unit}
use Rattle.ap_defs.specs.Substitution.{Binding, Problem, bound_term, moved, under, ◌#◌}
use Rattle.ap_defs.specs.Terms as terms
use Rattle.ap_defs.specs.Terms.{NominalTerm}
use Rattle.ap_defs.specs.Types.{NominalKind, NominalLocal}
use Rattle.ap_defs.specs.Unification.{Unified, reduce_all, unify, vars_then}
use Rattle.ap_defs.specs.declared.terms.Cond.{Cond}
use Rattle.ap_defs.specs.declared.terms.Swap.{Swap}
use Rattle.ap_defs.specs.declared.terms.Var.{Var}
use Rattle.ap_theory.specs.StatementsOnUnification.{BindAlike, BoundAlike, UnifiedAlike}
use Rattle.ap_theory.proofs.SameTermLemmas.{act_same, reduce_same, same_canonical_term, same_itself}
use Rattle.ap_theory.proofs.SameUnificationLemmas.{unify_alike}
use Rattle.ap_search.specs.Records.{answer_with, closed_vars, vars_brought}
use Rattle.ap_search.specs.SameStates.{Respects, SameGoal, SameOutput, SameOutputs, SameState, next_output, no_outputs, same_atom, same_both, same_cut, same_either, same_equal, same_exists, same_found, same_fresh, same_new, same_stuck, same_succeed}
use Rattle.ap_search.proofs.RecordLemmas.{answer_by_vars}

-- Terms and problems under bindings that are one substitution.
moved_alike : (p q : List Swap) (x : Var) → IsSamePerm p q → (o r : Option NominalTerm) → BoundAlike o r → SameTerm (moved p x o) (moved q x r)
moved_alike p q x h None None k = same_susp h
moved_alike p q x h (Some t) (Some u) k = act_same p q h k
moved_alike p q x h _ _ k = absurd k

pub under_alike : (r s : List Binding) → BindAlike r s → {t u : NominalTerm} → SameTerm t u → SameTerm (under r t) (under s u)
under_alike r s b same_unit = same_unit
under_alike r s b same_name = same_name
under_alike r s b (same_pair h i) = same_pair (under_alike r s b h) (under_alike r s b i)
under_alike r s b (same_app h) = same_app (under_alike r s b h)
under_alike r s b (same_abs h) = same_abs (under_alike r s b h)
under_alike r s b (same_susp {p} {q} {x} h) = moved_alike p q x h (bound_term r x) (bound_term s x) (b x)

pub reduce_all_alike : (r s : List Binding) → BindAlike r s → (ps : List Problem) → reduce_all r ps ≡ reduce_all s ps
reduce_all_alike r s b [] = refl
reduce_all_alike r s b (problem ∷ ps) = first problem (reduce_all_alike r s b ps)
  where
    first : (problem : Problem) → reduce_all r ps ≡ reduce_all s ps → reduce_all r (problem ∷ ps) ≡ reduce_all s (problem ∷ ps)
    first (a # t) e = ap₂ both_lists (reduce_same a (under_alike r s b (same_itself t))) e

pub terms_same_itself : (ts : List NominalTerm) → SameTerms ts ts
terms_same_itself [] = no_terms
terms_same_itself (t ∷ ts) = next_term (same_itself t) (terms_same_itself ts)

pub goal_same_itself : (g : NominalGoal) → SameGoal g g
goal_same_itself succeed = same_succeed
goal_same_itself (atom p ts) = same_atom (terms_same_itself ts)
goal_same_itself (equal t u) = same_equal (same_itself t) (same_itself u)
goal_same_itself (fresh t u) = same_fresh (same_itself t) (same_itself u)
goal_same_itself (both g h) = same_both (goal_same_itself g) (goal_same_itself h)
goal_same_itself (either g h) = same_either (goal_same_itself g) (goal_same_itself h)
goal_same_itself (exists x g) = same_exists (goal_same_itself g)
goal_same_itself (new a g) = same_new (goal_same_itself g)

-- The variables of terms and goals that count as equal.
vars_then_same : {t u : NominalTerm} → SameTerm t u → (xs : List Var) → vars_then t xs ≡ vars_then u xs
vars_then_same same_unit xs = refl
vars_then_same same_name xs = refl
vars_then_same (same_pair {t} {u} {v} {w} h i) xs = ap (vars_then t) (vars_then_same i xs) ∙ vars_then_same h (vars_then w xs)
vars_then_same (same_app h) xs = vars_then_same h xs
vars_then_same (same_abs h) xs = vars_then_same h xs
vars_then_same (same_susp h) xs = refl

vars_of_terms_same : {ts us : List NominalTerm} → SameTerms ts us → vars_of_terms ts ≡ vars_of_terms us
vars_of_terms_same no_terms = refl
vars_of_terms_same (next_term {t} {u} {ts} {us} h i) = ap (vars_then t) (vars_of_terms_same i) ∙ vars_then_same h (vars_of_terms us)

free_vars_same : {g h : NominalGoal} → SameGoal g h → free_vars g ≡ free_vars h
free_vars_same same_succeed = refl
free_vars_same (same_atom h) = vars_of_terms_same h
free_vars_same (same_equal {t} {u} {v} {w} h i) = ap (vars_then t) (vars_then_same i []) ∙ vars_then_same h (vars_then w [])
free_vars_same (same_fresh {t} {u} {v} {w} h i) = ap (vars_then t) (vars_then_same i []) ∙ vars_then_same h (vars_then w [])
free_vars_same (same_both h i) = ap₂ ◌++◌ (free_vars_same h) (free_vars_same i)
free_vars_same (same_either h i) = ap₂ ◌++◌ (free_vars_same h) (free_vars_same i)
free_vars_same (same_exists {x} h) = ap (without_var x) (free_vars_same h)
free_vars_same (same_new h) = free_vars_same h

-- Lists of outputs.
pub outputs_append_same : {os qs ns ms : List Output} → SameOutputs os qs → SameOutputs ns ms → SameOutputs (os ++ ns) (qs ++ ms)
outputs_append_same no_outputs k = k
outputs_append_same (next_output h i) k = next_output h (outputs_append_same i k)

below_same : (p : List ℕ) (node : NominalDerivation → NominalDerivation) {o q : Output} → SameOutput o q → SameOutput (below p node o) (below p node q)
below_same p node (same_found h) = same_found h
below_same p node same_cut = same_cut
below_same p node same_stuck = same_stuck

pub all_below_same : (p : List ℕ) (node : NominalDerivation → NominalDerivation) {os qs : List Output} → SameOutputs os qs
    → SameOutputs (map (below p node) os) (map (below p node) qs)
all_below_same p node no_outputs = no_outputs
all_below_same p node (next_output h i) = next_output (below_same p node h) (all_below_same p node i)

abbrev Alike : (State → List Output) → (State → List Output) → Type 0
Alike go to = (s r : State) → SameState s r → SameOutputs (go s) (to r)

each_same : (go to : State → List Output) → Alike go to → {os qs : List Output} → SameOutputs os qs → SameOutputs (each_found go os) (each_found to qs)
each_same go to k no_outputs = no_outputs
each_same go to k (next_output (same_found {p} {s} {r} {d} h) i) = outputs_append_same (all_below_same p (nodes.both d) (k s r h)) (each_same go to k i)
each_same go to k (next_output same_cut i) = next_output same_cut (each_same go to k i)
each_same go to k (next_output same_stuck i) = next_output same_stuck (each_same go to k i)

just_same : (d : NominalDerivation) → Alike (just_found d) (just_found d)
just_same d s r h = next_output (same_found h) no_outputs

if_unified_same : (go to : State → List Output) → Alike go to → (s r : State) → SameState s r → (o p : Option Unified) → UnifiedAlike o p
    → SameOutputs (if_unified go s o) (if_unified to r p)
if_unified_same go to k s r h None None u = no_outputs
if_unified_same go to k s r h (Some a) (Some b) u = k _ _ (record { bindings = u.0; conditions = u.1; kinds = h.kinds })
if_unified_same go to k s r h _ _ u = absurd u

if_reduced_same : (go to : State → List Output) → Alike go to → (s r : State) → SameState s r → (o : Option (List Cond))
    → SameOutputs (if_reduced go s o) (if_reduced to r o)
if_reduced_same go to k s r h None = no_outputs
if_reduced_same go to k s r h (Some cs) = k _ _ (record { bindings = h.bindings; conditions = ap (add_conds cs) h.conditions; kinds = h.kinds })

pub unify_states : (s r : State) → SameState s r → {ts us vs ws : List NominalTerm} → SameTerms ts vs → SameTerms us ws
    → UnifiedAlike (unify s.bindings s.conditions ts us) (unify r.bindings r.conditions vs ws)
unify_states s r h {ts} {us} {vs} {ws} i j =
    subst (λ (ds : Conds). UnifiedAlike (unify s.bindings s.conditions ts us) (unify r.bindings ds vs ws)) h.conditions (unify_alike s.bindings r.bindings s.conditions ts us vs ws h.bindings i j)

test_fresh_same : (s r : State) → SameState s r → {t v u w : NominalTerm} → SameTerm t v → SameTerm u w → SameOutputs (test_fresh s t u) (test_fresh r v w)
test_fresh_same s r h {u} {w} (same_name {a}) i =
    subst (λ (o : Option (List Cond)). SameOutputs (if_reduced (just_found nodes.fresh) s (reduce a (under s.bindings u))) (if_reduced (just_found nodes.fresh) r o)) (reduce_same a (under_alike s.bindings r.bindings h.bindings i))
    (if_reduced_same (just_found nodes.fresh) (just_found nodes.fresh) (just_same nodes.fresh) s r h (reduce a (under s.bindings u)))
test_fresh_same s r h (same_susp j) i = next_output same_stuck no_outputs
test_fresh_same s r h same_unit i = no_outputs
test_fresh_same s r h (same_pair j k) i = no_outputs
test_fresh_same s r h (same_app j) i = no_outputs
test_fresh_same s r h (same_abs j) i = no_outputs

module _ (call : Call) (respects : Respects call) where
  pub outputs_same : {g h : NominalGoal} → SameGoal g h → Alike (outputs call g) (outputs call h)
  outputs_same same_succeed s r e = just_same nodes.succeed s r e
  outputs_same (same_atom {p} {ts} {us} h) s r e = respects p ts us s r h e
  outputs_same (same_equal {t} {u} {v} {w} h i) s r e =
      if_unified_same (just_found nodes.equal) (just_found nodes.equal) (just_same nodes.equal) s r e (unify s.bindings s.conditions (t ∷ []) (u ∷ [])) (unify r.bindings r.conditions (v ∷ []) (w ∷ [])) (unify_states s r e (next_term h no_terms) (next_term i no_terms))
  outputs_same (same_fresh h i) s r e = test_fresh_same s r e (under_alike s.bindings r.bindings e.bindings h) i
  outputs_same (same_both {f} {g} {h} {k} i j) s r e = each_same (outputs call g) (outputs call k) (outputs_same j) (outputs_same i s r e)
  outputs_same (same_either i j) s r e = outputs_append_same (all_below_same (1 ∷ []) nodes.left (outputs_same i s r e)) (all_below_same (2 ∷ []) nodes.right (outputs_same j s r e))
  outputs_same (same_exists {x} i) s r e = all_below_same [] (nodes.exists (terms.susp [] x)) (outputs_same i s r e)
  outputs_same (same_new {a} {g} {h} i) s r e =
      let o = reduce_all s.bindings (fresh_for_each a (free_vars g)) in
      let known : o ≡ reduce_all r.bindings (fresh_for_each a (free_vars h)) = reduce_all_alike s.bindings r.bindings e.bindings (fresh_for_each a (free_vars g)) ∙ ap (λ xs. reduce_all r.bindings (fresh_for_each a xs)) (free_vars_same i) in
      all_below_same [] (nodes.new a)
      (subst (λ (p : Option (List Cond)). SameOutputs (if_reduced (outputs call g) s o) (if_reduced (outputs call h) r p)) known
      (if_reduced_same (outputs call g) (outputs call h) (outputs_same i) s r e o))

module _ (go : NominalGoal → State → List Output) (same : (g : NominalGoal) → Alike (go g) (go g)) where
  clause_same : (i : ℕ) (c : NominalClause) (ts us : List NominalTerm) → SameTerms ts us → (s r : State) → SameState s r
      → SameOutputs (by_clause go ts s i c) (by_clause go us r i c)
  clause_same i c ts us h s r e =
      let n = next_number s in
      let from = record s { kinds = s.kinds ++ kinds_of c.locals } in
      let start = λ (ks : List NominalKind). record r { kinds = ks } in
      subst (λ (ks : List NominalKind). SameOutputs (by_clause go ts s i c) (by_clause go us (start ks) i c)) e.kinds
      (all_below_same (i ∷ []) (clause_node i n c.locals)
      (if_unified_same (go (rename_goal n c.body)) (go (rename_goal n c.body)) (same (rename_goal n c.body)) from (record r { kinds = s.kinds ++ kinds_of c.locals }) (record { bindings = e.bindings; conditions = e.conditions; kinds = refl })
      (unify s.bindings s.conditions ts (map (rename_term n) c.args)) (unify r.bindings r.conditions us (map (rename_term n) c.args))
      (unify_states s r e h (terms_same_itself (map (rename_term n) c.args)))))

  clauses_same : (i : ℕ) (cs : List NominalClause) (ts us : List NominalTerm) → SameTerms ts us → (s r : State) → SameState s r
      → SameOutputs (by_clauses go ts s i cs) (by_clauses go us r i cs)
  clauses_same i [] ts us h s r e = no_outputs
  clauses_same i (c ∷ cs) ts us h s r e = outputs_append_same (clause_same i c ts us h s r e) (clauses_same (suc i) cs ts us h s r e)

pub calls_respect : (program : Clauses) (d : ℕ) → Respects (calls program d)
calls_respect program zero p ts us s r h e = next_output same_cut no_outputs
calls_respect program (suc d) p ts us s r h e =
    clauses_same (outputs (calls program d)) (λ g. outputs_same (calls program d) (calls_respect program d) (goal_same_itself g)) 1 (clauses_of program p) ts us h s r e

pub solve_same : (program : Clauses) (d : ℕ) (g h : NominalGoal) (s r : State) → SameGoal g h → SameState s r
    → SameOutputs (solve program d g s) (solve program d h r)
solve_same program d g h s r i e = outputs_same (calls program d) (calls_respect program d) i s r e

-- Answers.
closed_same : (s r : State) → SameState s r → (xs : List Var) → closed_vars s xs ≡ closed_vars r xs
closed_same s r e [] = refl
closed_same s r e (x ∷ xs) = ap₂ ◌∷◌ (same_canonical_term (under_alike s.bindings r.bindings e.bindings (same_itself (terms.susp [] x)))) (closed_same s r e xs)

abbrev answer_of_parts : List NominalTerm → Conds → List NominalKind → List NominalTerm → NominalAnswer
answer_of_parts binds conds kinds ts = record {
  binds = binds;
  conds = conds;
  vars = typed_vars kinds (ascending_vars (vars_of_terms binds ++ map (λ c. c.var) conds ++ vars_of_terms ts));
}

pub answer_with_same : (locals : List NominalLocal) (s r : State) (xs : List Var) → SameState s r → answer_with locals s xs ≡ answer_with locals r xs
answer_with_same locals s r xs e =
    ap (λ binds. answer_of_parts binds s.conditions s.kinds (closed_vars s xs)) (closed_same s r e (local_vars zero locals))
    ∙ ap (λ conds. answer_of_parts (binds_in locals r) conds s.kinds (closed_vars s xs)) e.conditions
    ∙ ap (λ kinds. answer_of_parts (binds_in locals r) r.conditions kinds (closed_vars s xs)) e.kinds
    ∙ ap (λ ts. answer_of_parts (binds_in locals r) r.conditions r.kinds ts) (closed_same s r e xs)

pub answer_same : (locals : List NominalLocal) (s r : State) (d : NominalDerivation) → SameState s r → answer_in locals s d ≡ answer_in locals r d
answer_same locals s r d e = answer_by_vars locals s d ∙ answer_with_same locals s r (vars_brought d) e ∙ sym (answer_by_vars locals r d)

pub outs_same : (locals : List NominalLocal) (os qs : List Output) → SameOutputs os qs → map (out_in locals) os ≡ map (out_in locals) qs
outs_same locals _ _ no_outputs = refl
outs_same locals _ _ (next_output {os} {qs} (same_found {p} {s} {r} {d} h) i) = ap₂ (λ a l. answers.found p a ∷ l) (answer_same locals s r d h) (outs_same locals os qs i)
outs_same locals _ _ (next_output {os} {qs} (same_cut {p}) i) = ap (λ l. answers.cut p ∷ l) (outs_same locals os qs i)
outs_same locals _ _ (next_output {os} {qs} (same_stuck {p}) i) = ap (λ l. answers.stuck p ∷ l) (outs_same locals os qs i)
