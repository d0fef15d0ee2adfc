-- A goal that is selected, and the goals that are left, are solved together.
use Rattle.std.proofs.Common.{subst, ◌≡◌, ◌<◌, ℕ, suc, List, [], ◌∷◌, ◌++◌, refl, sym, ap, ◌∙◌, arith}
use Rattle.std.specs.Prelude.{Option, Some, None, length}
use Rattle.ap_defs.specs.declared.terms.Cond.{Cond}
use Rattle.ap_defs.specs.Derivations as derivations
use Rattle.ap_defs.specs.Derivations.{NominalDerivation}
use Rattle.ap_defs.specs.Freshness.{add_conds, reduce}
use Rattle.ap_defs.specs.Goals as goals
use Rattle.ap_defs.specs.Goals.{Clauses, NominalGoal}
use Rattle.ap_defs.specs.Occurrences.{free_vars}
use Rattle.ap_defs.specs.Resolution.{State, fresh_for_each}
use Rattle.ap_defs.specs.Substitution.{under}
use Rattle.ap_defs.specs.Terms as terms
use Rattle.ap_defs.specs.Terms.{NominalTerm}
use Rattle.ap_defs.specs.Unification.{Unified, reduce_all, unify}
use Rattle.ap_turns.specs.Marks.{choice_of_goal}
use Rattle.ap_machine.specs.Positions.{Position, Turned, ends, goes, goes_with, reduced_state, turned_fresh, turned_goal, unified_state, with_goal}
use Rattle.ap_checks.specs.Traces.{Trace, Traced, just_traced, trace_fresh, trace_reduced, trace_then, trace_unified, traced, under_node}
use Rattle.ap_bundle.specs.Nodes.{both, equal, exists, fresh, new, succeed}
use Rattle.ap_derive.specs.Nodes.{DerivationNode, nodes_before}
use Rattle.ap_derive.specs.Solved.{IsSolved, Selects, Solved, node_of_goal, others_solved, rest_of, solved, solved_at, with_derivation, with_node}

abbrev pub Others : Type 0
Others = State → List ℕ → Option Solved

-- A node above what is below it.
above_derivation : (node : NominalDerivation → NominalDerivation) (n : DerivationNode) → ((d : NominalDerivation) (ns : List DerivationNode) → nodes_before (node d) ns ≡ n ∷ nodes_before d ns)
    → (d : NominalDerivation) (o : Option Solved) → with_derivation (node d) o ≡ with_node n (with_derivation d o)
above_derivation node n h d None = refl
above_derivation node n h d (Some r) = ap (λ ns. Some (record { state = r.state; nodes = ns; rest = r.rest })) (h d r.nodes)

leaf_alone : (d : NominalDerivation) (n : DerivationNode) → ((ns : List DerivationNode) → nodes_before d ns ≡ n ∷ ns) → (o : Option Solved) → with_derivation d o ≡ with_node n o
leaf_alone d n h None = refl
leaf_alone d n h (Some r) = ap (λ ns. Some (record { state = r.state; nodes = ns; rest = r.rest })) (h r.nodes)

above_both : (d e : NominalDerivation) (o : Option Solved) → with_derivation (derivations.both d e) o ≡ with_node both (with_derivation d (with_derivation e o))
above_both d e None = refl
above_both d e (Some r) = refl

module _ (go : Others) where
  pub below_node : (node : NominalDerivation → NominalDerivation) (n : DerivationNode) → ((d : NominalDerivation) (ns : List DerivationNode) → nodes_before (node d) ns ≡ n ∷ nodes_before d ns)
      → (o : Option Traced) → others_solved go (under_node node o) ≡ with_node n (others_solved go o)
  below_node node n h None = refl
  below_node node n h (Some r) = above_derivation node n h r.derivation (go r.state r.rest)

  second_below : (d : NominalDerivation) (o : Option Traced) → others_solved go (under_node (derivations.both d) o) ≡ with_node both (with_derivation d (others_solved go o))
  second_below d None = refl
  second_below d (Some r) = above_both d r.derivation (go r.state r.rest)

  both_below : (next : Trace) (o : Option Traced) → others_solved go (trace_then next o) ≡ with_node both (others_solved (λ s path. others_solved go (next s path)) o)
  both_below next None = refl
  both_below next (Some r) = second_below r.derivation (next r.state r.rest)

module _ (program : Clauses) (path : List ℕ) where
  -- where a turn goes on from one machine, or from none
  abbrev pub solved_on : Turned → Option Solved
  solved_on (ends o) = None
  solved_on (goes []) = None
  solved_on (goes (p ∷ [])) = solved_at program path p
  solved_on (goes (p ∷ q ∷ ps)) = None

  unified_on : (p : Position) (o : Option Unified)
      → others_solved (solved program p.waiting) (trace_unified (just_traced derivations.equal) p.state o (rest_of path p)) ≡ with_node equal (solved_on (goes_with p (unified_state p.state o)))
  unified_on p None = refl
  unified_on p (Some r) =
      leaf_alone derivations.equal equal (λ ns. refl) (solved program p.waiting (record (p.state) { bindings = r.bindings; conditions = r.conditions }) (rest_of path p))

  reduced_on : (p : Position) (o : Option (List Cond))
      → others_solved (solved program p.waiting) (trace_reduced (just_traced derivations.fresh) p.state o (rest_of path p)) ≡ with_node fresh (solved_on (goes_with p (reduced_state p.state o)))
  reduced_on p None = refl
  reduced_on p (Some cs) =
      leaf_alone derivations.fresh fresh (λ ns. refl) (solved program p.waiting (record (p.state) { conditions = add_conds cs p.state.conditions }) (rest_of path p))

  fresh_on : (p : Position) (t u : NominalTerm)
      → others_solved (solved program p.waiting) (trace_fresh t u p.state (rest_of path p)) ≡ with_node fresh (solved_on (turned_fresh p t u))
  fresh_on p (terms.name a) u = reduced_on p (reduce a (under p.state.bindings u))
  fresh_on p (terms.susp q x) u = refl
  fresh_on p terms.unit u = refl
  fresh_on p (terms.pair _ _) u = refl
  fresh_on p (terms.app _ _) u = refl
  fresh_on p (terms.abs _ _) u = refl

  new_on : (d : ℕ) (g : NominalGoal) (p : Position) (o : Option (List Cond))
      → others_solved (solved program p.waiting) (trace_reduced (traced program d g) p.state o (rest_of path p)) ≡ solved_on (goes_with (with_goal d g p) (reduced_state p.state o))
  new_on d g p None = refl
  new_on d g p (Some cs) = refl

  -- a goal that doesn't choose, and what its turn makes of the machine
  pub settled_on : (d : ℕ) (g : NominalGoal) (p : Position) (n : DerivationNode) → node_of_goal g ≡ Some n
      → solved_at program path (with_goal d g p) ≡ with_node n (solved_on (turned_goal program d g p))
  settled_on d goals.succeed p n e =
      let same : succeed ≡ n = cc in
      subst (λ (m : DerivationNode). solved_at program path (with_goal d goals.succeed p) ≡ with_node m (solved_on (turned_goal program d goals.succeed p))) same
      (leaf_alone derivations.succeed succeed (λ ns. refl) (solved_at program path p))
  settled_on d (goals.atom q ts) p n e = cc
  settled_on d (goals.equal t u) p n e =
      let same : equal ≡ n = cc in
      subst (λ (m : DerivationNode). solved_at program path (with_goal d (goals.equal t u) p) ≡ with_node m (solved_on (turned_goal program d (goals.equal t u) p))) same
      (unified_on p (unify p.state.bindings p.state.conditions (t ∷ []) (u ∷ [])))
  settled_on d (goals.fresh t u) p n e =
      let same : fresh ≡ n = cc in
      subst (λ (m : DerivationNode). solved_at program path (with_goal d (goals.fresh t u) p) ≡ with_node m (solved_on (turned_goal program d (goals.fresh t u) p))) same
      (fresh_on p (under p.state.bindings t) u)
  settled_on d (goals.both g h) p n e =
      let same : both ≡ n = cc in
      subst (λ (m : DerivationNode). solved_at program path (with_goal d (goals.both g h) p) ≡ with_node m (solved_on (turned_goal program d (goals.both g h) p))) same
      (both_below (solved program p.waiting) (traced program d h) (traced program d g p.state (rest_of path p)))
  settled_on d (goals.either g h) p n e = cc
  settled_on d (goals.exists x g) p n e =
      let same : exists (terms.susp [] x) ≡ n = cc in
      subst (λ (m : DerivationNode). solved_at program path (with_goal d (goals.exists x g) p) ≡ with_node m (solved_on (turned_goal program d (goals.exists x g) p))) same
      (below_node (solved program p.waiting) (derivations.exists (terms.susp [] x)) (exists (terms.susp [] x)) (λ f ns. refl) (traced program d g p.state (rest_of path p)))
  settled_on d (goals.new a g) p n e =
      let same : new a ≡ n = cc in
      let o = reduce_all p.state.bindings (fresh_for_each a (free_vars g)) in
      subst (λ (m : DerivationNode). solved_at program path (with_goal d (goals.new a g) p) ≡ with_node m (solved_on (turned_goal program d (goals.new a g) p))) same
      (below_node (solved program p.waiting) (derivations.new a) (new a) (λ f ns. refl) (trace_reduced (traced program d g) p.state o (rest_of path p)) ∙ ap (with_node (new a)) (new_on d g p o))

  -- a goal that fails or ends isn't solved
  pub no_node : (n : DerivationNode) (t : Turned) (o : Option Solved) (r : Solved) → solved_on t ≡ None → o ≡ with_node n (solved_on t) → o ≡ Some r → ⊥
  no_node n t o r none e h = let m : with_node n (solved_on t) ≡ None = ap (with_node n) none in let k : None ≡ Some r = sym m ∙ sym e ∙ h in cc

-- A goal that doesn't choose has a turn, and the search goes on from there where it is solved.
pub settled_none : (program : Clauses) (d : ℕ) (g : NominalGoal) (n : DerivationNode) → node_of_goal g ≡ Some n → choice_of_goal program d g ≡ None
settled_none program d goals.succeed n e = refl
settled_none program d (goals.atom q ts) n e = cc
settled_none program d (goals.equal t u) n e = refl
settled_none program d (goals.fresh t u) n e = refl
settled_none program d (goals.both g h) n e = refl
settled_none program d (goals.either g h) n e = cc
settled_none program d (goals.exists x g) n e = refl
settled_none program d (goals.new a g) n e = refl

module _ (program : Clauses) (path : List ℕ) (d : ℕ) (g : NominalGoal) (p : Position) (n : DerivationNode) (of : node_of_goal g ≡ Some n) where
  pub goes_on : (q : Position) → goes (q ∷ []) ≡ turned_goal program d g p → Selects program path (with_goal d g p) n q
  goes_on q e = settled_on program path d g p n of ∙ ap (λ t. with_node n (solved_on program path t)) (sym e)

  pub not_solved : (t : Turned) → solved_on program path t ≡ None → t ≡ turned_goal program d g p → IsSolved program path (with_goal d g p) → ⊥
  not_solved t none e s =
      no_node program path n t (solved_at program path (with_goal d g p)) s.0 none (settled_on program path d g p n of ∙ ap (λ u. with_node n (solved_on program path u)) (sym e)) s.1

-- Nodes in front, one after another.
abbrev pub with_nodes : List DerivationNode → Option Solved → Option Solved
with_nodes [] o = o
with_nodes (n ∷ ns) o = with_node n (with_nodes ns o)

pub one_more : (ns : List DerivationNode) (n : DerivationNode) (o : Option Solved) → with_nodes (ns ++ n ∷ []) o ≡ with_nodes ns (with_node n o)
one_more [] n o = refl
one_more (m ∷ ns) n o = ap (with_node m) (one_more ns n o)

pub node_solved : (n : DerivationNode) (o : Option Solved) (r : Solved) → with_node n o ≡ Some r → (t : Solved) × (o ≡ Some t)
node_solved n None r h = cc
node_solved n (Some t) r h = (t, refl)

pub nodes_solved : (ns : List DerivationNode) (o : Option Solved) (r : Solved) → with_nodes ns o ≡ Some r → (t : Solved) × (o ≡ Some t)
nodes_solved [] o r h = (r, h)
nodes_solved (n ∷ ns) o r h = let t = node_solved n (with_nodes ns o) r h in nodes_solved ns o t.0 t.1

-- how many goals are still to be selected
abbrev pub goals_left : Option Solved → ℕ
goals_left None = 0
goals_left (Some r) = length r.nodes

pub fewer_left : (n : DerivationNode) (o q : Option Solved) (r : Solved) → o ≡ with_node n q → o ≡ Some r → goals_left q < goals_left o
fewer_left n o None r e h = let k : None ≡ Some r = sym e ∙ h in cc
fewer_left n o (Some t) r e h = let k : goals_left o ≡ suc (length t.nodes) = ap goals_left e in omega arith

-- where no goal waits
pub all_nodes : (ns : List DerivationNode) (s : State) (rest : List ℕ) → with_nodes ns (Some (record { state = s; nodes = []; rest = rest })) ≡ Some (record { state = s; nodes = ns; rest = rest })
all_nodes [] s rest = refl
all_nodes (n ∷ ns) s rest = ap (with_node n) (all_nodes ns s rest)

pub none_waits : (program : Clauses) (path : List ℕ) (p : Position) → p.waiting ≡ [] → solved_at program path p ≡ Some (record { state = p.state; nodes = []; rest = rest_of path p })
none_waits program path p e = ap (λ ws. solved program ws p.state (rest_of path p)) e
