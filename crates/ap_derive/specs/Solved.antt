-- Goals that wait, solved along a path.
use Rattle.std.specs.Prelude.{◌≡◌, ℕ, List, [], ◌∷◌, drop, length, map, Option, Some, None}
use Rattle.ap_defs.specs.Derivations.{NominalDerivation}
use Rattle.ap_defs.specs.Goals as goals
use Rattle.ap_defs.specs.Goals.{Clauses, NominalGoal, goal_of}
use Rattle.ap_defs.specs.Renaming.{rename_goal, rename_term}
use Rattle.ap_defs.specs.Resolution.{State}
use Rattle.ap_defs.specs.Terms.{NominalTerm, susp, term_of}
use Rattle.ap_defs.specs.declared.terms.Term.{Term}
use Rattle.ap_search.specs.Continuations.{Waiting}
use Rattle.ap_machine.specs.Positions.{Position}
use Rattle.ap_machine.specs.Views.{waiting_of}
use Rattle.ap_machine.specs.declared.frames.Frame.{Frame}
use Rattle.ap_checks.specs.Traces.{Traced, traced}
use Rattle.ap_bundle.specs.Nodes.{both, equal, exists, fresh, new, succeed}
use Rattle.ap_derive.specs.Nodes.{DerivationNode, nodes_before}

-- The state to which they lead, the nodes of their derivations in preorder, and what is left of the path.
pub record Solved : Type 0 where
  pub state : State
  pub nodes : List DerivationNode
  pub rest : List ℕ

abbrev pub with_node : DerivationNode → Option Solved → Option Solved
with_node n None = None
with_node n (Some r) = Some (record { state = r.state; nodes = n ∷ r.nodes; rest = r.rest })

abbrev pub with_derivation : NominalDerivation → Option Solved → Option Solved
with_derivation d None = None
with_derivation d (Some r) = Some (record { state = r.state; nodes = nodes_before d r.nodes; rest = r.rest })

-- the others go on where the first one led
abbrev pub others_solved : (State → List ℕ → Option Solved) → Option Traced → Option Solved
others_solved go None = None
others_solved go (Some r) = with_derivation r.derivation (go r.state r.rest)

-- one after another, along a path from a state
abbrev pub solved : Clauses → List Waiting → State → List ℕ → Option Solved
solved program [] s path = Some (record { state = s; nodes = []; rest = path })
solved program (w ∷ ws) s path = others_solved (solved program ws) (traced program w.depth w.goal s path)

-- what is left of a path at a machine on it
abbrev pub rest_of : List ℕ → Position → List ℕ
rest_of path p = drop (length p.path) path

abbrev pub solved_at : Clauses → List ℕ → Position → Option Solved
solved_at program path p = solved program p.waiting p.state (rest_of path p)

-- all goals that wait there are solved along the path
abbrev pub IsSolved : Clauses → List ℕ → Position → Type 0
IsSolved program path p = (r : Solved) × (solved_at program path p ≡ Some r)

-- the path has one more choice
abbrev pub HasOneMoreChoice : List ℕ → Position → Type 0
HasOneMoreChoice path p = (k : ℕ) × (rest : List ℕ) × (rest_of path p ≡ k ∷ rest)

-- the goal of a frame, and terms whose numbers are raised
abbrev pub frame_goal : Frame → NominalGoal
frame_goal f = rename_goal f.base (goal_of f.goal.now)

abbrev pub raised : ℕ → List Term → List NominalTerm
raised n ts = map (rename_term n) (map term_of ts)

-- one more goal, that of a frame, in front of the others
abbrev pub with_frame : Frame → Position → Position
with_frame f p = record p { waiting = waiting_of f ∷ p.waiting }

-- the first goal is selected, with this node, and the second machine is where it leaves
abbrev pub Selects : Clauses → List ℕ → Position → DerivationNode → Position → Type 0
Selects program path p n q = solved_at program path p ≡ with_node n (solved_at program path q)

-- the node of a goal that doesn't choose
abbrev pub node_of_goal : NominalGoal → Option DerivationNode
node_of_goal goals.succeed = Some succeed
node_of_goal (goals.atom p ts) = None
node_of_goal (goals.equal t u) = Some equal
node_of_goal (goals.fresh t u) = Some fresh
node_of_goal (goals.both g h) = Some both
node_of_goal (goals.either g h) = None
node_of_goal (goals.exists x g) = Some (exists (susp [] x))
node_of_goal (goals.new a g) = Some (new a)
