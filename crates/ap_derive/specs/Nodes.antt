-- Nodes of derivations, each without what is below it.
use Rattle.std.specs.Prelude.{ℕ, List, [], ◌∷◌, map, Option, Some, None}
use Rattle.ap_defs.specs.declared.terms.Name.{Name}
use Rattle.ap_defs.specs.Answers.{closed_term}
use Rattle.ap_defs.specs.Derivations as derivations
use Rattle.ap_defs.specs.Derivations.{NominalDerivation}
use Rattle.ap_defs.specs.Resolution.{State}
use Rattle.ap_defs.specs.Terms.{NominalTerm, susp}
use Rattle.ap_bundle.specs.Nodes.{Node, atom, both, equal, exists, fresh, left, new, right, succeed}
use Rattle.ap_shared.specs.FirstNodes.{map_node}
use Rattle.ap_derive.specs.declared.nodes.SelectedGoal.{SelectedGoal}
use Rattle.ap_derive.specs.declared.nodes.SelectedGoal.TheVariants as code

abbrev pub DerivationNode : Type 0
DerivationNode = Node NominalTerm

-- of a goal that was selected; a variable stands for itself
abbrev pub selected_node : SelectedGoal → DerivationNode
selected_node (code.Atom k as' xs) = atom k as' (map (susp []) xs)
selected_node code.Equal = equal
selected_node code.Fresh = fresh
selected_node code.True = succeed
selected_node code.Both = both
selected_node code.Left = left
selected_node code.Right = right
selected_node (code.Exists x) = exists (susp [] x)
selected_node (code.New a) = new a

-- one more name, of this sort, if there is one
abbrev pub names_with : Option ℕ → ℕ → List Name → List Name
names_with None n as' = as'
names_with (Some s) n as' = record { sort = s; num = n } ∷ as'

-- the nodes of a derivation in preorder, and others after them
abbrev pub nodes_before : NominalDerivation → List DerivationNode → List DerivationNode
nodes_before (derivations.atom k as' ts d) ns = atom k as' ts ∷ nodes_before d ns
nodes_before derivations.equal ns = equal ∷ ns
nodes_before derivations.fresh ns = fresh ∷ ns
nodes_before derivations.succeed ns = succeed ∷ ns
nodes_before (derivations.both d e) ns = both ∷ nodes_before d (nodes_before e ns)
nodes_before (derivations.left d) ns = left ∷ nodes_before d ns
nodes_before (derivations.right d) ns = right ∷ nodes_before d ns
nodes_before (derivations.exists t d) ns = exists t ∷ nodes_before d ns
nodes_before (derivations.new a d) ns = new a ∷ nodes_before d ns

-- with what variables stand for in a state
abbrev pub closed_node : State → DerivationNode → DerivationNode
closed_node s n = map_node (closed_term s) n
