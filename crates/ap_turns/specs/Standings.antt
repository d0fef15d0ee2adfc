-- Where branches stand.
use Rattle.std.specs.Prelude.{◌≡◌, ◌≤◌, ℕ, List, [], ◌∷◌, Option, Some, None}
use Rattle.ap_defs.specs.Answers.{out_of, out_path}
use Rattle.ap_defs.specs.Goals.{Clauses}
use Rattle.ap_defs.specs.declared.paths.Node.{Node}
use Rattle.ap_defs.specs.declared.paths.Node.TheVariants as nodes
use Rattle.ap_defs.specs.declared.paths.Out.TheVariants as code
use Rattle.ap_search.specs.Marks.{NominalMark, out}
use Rattle.ap_machine.specs.Machines.{position_of}
use Rattle.ap_turns.specs.Marks.{choice_of, marks_from, told_of}
use Rattle.ap_turns.specs.declared.standing.Standing.{Standing}
use Rattle.ap_search.specs.Records.{Answering}
use Rattle.ap_turns.specs.declared.standing.Standing.TheVariants as standings

abbrev pub path_of_standing : Standing → List ℕ
path_of_standing (standings.Choosing w p) = p.path.items
path_of_standing (standings.Ended o) = out_path (out_of o)
path_of_standing (standings.Failed path) = path.items

-- the marks of the search from where a branch stands
abbrev pub marks_of_standing : Clauses → Answering → Standing → List NominalMark
marks_of_standing program answering (standings.Choosing w p) = marks_from program answering (position_of p)
marks_of_standing program answering (standings.Ended o) = out (out_of o) ∷ []
marks_of_standing program answering (standings.Failed path) = []

-- where it chooses it knows among how many
abbrev pub IsChoosing : Clauses → Standing → Type 0
IsChoosing program (standings.Choosing w p) = choice_of program (position_of p).waiting ≡ Some w
IsChoosing program (standings.Ended o) = Unit {0}
IsChoosing program (standings.Failed path) = Unit {0}

-- it stands before a choice, among which this is
abbrev pub IsChoiceAt : ℕ → Standing → Type 0
IsChoiceAt k (standings.Choosing w p) = (1 ≤ k) × (k ≤ w)
IsChoiceAt k (standings.Ended o) = ⊥
IsChoiceAt k (standings.Failed path) = ⊥

-- the node says where it stands, and of a choice what its goal keeps
abbrev pub IsNamedNode : Clauses → Node → Standing → Type 0
IsNamedNode program (nodes.Choice w kept) (standings.Choosing v p) =
    (w ≡ v) × (told_of program (position_of p).state (position_of p).waiting ≡ Some (record { width = w; kept = kept }))
IsNamedNode program nodes.Answer (standings.Ended (code.Found p a)) = Unit {0}
IsNamedNode program nodes.Cut (standings.Ended (code.Cut p)) = Unit {0}
IsNamedNode program nodes.Stuck (standings.Ended (code.Stuck p)) = Unit {0}
IsNamedNode program nodes.Failed (standings.Failed path) = Unit {0}
IsNamedNode program _ _ = ⊥

-- among how many ways it chooses there, if it does
abbrev pub width_of_standing : Standing → Option ℕ
width_of_standing (standings.Choosing w p) = Some w
width_of_standing (standings.Ended o) = None
width_of_standing (standings.Failed path) = None
