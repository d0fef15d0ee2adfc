-- The marks of a machine, where it chooses, and what a turn makes of a machine that doesn't choose.
use Rattle.std.specs.Prelude.{◌≡◌, ◌≤◌, ℕ, zero, suc, List, [], ◌∷◌, length, Option, Some, None}
use Rattle.ap_defs.specs.Answers.{out_path}
use Rattle.ap_defs.specs.Goals.{NominalGoal, NominalClause, atom, either, Clauses, clauses_of}
use Rattle.ap_defs.specs.HeadKeys.{kept_clauses}
use Rattle.ap_defs.specs.Paths.{Choice}
use Rattle.ap_defs.specs.Resolution.{State}
use Rattle.ap_defs.specs.Terms.{NominalTerm}
use Rattle.ap_search.specs.Continuations.{Waiting, Writing, calls_then, clauses_then, goal_then}
use Rattle.ap_search.specs.Marks.{NominalMark, out, choice, with_choices, stack_marks}
use Rattle.ap_search.specs.Records.{Answering}
use Rattle.ap_machine.specs.Positions.{Position, Turned, ends, goes, written_from, written_from_each, written_of_turned}

-- the marks of the goals that wait
abbrev pub marks_from : Clauses → Answering → Position → List NominalMark
marks_from = written_from with_choices

abbrev pub marks_from_each : Clauses → Answering → List Position → List NominalMark
marks_from_each = written_from_each with_choices

abbrev pub marks_of_turned : Clauses → Answering → Turned → List NominalMark
marks_of_turned = written_of_turned with_choices

-- how many choices are among the marks
abbrev pub choices_among : List NominalMark → ℕ
choices_among [] = 0
choices_among (out o ∷ ms) = choices_among ms
choices_among (choice p w ∷ ms) = suc (choices_among ms)

-- how many choices a search makes from a machine
abbrev pub choices_from : Clauses → Answering → Position → ℕ
choices_from program answering p = choices_among (marks_from program answering p)

-- among how many the first goal chooses, if it chooses: an atom that isn't cut among clauses, and a disjunction between its sides
abbrev pub choice_of_atom : Clauses → ℕ → ℕ → Option ℕ
choice_of_atom program zero c = None
choice_of_atom program (suc d) c = Some (length (clauses_of program c))

abbrev pub choice_of_goal : Clauses → ℕ → NominalGoal → Option ℕ
choice_of_goal program d (atom c ts) = choice_of_atom program d c
choice_of_goal program d (either g h) = Some 2
choice_of_goal program d _ = None

abbrev pub IsAmongWays : ℕ → Option ℕ → Type 0
IsAmongWays k None = ⊥
IsAmongWays k (Some w) = (1 ≤ k) × (k ≤ w)

-- the marks of a goal in front of those that wait, and of clauses that an atom can enter
abbrev pub goal_marks : Clauses → Answering → ℕ → NominalGoal → Position → List NominalMark
goal_marks program answering d g p = goal_then with_choices (calls_then with_choices program d) g (stack_marks program answering p.waiting) p.path p.state p.brought

abbrev pub clauses_marks : Clauses → Answering → ℕ → List NominalTerm → List NominalClause → Position → List NominalMark
clauses_marks program answering d ts cs p =
    clauses_then (goal_then with_choices (calls_then with_choices program d)) ts (stack_marks program answering p.waiting) 1 cs p.path p.state p.brought

abbrev pub choice_of : Clauses → List Waiting → Option ℕ
choice_of program [] = None
choice_of program (w ∷ ws) = choice_of_goal program w.depth w.goal

-- the choice that the first goal makes in a state, with the ways that it keeps
abbrev pub told_of_atom : Clauses → State → ℕ → ℕ → List NominalTerm → Option Choice
told_of_atom program s zero c ts = None
told_of_atom program s (suc d) c ts =
    let cs = clauses_of program c in
    Some (record { width = length cs; kept = kept_clauses s.bindings ts cs })

abbrev pub told_of_goal : Clauses → State → ℕ → NominalGoal → Option Choice
told_of_goal program s d (atom c ts) = told_of_atom program s d c ts
told_of_goal program s d (either g h) = Some (record { width = 2; kept = 1 ∷ 2 ∷ [] })
told_of_goal program s d _ = None

abbrev pub told_of : Clauses → State → List Waiting → Option Choice
told_of program s [] = None
told_of program s (w ∷ ws) = told_of_goal program s w.depth w.goal

-- what is written of it
abbrev pub written_here : {R : Type 0} → Writing R → List ℕ → Option Choice → List R
written_here w p None = []
written_here w p (Some c) = w.choice p c.width c.kept

-- how many choices the first goal makes
abbrev pub choices_made : Option ℕ → ℕ
choices_made None = 0
choices_made (Some w) = 1

abbrev pub choices_here : Clauses → Position → ℕ
choices_here program p = choices_made (choice_of program p.waiting)

-- a search that doesn't choose ends, or goes on from one machine with the same path
abbrev pub IsSettled : Position → Turned → Type 0
IsSettled p (ends o) = out_path o ≡ p.path
IsSettled p (goes []) = Unit {0}
IsSettled p (goes (r ∷ [])) = r.path ≡ p.path
IsSettled p (goes (r ∷ s ∷ ps)) = ⊥
