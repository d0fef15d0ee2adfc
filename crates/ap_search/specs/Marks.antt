-- The marks of a search: its outputs, and a place where it chooses, each with its path.
use Rattle.std.specs.Prelude.{ℕ, ◌&&◌, if◌then◌else◌, List, [], ◌∷◌}
use Rattle.ap_defs.specs.Answers as answers
use Rattle.ap_defs.specs.Answers.{NominalOut, answer_in, out_path}
use Rattle.ap_defs.specs.Goals.{Clauses}
use Rattle.ap_defs.specs.PathOrder.{has_prefix}
use Rattle.ap_defs.specs.Paths.{Choice, Mark}
use Rattle.ap_defs.specs.Resolution as search
use Rattle.ap_defs.specs.Types.{NominalLocal}
use Rattle.ap_search.specs.Continuations.{Continuation, Waiting, Writing, stack_then}
use Rattle.ap_search.specs.Records.{Answering}

-- An output with its answer, or a choice.
pub data NominalMark : Type 0 where
  out : NominalOut → NominalMark
  choice : List ℕ → Choice → NominalMark

abbrev pub mark_in : List NominalLocal → Mark → NominalMark
mark_in locals (search.found p s d) = out (answers.found p (answer_in locals s d))
mark_in locals (search.cut p) = out (answers.cut p)
mark_in locals (search.stuck p) = out (answers.stuck p)
mark_in locals (search.chose p c) = choice p c

abbrev pub mark_path : NominalMark → List ℕ
mark_path (out o) = out_path o
mark_path (choice p w) = p

-- the outputs among the marks
abbrev pub outs_among : List NominalMark → List NominalOut
outs_among [] = []
outs_among (out o ∷ ms) = o ∷ outs_among ms
outs_among (choice p w ∷ ms) = outs_among ms

-- a search with its choices
abbrev pub with_choices : Writing NominalMark
with_choices = record { output = out; choice = λ p w ks. choice p (record { width = w; kept = ks }) ∷ [] }

-- the marks of goals that wait
abbrev pub stack_marks : Clauses → Answering → List Waiting → Continuation NominalMark
stack_marks = stack_then with_choices

-- the choices at just this path
abbrev pub widths_at : List ℕ → List NominalMark → List Choice
widths_at p [] = []
widths_at p (out o ∷ ms) = widths_at p ms
widths_at p (choice q w ∷ ms) = if has_prefix p q && has_prefix q p then (w ∷ widths_at p ms) else widths_at p ms
