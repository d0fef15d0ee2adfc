-- The types of all variables are inhabited where those of the rest are.
use Rattle.std.proofs.Common.{◌≡◌, List, length, drop}
use Rattle.ap_defs.specs.Types.{TypeShape}
use Rattle.ap_kinds.specs.declared.read_types.Declared.{Declared}
use Rattle.ap_kinds.specs.Reading.{read_kinds}
use Rattle.ap_kinds.specs.ReadTypes.{AreFirstRead, are_inhabited_if, marks_of}
use Rattle.ap_kinds.proofs.reading.are_inhabited.Given as goal

abbrev pub invariant-loop-i : goal.invariant-loop-i
invariant-loop-i l =
    (by : Declared) (ts : List TypeShape) → AreFirstRead by (length l.idents) ts l.reads → are_inhabited_if (marks_of by) (read_kinds ts l.i (drop l.i l.idents)) ≡ are_inhabited_if (marks_of by) (read_kinds ts 0 l.idents)
