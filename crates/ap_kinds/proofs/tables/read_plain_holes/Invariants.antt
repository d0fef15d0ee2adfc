-- The holes so far were read.
use Rattle.ap_types.specs.Triangular.{assignment_of}
use Rattle.ap_kinds.specs.ReadTypes.{AreFirstRead}
use Rattle.ap_kinds.proofs.tables.read_plain_holes.Given as goal

abbrev pub invariant-loop-x : goal.invariant-loop-x
invariant-loop-x l = AreFirstRead l.by l.x (assignment_of l.table) l.reads.items
