use Rattle.std.proofs.Common.{◌≡◌, drop}
use Rattle.ap_inputs.specs.Lines.{end_from, query_end}
use Rattle.ap_inputs.proofs.lines.query_end.Given as goal

abbrev pub invariant-loop-place : goal.invariant-loop-place
invariant-loop-place l = end_from l.place l.in_comment (drop l.place l.line) ≡ query_end l.line
