-- What is written so far, and what is left, are all.
use Rattle.std.proofs.Common.{◌≡◌, ◌++◌, drop, flat_map}
use Rattle.ap_text_commands.specs.CountReports.{count_line}
use Rattle.ap_text_commands.proofs.counting.lines.lines_of.Given as goal

abbrev pub invariant-loop-count : goal.invariant-loop-count
invariant-loop-count l = l.out.items ++ flat_map count_line (drop l.count-index l.counts) ≡ flat_map count_line l.counts
