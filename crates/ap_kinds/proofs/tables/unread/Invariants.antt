-- So many places so far.
use Rattle.std.proofs.Common.{◌≡◌, length}
use Rattle.ap_kinds.proofs.tables.unread.Given as goal

abbrev pub invariant-loop : goal.invariant-loop
invariant-loop l = length l.reads.items ≡ l.counter
