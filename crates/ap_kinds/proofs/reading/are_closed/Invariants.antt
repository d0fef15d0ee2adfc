-- What was read so far is closed.
use Rattle.std.proofs.Common.{◌≡◌, ℕ, ◌<◌, true}
use Rattle.ap_kinds.specs.ReadTypes.{read_at}
use Rattle.ap_kinds.proofs.reading.are_closed.Given as goal

abbrev pub invariant-loop-read : goal.invariant-loop-read
invariant-loop-read l = (k : ℕ) → k < l.read-index → (read_at l.reads k).closed ≡ true
