use Rattle.std.proofs.Common.{length, ◌-◌, ◌≡◌, ◌≤◌, vec_len}
use Rattle.std.specs.Io.KnownBytes.{Consumes}
use Rattle.ap_defs.specs.Limits.{size_limit}
use Rattle.ap_run.proofs.reading.read_whole.Given as goal

abbrev pub invariant-loop-bytes : goal.invariant-loop-bytes
invariant-loop-bytes g l = record {
  in_range : vec_len l.bytes ≤ size_limit;
  buffer : length l.buf ≡ 4096;
  faults : g.S.Source.faults l.source ≡ g.S.Source.faults l.initial.source;
  left : Consumes (g.S.Source.left l.initial.source) (g.S.Source.left l.source) l.bytes.items;
}

abbrev pub decreases-loop-bytes : goal.decreases-loop-bytes
decreases-loop-bytes g l = size_limit - vec_len l.bytes
