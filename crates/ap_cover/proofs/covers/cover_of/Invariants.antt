-- What is found behind those so far is what is found.
use Rattle.std.proofs.Common.{◌≡◌, ◌≤◌, drop}
use Rattle.ap_defs.specs.Answers.{outs_of}
use Rattle.ap_cover.specs.Covers as spec
use Rattle.ap_cover.proofs.covers.cover_of.Given as goal

abbrev pub invariant-looking : goal.invariant-looking
invariant-looking l = record {
  found : spec.cover_behind l.answers l.stuck l.path (outs_of (drop l.out-index l.outs)) ≡ spec.cover_of l.path (outs_of l.outs);
  answers : l.answers ≤ l.out-index;
  stuck : l.stuck ≤ l.out-index;
}
