-- With the lines of the proofs that are left what is written is all, and the outputs are those of the query that was searched last.
use Rattle.std.proofs.Common.{◌≡◌, ◌+◌, ◌++◌, drop, map}
use Rattle.ap_defs.specs.Goals.{program_of}
use Rattle.ap_bundle.specs.Bundles.{proved_of}
use Rattle.ap_covering.specs.ProofLines.{cover_lines}
use Rattle.ap_covering.specs.Searched.{HasSearched}
use Rattle.ap_covering.proofs.all_proofs.lines_of_proofs.Given as goal

abbrev pub invariant-loop-i : goal.invariant-loop-i
invariant-loop-i g l = record {
  lines : l.out.items ++ cover_lines (program_of l.program) l.depth (l.i + 1) (map proved_of (drop l.i l.proved)) ≡ cover_lines (program_of l.program) l.depth 1 (map proved_of l.proved);
  searched : HasSearched (program_of l.program) l.depth l.last.query l.last;
}
