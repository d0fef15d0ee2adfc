use Rattle.std.proofs.Common.{◌<◌, ◌++◌, length, map, ap, ◌∙◌, arith}
use Rattle.ap_defs.specs.Answers.{outs_of}
use Rattle.ap_defs.specs.Goals.{program_of}
use Rattle.ap_bundle.specs.Bundles.{proved_of}
use Rattle.ap_covering.specs.ProofLines.{cover_lines}
use Rattle.ap_covering.proofs.LineLemmas.{next_line}
use Rattle.ap_covering.proofs.SearchedLemmas.{its_own}
use Rattle.ap_covering.proofs.all_proofs.lines_of_proofs.Goals as goal

pub loop-i-init : goal.loop-i-init
loop-i-init g c =
    let p = program_of c.args.program.now in
    record {
      lines = ap (λ xs. xs ++ cover_lines p c.args.depth 1 (map proved_of c.args.proved.now)) c.new-out.ensures.items;
      searched = its_own p c.args.depth 0 c.nothing_searched-last.result (c.nothing_searched-last.ensures p c.args.depth);
    }

pub loop-i-preserved : goal.loop-i-preserved
loop-i-preserved g c =
    let p = program_of c.args.program.now in
    let h : c.loop-i.i < length c.args.proved.now = omega arith in
    record {
      lines = next_line p c.args.depth c.args.proved.now c.loop-i.i c.index-proved-i.result (outs_of c.deref.result.now) c.loop-i.out.items c.write_proof.new.out.items
          (cover_lines p c.args.depth 1 (map proved_of c.args.proved.now)) h
          c.index-proved-i.is (ap outs_of c.deref.ensures.value ∙ c.in_ok-next.ensures.outs) c.in_ok-write_proof.ensures c.loop-i.invariant.lines;
      searched = its_own p c.args.depth c.index-proved-i.result.query c.in_ok-next.next c.in_ok-next.ensures;
    }
