use Rattle.std.proofs.Common.{arith}
use Rattle.ap_shared.specs.Shared.{shared_at}
use Rattle.ap_shared.specs.SharedViews.{shared_terms}
use Rattle.ap_bundle_write.proofs.WritingLemmas.{item_at, terms_on, terms_end}
use Rattle.ap_bundle_write.proofs.derivations.write_terms.Goals as goal

pub loop-line-preserved : goal.loop-line-preserved
loop-line-preserved c = record {
  entering = c.in_ok-write_term.ensures.entering;
  text = terms_on (shared_at (shared_terms c.args.terms.now)) c.args.version _ _ c.args.lines.now _ _ _ _ c.loop-line.line-index _ (omega arith) (item_at c.args.lines.now c.loop-line.line-index 0 (omega arith)) c.in_ok-write_term.ensures.text c.loop-line.invariant.text;
}

pub returns : goal.returns
returns c = record {
  entering = c.loop-line.invariant.entering;
  text = terms_end (shared_at (shared_terms c.args.terms.now)) c.args.version _ _ c.args.lines.now _ _ c.loop-line.line-index (omega arith) c.loop-line.invariant.text;
}
