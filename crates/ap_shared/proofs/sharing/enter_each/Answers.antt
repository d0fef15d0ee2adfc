use Rattle.std.proofs.Common.{arith, refl}
use Rattle.ap_defs.specs.Terms.{term_of}
use Rattle.ap_bundle.specs.Tables.{with_parts}
use Rattle.ap_shared.specs.Shared.{IsGrown}
use Rattle.ap_shared.specs.SharedViews.{shared_terms}
use Rattle.ap_shared.proofs.SharingLemmas.{below_on, grown_none, grown_on, lines_end, lines_on}
use Rattle.ap_shared.proofs.sharing.enter_each.Goals as goal

pub loop-term-init : goal.loop-term-init
loop-term-init c = record {
  grown = grown_none (shared_terms c.args.table.now);
  below = rw c.new-lines.ensures.items tt;
  lines = rw c.new-lines.ensures.items refl;
}

pub loop-term-preserved : goal.loop-term-preserved
loop-term-preserved c =
    let ts = shared_terms c.loop-term.table in
    let us = shared_terms c.enter.new.terms in
    let g : IsGrown ts us = (with_parts (term_of c.term-item.result), c.in_ok-line.ensures.terms) in
    record {
      grown = grown_on (shared_terms c.args.table.now) ts us c.loop-term.invariant.grown g;
      below = below_on term_of c.args.terms.now ts us c.loop-term.lines.items c.push.new.self.items c.loop-term.term-index c.in_ok-line.line c.term-item.result (omega arith) c.term-item.is g c.loop-term.invariant.below c.in_ok-push.ensures.items c.in_ok-line.ensures.within;
      lines = lines_on term_of c.args.terms.now ts us c.loop-term.lines.items c.push.new.self.items c.loop-term.term-index c.in_ok-line.line c.term-item.result (omega arith) c.term-item.is g c.loop-term.invariant.below c.in_ok-push.ensures.items c.in_ok-line.ensures.line c.loop-term.invariant.lines;
    }

pub returns-clause-lines : goal.returns-clause-lines
returns-clause-lines c = lines_end term_of c.args.terms.now (shared_terms c.loop-term.table) _ c.loop-term.term-index (omega arith) c.loop-term.invariant.lines
