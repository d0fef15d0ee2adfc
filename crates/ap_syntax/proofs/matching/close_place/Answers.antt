use Rattle.std.proofs.Common.{arith, sym, ◌∙◌}
use Rattle.ap_syntax.proofs.Matches.{match_at, match_end}
use Rattle.ap_syntax.proofs.matching.close_place.Goals as goal

pub loop-place-preserved : goal.loop-place-preserved
loop-place-preserved c = record {
  few = omega (arith, c.in-Some.ensures.most);
  read = sym (match_at c.loop-place.depth c.args.symbols.now c.loop-place.place _ _ c.loop-place-test.true c.in-Some.ensures.value) ∙ c.loop-place.invariant.read;
}

pub returns-in_default-clause-value : goal.returns-in_default-clause-value
returns-in_default-clause-value c =
    sym (match_at c.loop-place.depth c.args.symbols.now c.loop-place.place _ _ c.loop-place-test.true (sym c.in_default.is ∙ c.depth_after.ensures.value)) ∙ c.loop-place.invariant.read

pub returns-clause-value : goal.returns-clause-value
returns-clause-value c = sym (match_end c.loop-place.depth c.args.symbols.now c.loop-place.place (omega arith)) ∙ c.loop-place.invariant.read
