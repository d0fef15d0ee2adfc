use Rattle.std.proofs.Common.{◌≤◌, ◌<◌, arith, sym, ◌∙◌, length, reverse}
use Rattle.std.proofs.lemmas.List.{length-reverse}
use Rattle.ap_syntax.proofs.Levels.{step_on, step_over, passes_end}
use Rattle.ap_syntax.proofs.nesting.is_too_deep.Goals as goal

pub loop-symbol-preserved : goal.loop-symbol-preserved
loop-symbol-preserved c =
    let few : length (reverse c.take_step.new.levels.items) ≤ 256 = omega (arith, length-reverse c.take_step.new.levels.items) in
    step_on _ _ c.step_of.result c.args.symbols.now c.loop-symbol.symbol-index _ _ c.loop-symbol-test.true c.step_of.ensures c.in_ok-take_step.ensures few c.loop-symbol.invariant

pub returns-then-len-gt-MOST_LEVELS : goal.returns-then-len-gt-MOST_LEVELS
returns-then-len-gt-MOST_LEVELS c =
    let many : 256 < length (reverse c.take_step.new.levels.items) = omega (arith, length-reverse c.take_step.new.levels.items) in
    step_over _ _ c.step_of.result c.args.symbols.now c.loop-symbol.symbol-index _ _ c.loop-symbol-test.true c.step_of.ensures c.in_ok-take_step.ensures many c.loop-symbol.invariant

pub returns : goal.returns
returns c = sym (passes_end _ c.args.symbols.now c.loop-symbol.symbol-index (omega arith)) ∙ c.loop-symbol.invariant
