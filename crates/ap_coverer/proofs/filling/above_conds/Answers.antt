use Rattle.std.proofs.Common.{◌≡◌, ◌<◌, ap, arith}
use Rattle.ap_defs.specs.declared.terms.Name.{Name}
use Rattle.ap_defs.specs.Permutations.{act_name}
use Rattle.ap_coverer.proofs.FillLemmas.{next_below}
use Rattle.ap_coverer.proofs.filling.above_conds.Goals as goal

pub passing-preserved : goal.passing-preserved
passing-preserved c =
    let swaps = c.args.swaps.now in
    let next = c.in_ok-above.above in
    let same : c.image.result.num ≡ (act_name swaps c.in-Some.cond.now.name).num = ap (λ (a : Name). a.num) c.image.ensures in
    let over : c.image.result.num < next = c.in_ok-above.ensures.name in
    let low : (act_name swaps c.in-Some.cond.now.name).num < next = omega (arith, same, over) in
    next_below swaps c.passing.rest.now c.in-Some.others.now c.args.conds.now c.in-Some.cond.now c.passing.above next c.in-Some.ensures.cases.0 c.in_ok-above.ensures.least low c.passing.invariant
