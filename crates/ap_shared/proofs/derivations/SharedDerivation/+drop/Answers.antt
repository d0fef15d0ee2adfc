use Rattle.std.proofs.Common.{◌≡◌, ◌≤◌, ap, arith, rules}
use Rattle.ap_defs.specs.Derivations.{both, derivation_weight}
use Rattle.ap_shared.specs.LineDerivations.{derivation_lines}
use Rattle.ap_shared.specs.declared.derivations.SharedDerivation.{SharedDerivation}
use Rattle.ap_shared.specs.declared.derivations.SharedDerivation.TheViews.{size-SharedDerivation}
use Rattle.ap_shared.proofs.LineWeights.{leaf_lighter}
use Rattle.ap_shared.proofs.derivations.SharedDerivation.+drop.Goals as goal

pub drop-left-requires : goal.drop-left-requires
drop-left-requires t c κs =
    let d = derivation_lines c.in-Both.left.value in
    let e = derivation_lines c.in-Both.right.value in
    let i = c.loop-self.invariant in
    let w : derivation_weight (derivation_lines c.loop-self.self) ≡ derivation_weight (both d e) = ap (λ (x : SharedDerivation). derivation_weight (derivation_lines x)) c.in-Both.is in
    let h : derivation_weight (both d e) ≤ derivation_weight (derivation_lines c.args.self) = omega (arith, i, w) in
    let l = leaf_lighter c.turn_part.new.left c.args.self d e (c.turn_part.ensures.leaf c.if-turn_part.false).1 h in
    let s : size-SharedDerivation c.args.self ≡ t = c.decreases in
    (((omega (arith, l, s), tt), tt), (search rules, search rules))
