use Rattle.std.proofs.Common.{◌≡◌, ◌≤◌, ap, arith, rules}
use Rattle.ap_defs.specs.Derivations.{both, derivation_of, derivation_weight}
use Rattle.ap_defs.specs.declared.outcomes.Derivation.{Derivation}
use Rattle.ap_defs.specs.declared.outcomes.Derivation.TheViews.{size-Derivation}
use Rattle.ap_defs.proofs.WeightLemmas.{leaf_lighter}
use Rattle.ap_defs.proofs.outcomes.Derivation.+drop.Goals as goal

pub drop-left-requires : goal.drop-left-requires
drop-left-requires t c κs =
    let d = derivation_of c.in-Both.left.value in
    let e = derivation_of c.in-Both.right.value in
    let i = c.loop-self.invariant in
    let w : derivation_weight (derivation_of c.loop-self.self) ≡ derivation_weight (both d e) = ap (λ (x : Derivation). derivation_weight (derivation_of x)) c.in-Both.is in
    let h : derivation_weight (both d e) ≤ derivation_weight (derivation_of c.args.self) = omega (arith, i, w) in
    let l = leaf_lighter c.turn_part.new.left c.args.self d e (c.turn_part.ensures.leaf c.if-turn_part.false).1 h in
    let s : size-Derivation c.args.self ≡ t = c.decreases in
    (((omega (arith, l, s), tt), tt), (search rules, search rules))
