use Rattle.std.proofs.Common.{◌≡◌, ◌≤◌, ap, arith, rules}
use Rattle.ap_defs.specs.Terms.{pair, term_of}
use Rattle.ap_defs.specs.Weights.{weight}
use Rattle.ap_defs.specs.declared.terms.Term.{Term}
use Rattle.ap_defs.specs.declared.terms.Term.TheViews.{size-Term}
use Rattle.ap_defs.proofs.TermWeights.{leaf_lighter}
use Rattle.ap_defs.proofs.terms.Term.+drop.Goals as goal

pub drop-left-requires : goal.drop-left-requires
drop-left-requires t c κs =
    let d = term_of c.in-Pair.left.value in
    let e = term_of c.in-Pair.right.value in
    let i = c.loop-self.invariant in
    let w : weight (term_of c.loop-self.self) ≡ weight (pair d e) = ap (λ (x : Term). weight (term_of x)) c.in-Pair.is in
    let h : weight (pair d e) ≤ weight (term_of c.args.self) = omega (arith, i, w) in
    let l = leaf_lighter c.turn_part.new.left c.args.self d e (c.turn_part.ensures.leaf c.if-turn_part.false).1 h in
    let s : size-Term c.args.self ≡ t = c.decreases in
    (((omega (arith, l, s), tt), tt), (search rules, search rules))
