use Rattle.std.proofs.Common.{◌≡◌, ◌≤◌, ap, arith, rules}
use Rattle.ap_defs.specs.Types.{pair, shape_of}
use Rattle.ap_defs.specs.Weights.{shape_weight}
use Rattle.ap_defs.specs.declared.terms.Shape.{Shape}
use Rattle.ap_defs.specs.declared.terms.Shape.TheViews.{size-Shape}
use Rattle.ap_defs.proofs.ShapeWeights.{leaf_lighter}
use Rattle.ap_defs.proofs.terms.Shape.+drop.Goals as goal

pub drop-left-requires : goal.drop-left-requires
drop-left-requires t c κs =
    let d = shape_of c.in-Pair.left.value in
    let e = shape_of c.in-Pair.right.value in
    let i = c.loop-self.invariant in
    let w : shape_weight (shape_of c.loop-self.self) ≡ shape_weight (pair d e) = ap (λ (x : Shape). shape_weight (shape_of x)) c.in-Pair.is in
    let h : shape_weight (pair d e) ≤ shape_weight (shape_of c.args.self) = omega (arith, i, w) in
    let l = leaf_lighter c.turn_shape.new.left c.args.self d e (c.turn_shape.ensures.leaf c.if-turn_shape.false).1 h in
    let s : size-Shape c.args.self ≡ t = c.decreases in
    (((omega (arith, l, s), tt), tt), (search rules, search rules))

pub drop-left-requires-else-turn_shape-2 : goal.drop-left-requires-else-turn_shape-2
drop-left-requires-else-turn_shape-2 t c κs =
    let d = shape_of c.in-Abs.left.value in
    let e = shape_of c.in-Abs.right.value in
    let i = c.loop-self.invariant in
    let w : shape_weight (shape_of c.loop-self.self) ≡ shape_weight (pair d e) = ap (λ (x : Shape). shape_weight (shape_of x)) c.in-Abs.is in
    let h : shape_weight (pair d e) ≤ shape_weight (shape_of c.args.self) = omega (arith, i, w) in
    let l = leaf_lighter c.turn_shape-in-Abs.new.left c.args.self d e (c.turn_shape-in-Abs.ensures.leaf c.if-turn_shape-2.false).1 h in
    let s : size-Shape c.args.self ≡ t = c.decreases in
    (((omega (arith, l, s), tt), tt), (search rules, search rules))
