-- A shape without parts weighs one and has one level, and each other has more.
use Rattle.std.proofs.Common.{◌≡◌, ◌<◌, ◌≤◌, arith}
use Rattle.ap_defs.specs.declared.terms.Shape as code
use Rattle.ap_defs.specs.declared.terms.Shape.TheViews.{size-Shape, deep-Hole, deep-Unit, deep-Names, deep-Base, deep-Pair', deep-List', deep-Abs'}
use Rattle.ap_defs.specs.Types as nodes
use Rattle.ap_defs.specs.Types.{TypeShape, shape_of}
use Rattle.ap_defs.specs.Weights.{shape_weight}

weight_some : (t : TypeShape) → 0 < shape_weight t
weight_some (nodes.hole x) = omega arith
weight_some nodes.unit = omega arith
weight_some (nodes.names s) = omega arith
weight_some (nodes.base d) = omega arith
weight_some (nodes.pair t u) = omega arith
weight_some (nodes.list t) = omega arith
weight_some (nodes.abs t u) = omega arith

size_some : (t : code.Shape) → 0 < size-Shape t
size_some (code.Hole x) = let h = deep-Hole x in omega (arith, h)
size_some code.Unit = let h = deep-Unit in omega (arith, h)
size_some (code.Names s) = let h = deep-Names s in omega (arith, h)
size_some (code.Base d) = let h = deep-Base d in omega (arith, h)
size_some (code.Pair' p t q u) = let h = deep-Pair' p t q u in omega (arith, h)
size_some (code.List' p t) = let h = deep-List' p t in omega (arith, h)
size_some (code.Abs' p t q u) = let h = deep-Abs' p t q u in omega (arith, h)

leaf_size : (t : code.Shape) → shape_weight (shape_of t) ≡ 1 → size-Shape t ≡ 1
leaf_size (code.Hole x) e = deep-Hole x
leaf_size code.Unit e = deep-Unit
leaf_size (code.Names s) e = deep-Names s
leaf_size (code.Base d) e = deep-Base d
leaf_size (code.Pair' p t q u) e = let h = weight_some (shape_of t) in absurd (omega (arith, h, e))
leaf_size (code.List' p t) e = let h = weight_some (shape_of t) in absurd (omega (arith, h, e))
leaf_size (code.Abs' p t q u) e = let h = weight_some (shape_of t) in absurd (omega (arith, h, e))

parts_size : (t : code.Shape) → 1 < shape_weight (shape_of t) → 1 < size-Shape t
parts_size (code.Hole x) l = absurd (omega (arith, l))
parts_size code.Unit l = absurd (omega (arith, l))
parts_size (code.Names s) l = absurd (omega (arith, l))
parts_size (code.Base d) l = absurd (omega (arith, l))
parts_size (code.Pair' p t q u) l = let h = deep-Pair' p t q u in let s = size_some t in omega (arith, h, s)
parts_size (code.List' p t) l = let h = deep-List' p t in let s = size_some t in omega (arith, h, s)
parts_size (code.Abs' p t q u) l = let h = deep-Abs' p t q u in let s = size_some t in omega (arith, h, s)

-- one without parts has fewer levels than one that weighs as much as a pair
pub leaf_lighter : (l t : code.Shape) (u v : TypeShape) → shape_weight (shape_of l) ≡ 1 → shape_weight (nodes.pair u v) ≤ shape_weight (shape_of t) → size-Shape l < size-Shape t
leaf_lighter l t u v e w =
    let s = leaf_size l e in
    let k = weight_some u in
    let m = weight_some v in
    let p = parts_size t (omega (arith, w, k, m)) in
    omega (arith, s, p)
