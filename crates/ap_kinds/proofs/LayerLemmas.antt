-- The last of layers is innermost.
use Rattle.std.proofs.Common.{◌≡◌, List, [], ◌∷◌, ◌++◌, refl, ap}
use Rattle.ap_defs.specs.Types.{TypeShape}
use Rattle.ap_kinds.specs.declared.shapes.ShapeLayer.{ShapeLayer}
use Rattle.ap_kinds.specs.Layers.{shape_in, shape_within}

pub shape_within_last : (ls : List ShapeLayer) (l : ShapeLayer) (t : TypeShape) → shape_within (ls ++ l ∷ []) t ≡ shape_within ls (shape_in l t)
shape_within_last [] l t = refl
shape_within_last (k ∷ ls) l t = ap (λ u. shape_in k u) (shape_within_last ls l t)
