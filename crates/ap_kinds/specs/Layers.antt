-- Shapes inside layers, of which the first is outermost.
use Rattle.std.specs.Prelude.{List, [], ◌∷◌}
use Rattle.ap_defs.specs.Types.{TypeShape, names, pair, list, abs, shape_of}
use Rattle.ap_kinds.specs.declared.shapes.ShapeLayer.{ShapeLayer}
use Rattle.ap_kinds.specs.declared.shapes.ShapeLayer.TheVariants as around

abbrev pub shape_in : ShapeLayer → TypeShape → TypeShape
shape_in (around.Left t) u = pair (shape_of t) u
shape_in around.List u = list u
shape_in (around.Abs s) u = abs (names s) u

abbrev pub shape_within : List ShapeLayer → TypeShape → TypeShape
shape_within [] t = t
shape_within (l ∷ ls) t = shape_in l (shape_within ls t)
