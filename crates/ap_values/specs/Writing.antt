-- A shape that is written out of a table, where a filling says what stands for each place.
use Rattle.std.specs.Prelude.{◌≡◌, ◌<◌, ℕ, ◌+◌, ◌*◌, List, [], ◌∷◌}
use Rattle.ap_defs.specs.Types.{TypeShape, shape_of, pair, list, abs}
use Rattle.ap_values.specs.declared.writing.Layer.{Layer}
use Rattle.ap_values.specs.declared.writing.Layer.TheVariants as layers
use Rattle.ap_values.specs.declared.writing.Next.{Next}
use Rattle.ap_values.specs.declared.writing.Next.TheVariants as nexts
use Rattle.ap_types.specs.Equations.{Filling}
use Rattle.ap_types.specs.Solving.{size}

-- a shape in a layer
abbrev pub shape_in : Filling → Layer → TypeShape → TypeShape
shape_in f (layers.FirstOfPair x) t = pair t (f x)
shape_in f (layers.SecondOfPair u) t = pair (shape_of u) t
shape_in f (layers.FirstOfAbs x) t = abs t (f x)
shape_in f (layers.SecondOfAbs u) t = abs (shape_of u) t
shape_in f layers.List t = list t

-- a shape within layers, of which the first is outermost
abbrev pub shape_within : Filling → List Layer → TypeShape → TypeShape
shape_within f [] t = t
shape_within f (l ∷ ls) t = shape_in f l (shape_within f ls t)

-- what comes next
abbrev pub shape_next : Filling → Next → TypeShape
shape_next f (nexts.Place x) = f x
shape_next f (nexts.Made t) = shape_of t

-- how much is left to do in layers, and for what comes next
abbrev pub work_in : Filling → Layer → ℕ
work_in f (layers.FirstOfPair x) = 2 * size (f x) + 1
work_in f (layers.FirstOfAbs x) = 2 * size (f x) + 1
work_in f l = 1

abbrev pub work_within : Filling → List Layer → ℕ
work_within f [] = 0
work_within f (l ∷ ls) = work_in f l + work_within f ls

abbrev pub work_next : Filling → Next → ℕ
work_next f (nexts.Place x) = 2 * size (f x)
work_next f (nexts.Made t) = 1

-- A step: the whole stays the same, and less is left to do.
pub record GoesOn (f : Filling) (old : List Layer) (now : Next) (new : List Layer) (next : Next) : Type 0 where
  pub same : shape_within f new (shape_next f next) ≡ shape_within f old (shape_next f now)
  pub less : work_next f next + work_within f new < work_next f now + work_within f old
