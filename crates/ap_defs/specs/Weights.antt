-- How many parts a term, a type or a shape has, where those of the left part of a pair count twice.
use Rattle.std.specs.Prelude.{ℕ, suc, ◌+◌}
use Rattle.ap_defs.specs.Terms as terms
use Rattle.ap_defs.specs.Terms.{NominalTerm}
use Rattle.ap_defs.specs.Types as types
use Rattle.ap_defs.specs.Types.{NominalType, TypeShape}

abbrev pub weight : NominalTerm → ℕ
weight terms.unit = 1
weight (terms.name a) = 1
weight (terms.pair t u) = suc (weight t + weight t + weight u)
weight (terms.app f t) = suc (weight t)
weight (terms.abs a t) = suc (weight t)
weight (terms.susp p x) = 1

abbrev pub type_weight : NominalType → ℕ
type_weight types.unit = 1
type_weight (types.names s) = 1
type_weight (types.base d) = 1
type_weight (types.pair a b) = suc (type_weight a + type_weight a + type_weight b)
type_weight (types.list a) = suc (type_weight a)
type_weight (types.abs s a) = suc (type_weight a)

abbrev pub shape_weight : TypeShape → ℕ
shape_weight (types.hole x) = 1
shape_weight types.unit = 1
shape_weight (types.names s) = 1
shape_weight (types.base d) = 1
shape_weight (types.pair a b) = suc (shape_weight a + shape_weight a + shape_weight b)
shape_weight (types.list a) = suc (shape_weight a)
shape_weight (types.abs a b) = suc (shape_weight a + shape_weight a + shape_weight b)
