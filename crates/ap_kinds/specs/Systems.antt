-- Systems of type equations, as they grow.
use Rattle.std.specs.Prelude.{ℕ, ◌+◌, List, [], ◌∷◌, ◌++◌, map, slice_index_or, Bool, true, false, length, Option, Some, None}
use Rattle.ap_defs.specs.Types.{NominalType, TypeShape, hole, unit, names, base, pair, list, abs}
use Rattle.ap_defs.specs.Types as types
use Rattle.ap_types.specs.Equations.{ShapeEquation, ◌≐◌, equation_of}
use Rattle.ap_types.specs.Triangular.{shapes_of_nodes}
use Rattle.ap_types.specs.Growing.{open_table, with_equation}
use Rattle.ap_kinds.specs.declared.kinds.IdentKind.{IdentKind}
use Rattle.ap_kinds.specs.declared.kinds.IdentKind.TheVariants as classes
use Rattle.ap_kinds.specs.declared.systems.System.{System}

-- What holes are so far, equations besides, the holes that must be name types, and the number of the next hole.
pub record EquationSystem : Type 0 where
  pub table : List TypeShape
  pub equations : List ShapeEquation
  pub names : List ℕ
  pub next : ℕ

abbrev pub system_of : System → EquationSystem
system_of s = record {
  table = shapes_of_nodes s.nodes.items;
  equations = map equation_of s.equations.items;
  names = s.names.items;
  next = s.next;
}

-- the table that took an equation in, and the equations besides, with one that it did not take in
abbrev pub table_by : Option (List TypeShape) → List TypeShape → List TypeShape
table_by (Some us) ts = us
table_by None ts = ts

abbrev pub besides_by : Option (List TypeShape) → ShapeEquation → List ShapeEquation → List ShapeEquation
besides_by (Some us) e es = es
besides_by None e es = es ++ e ∷ []

abbrev pub equate : TypeShape → TypeShape → EquationSystem → EquationSystem
equate t u s = record {
  table = table_by (with_equation s.table t u) s.table;
  equations = besides_by (with_equation s.table t u) (t ≐ u) s.equations;
  names = s.names;
  next = s.next;
}

abbrev pub with_name_hole : ℕ → EquationSystem → EquationSystem
with_name_hole x s = record { table = s.table; equations = s.equations; names = s.names ++ x ∷ []; next = s.next }

abbrev pub with_hole : EquationSystem → EquationSystem
with_hole s = record {
  table = s.table ++ hole (length s.table) ∷ [];
  equations = s.equations;
  names = s.names;
  next = s.next + 1;
}

-- nothing solves it
abbrev pub system_refused : EquationSystem → EquationSystem
system_refused s = equate unit (names 0) s

-- a type as a shape without holes
abbrev pub shape_of_type : NominalType → TypeShape
shape_of_type types.unit = unit
shape_of_type (types.names s) = names s
shape_of_type (types.base d) = base d
shape_of_type (types.pair t u) = pair (shape_of_type t) (shape_of_type u)
shape_of_type (types.list t) = list (shape_of_type t)
shape_of_type (types.abs s t) = abs (names s) (shape_of_type t)

abbrev pub is_name : IdentKind → Bool
is_name classes.Name = true
is_name classes.Var = false

abbrev pub is_var : IdentKind → Bool
is_var classes.Name = false
is_var classes.Var = true

-- whether the number is that of an identifier that is a name, or a variable
abbrev pub is_name_at : List IdentKind → ℕ → Bool
is_name_at idents n = is_name (slice_index_or idents n classes.Var)

abbrev pub is_var_at : List IdentKind → ℕ → Bool
is_var_at idents n = is_var (slice_index_or idents n classes.Name)

-- the holes of the identifiers that are names, from number i on
abbrev pub name_holes : ℕ → List IdentKind → List ℕ
name_holes i [] = []
name_holes i (classes.Name ∷ cs) = i ∷ name_holes (i + 1) cs
name_holes i (classes.Var ∷ cs) = name_holes (i + 1) cs

-- the hole i is the type of the identifier i
abbrev pub started : List IdentKind → EquationSystem
started idents = record {
  table = open_table (length idents);
  equations = [];
  names = name_holes 0 idents;
  next = length idents;
}
