-- The type equations of an item, gathered in one walk with the type that is wanted at each place.
use Rattle.std.specs.Prelude.{◌≡◌, ℕ, zero, suc, ◌+◌, Bool, true, false, ◌&&◌, ◌||◌, List, [], ◌∷◌, map, if◌then◌else◌, Option, Some, None}
use Rattle.ap_defs.specs.declared.terms.Id.{Id}
use Rattle.ap_defs.specs.declared.terms.Id.TheVariants as ids
use Rattle.ap_defs.specs.RawTerms as raw
use Rattle.ap_defs.specs.RawTerms.{RawTerm}
use Rattle.ap_defs.specs.Types.{NominalType, NominalConstructor, NominalSignature, TypeShape, hole, unit, names, base, pair, list, abs, shape_of, type_of}
use Rattle.ap_defs.specs.Types as types
use Rattle.ap_defs.specs.Goals.{GoalOver, succeed, atom, equal, fresh, both, either, exists, new}
use Rattle.ap_defs.specs.Printing.{constructor_in}
use Rattle.ap_types.specs.Equations.{ShapeEquation, ◌≐◌}
use Rattle.ap_types.specs.Solving.{shape_at}
use Rattle.ap_types.specs.Growing.{is_same, pair_in, list_in, near_base}
use Rattle.ap_program.specs.Typed.{predicate_at}
use Rattle.ap_kinds.specs.declared.kinds.IdentKind.{IdentKind}
use Rattle.ap_kinds.specs.declared.wants.Wanted.{Wanted}
use Rattle.ap_kinds.specs.declared.wants.Wanted.TheVariants as code
use Rattle.ap_kinds.specs.Systems.{EquationSystem, equate, with_name_hole, with_hole, system_refused, shape_of_type, is_name_at, is_var_at}

-- What is wanted of a term: a shape; a type; nothing; a type and the rest of a constructor's arguments; an element of the type of
-- a hole and a list of these; or an element of a type and a list of these.
pub data Wanting : Type 0 where
  whole : TypeShape → Wanting
  typed : NominalType → Wanting
  nothing : Wanting
  more : NominalType → List NominalType → Wanting
  cell : ℕ → Wanting
  typed_cell : NominalType → Wanting

abbrev pub wanting_of : Wanted → Wanting
wanting_of (code.Whole s) = whole (shape_of s)
wanting_of (code.Type t) = typed (type_of t.now)
wanting_of (code.ListOfHole x) = whole (list (hole x))
wanting_of (code.ListOf t) = typed (types.list (type_of t.now))
wanting_of code.Nothing = nothing
wanting_of (code.More t ts) = more (type_of t.now) (map type_of ts.now)
wanting_of (code.Cell x) = cell x
wanting_of (code.TypeCell t) = typed_cell (type_of t.now)

-- the arguments of a constructor
abbrev pub wanting_all : List NominalType → Wanting
wanting_all [] = nothing
wanting_all (a ∷ []) = typed a
wanting_all (a ∷ b ∷ rest) = more a (b ∷ rest)

abbrev pub equate_unless : Bool → TypeShape → TypeShape → EquationSystem → EquationSystem
equate_unless true t u s = s
equate_unless false t u s = equate t u s

-- the equation is one of these two shapes, which have no parts
abbrev pub is_between : TypeShape → TypeShape → ShapeEquation → Bool
is_between t u (v ≐ w) = is_same v t && is_same w u

-- the last equation is one of these two shapes
abbrev pub ends_between : TypeShape → TypeShape → List ShapeEquation → Bool
ends_between t u [] = false
ends_between t u (e ∷ []) = is_between t u e
ends_between t u (e ∷ f ∷ es) = ends_between t u (f ∷ es)

-- the shapes become the same; that takes nothing where they are, or where the last equation that is left says it
abbrev pub equate_others : TypeShape → TypeShape → EquationSystem → EquationSystem
equate_others t u s = equate_unless (is_same t u || ends_between t u s.equations) t u s

-- a term of the shape stands where something is wanted
abbrev pub meet : Wanting → TypeShape → EquationSystem → EquationSystem
meet (whole w) u s = equate_others w u s
meet (typed a) u s = equate_others (shape_of_type a) u s
meet _ u s = system_refused s

abbrev pub meet_unit : Wanting → EquationSystem → EquationSystem
meet_unit nothing s = s
meet_unit w s = meet w unit s

abbrev pub meet_swapped : Wanting → EquationSystem → EquationSystem
meet_swapped (whole w) s = s
meet_swapped (typed a) s = s
meet_swapped _ s = system_refused s

abbrev pub meet_name : List IdentKind → ℕ → Wanting → EquationSystem → EquationSystem
meet_name idents n w s = if is_name_at idents n then meet w (hole n) s else system_refused s

abbrev pub meet_var : List IdentKind → ℕ → Wanting → EquationSystem → EquationSystem
meet_var idents n w s = if is_var_at idents n then meet w (hole n) s else system_refused s

abbrev pub number_of_id : Id → ℕ
number_of_id (ids.Name a) = a.num
number_of_id (ids.Var x) = x.num

-- The hole of an identifier that stands where a name belongs.
pub record NameHole : Type 0 where
  pub hole : ℕ
  pub system : EquationSystem

-- a hole that must be a name type, in a system that nothing solves
abbrev pub no_place : EquationSystem → NameHole
no_place s = record { hole = s.next; system = with_name_hole s.next (with_hole (system_refused s)) }

abbrev pub place_if : Bool → ℕ → EquationSystem → NameHole
place_if true n s = record { hole = n; system = with_name_hole n s }
place_if false n s = no_place s

abbrev pub is_of_class : List IdentKind → Id → Bool
is_of_class idents (ids.Name a) = is_name_at idents a.num
is_of_class idents (ids.Var x) = is_var_at idents x.num

abbrev pub name_place : List IdentKind → Id → EquationSystem → NameHole
name_place idents i s = place_if (is_of_class idents i) (number_of_id i) s

-- both holes are of one type
abbrev pub same_holes : ℕ → NameHole → EquationSystem
same_holes x p = equate (hole x) (hole p.hole) p.system

-- both identifiers stand for names of one sort
abbrev pub one_sort : List IdentKind → Id → Id → EquationSystem → EquationSystem
one_sort idents i j s = same_holes (name_place idents i s).hole (name_place idents j (name_place idents i s).system)

-- What is wanted of the two sides of a pair.
pub record Sides : Type 0 where
  pub left : Wanting
  pub right : Wanting
  pub system : EquationSystem

-- the data type of a term, if it is an application of a declared constructor
abbrev pub result_in : Option NominalConstructor → Option ℕ
result_in None = None
result_in (Some c) = Some c.result

abbrev pub result_of : List NominalConstructor → RawTerm → Option ℕ
result_of cs (raw.app f t) = result_in (constructor_in cs f)
result_of cs t = None

-- a hole of which the table says that it is of that data type
abbrev pub near_for : List TypeShape → Option ℕ → Option ℕ
near_for ts None = None
near_for ts (Some d) = near_base ts d

-- the left side is such a hole, or a new one
abbrev pub new_sides_at : Option ℕ → TypeShape → EquationSystem → Sides
new_sides_at (Some x) w s = record {
  left = whole (hole x);
  right = whole (hole s.next);
  system = equate w (pair (hole x) (hole s.next)) (with_hole s);
}
new_sides_at None w s = record {
  left = whole (hole s.next);
  right = whole (hole (s.next + 1));
  system = equate w (pair (hole s.next) (hole (s.next + 1))) (with_hole (with_hole s));
}

abbrev pub new_sides : Option ℕ → TypeShape → EquationSystem → Sides
new_sides d w s = new_sides_at (near_for s.table d) w s

-- the sides of the hole, if the table says that it is a pair
abbrev pub sides_of_hole : Option ℕ → ℕ → Option (ℕ × ℕ) → EquationSystem → Sides
sides_of_hole d x (Some p) s = record { left = whole (hole p.0); right = whole (hole p.1); system = s }
sides_of_hole d x None s = new_sides d (hole x) s

-- of a pair whose left side has the data type d, if it is known to have one
abbrev pub sides : Option ℕ → Wanting → EquationSystem → Sides
sides d (whole (pair a b)) s = record { left = whole a; right = whole b; system = s }
sides d (whole (hole x)) s = sides_of_hole d x (pair_in (shape_at s.table x)) s
sides d (whole w) s = new_sides d w s
sides d (typed (types.pair a b)) s = record { left = typed a; right = typed b; system = s }
sides d (typed a) s = new_sides d (shape_of_type a) s
sides d nothing s = record { left = nothing; right = nothing; system = system_refused s }
sides d (more a rest) s = record { left = typed a; right = wanting_all rest; system = s }
sides d (cell x) s = record { left = whole (hole x); right = whole (list (hole x)); system = s }
sides d (typed_cell a) s = record { left = typed a; right = typed (types.list a); system = s }

-- What is wanted of the term inside an application or an abstraction.
pub record Inside : Type 0 where
  pub want : Wanting
  pub system : EquationSystem

abbrev pub new_element : Wanting → EquationSystem → Inside
new_element w s = record { want = cell s.next; system = meet w (list (hole s.next)) (with_hole s) }

abbrev pub cell_if : Option ℕ → Option Wanting
cell_if (Some x) = Some (cell x)
cell_if None = None

abbrev pub cell_in_type : NominalType → Option Wanting
cell_in_type (types.list a) = Some (typed_cell a)
cell_in_type _ = None

-- what is wanted of the parts of a list cell, where a list of a type or of the type of a hole is wanted, or a hole of which the table says that
-- it is a list of the type of a hole
abbrev pub cell_wanted : List TypeShape → Wanting → Option Wanting
cell_wanted ts (whole (list (hole x))) = Some (cell x)
cell_wanted ts (whole (hole x)) = cell_if (list_in (shape_at ts x))
cell_wanted ts (typed a) = cell_in_type a
cell_wanted ts _ = None

abbrev pub inside_element : Option Wanting → Wanting → EquationSystem → Inside
inside_element (Some v) w s = record { want = v; system = s }
inside_element None w s = new_element w s

-- what is wanted of the two parts of a list cell
abbrev pub inside_cell : Wanting → EquationSystem → Inside
inside_cell w s = inside_element (cell_wanted s.table w) w s

abbrev pub inside_declared : Option NominalConstructor → Wanting → EquationSystem → Inside
inside_declared None w s = record { want = nothing; system = system_refused s }
inside_declared (Some c) w s = record { want = wanting_all c.args; system = meet w (base c.result) s }

abbrev pub inside_application : List NominalConstructor → ℕ → Wanting → EquationSystem → Inside
inside_application cs zero w s = record { want = nothing; system = (inside_cell w s).system }
inside_application cs (suc zero) w s = inside_cell w s
inside_application cs f w s = inside_declared (constructor_in cs f) w s

abbrev pub new_body : ℕ → Wanting → EquationSystem → Inside
new_body n w s = record { want = whole (hole s.next); system = meet w (abs (hole n) (hole s.next)) (with_hole s) }

-- what is wanted of the body of an abstraction, by the hole of its binder
abbrev pub inside_abstraction : ℕ → Wanting → EquationSystem → Inside
inside_abstraction n (whole (abs l b)) s = record { want = whole b; system = equate l (hole n) s }
inside_abstraction n (typed (types.abs k a)) s = record { want = typed a; system = equate (names k) (hole n) s }
inside_abstraction n w s = new_body n w s

-- a list cell of the constructor where the one is wanted: the other is wanted of its element, and the one again of its tail
abbrev pub IsCellWanted : ℕ → Wanting → Wanting → Type 0
IsCellWanted f w v =
    (cs : List NominalConstructor) (d : Option ℕ) (s : EquationSystem)
    → sides d (inside_application cs f w s).want (inside_application cs f w s).system ≡ record { left = v; right = w; system = s }

abbrev pub gather_term : List NominalConstructor → List IdentKind → RawTerm → Wanting → EquationSystem → EquationSystem
gather_term cs idents raw.unit w s = meet_unit w s
gather_term cs idents (raw.name a) w s = meet_name idents a.num w s
gather_term cs idents (raw.var x) w s = meet_var idents x.num w s
gather_term cs idents (raw.pair t u) w s =
    gather_term cs idents u (sides (result_of cs t) w s).right
    (gather_term cs idents t (sides (result_of cs t) w s).left (sides (result_of cs t) w s).system)
gather_term cs idents (raw.app f t) w s =
    gather_term cs idents t (inside_application cs f w s).want (inside_application cs f w s).system
gather_term cs idents (raw.abs i t) w s =
    gather_term cs idents t (inside_abstraction (name_place idents i s).hole w (name_place idents i s).system).want
    (inside_abstraction (name_place idents i s).hole w (name_place idents i s).system).system
gather_term cs idents (raw.swapped i j t) w s = gather_term cs idents t w (meet_swapped w (one_sort idents i j s))

-- terms with types, one each
abbrev pub gather_terms : List NominalConstructor → List IdentKind → List RawTerm → List NominalType → EquationSystem → EquationSystem
gather_terms cs idents [] [] s = s
gather_terms cs idents (t ∷ ts) (a ∷ as') s = gather_terms cs idents ts as' (gather_term cs idents t (typed a) s)
gather_terms cs idents _ _ s = system_refused s

abbrev pub gather_arguments : List NominalConstructor → List IdentKind → List RawTerm → Option (List NominalType) → EquationSystem → EquationSystem
gather_arguments cs idents ts None s = system_refused s
gather_arguments cs idents ts (Some as') s = gather_terms cs idents ts as' s

abbrev pub gather_atom : NominalSignature → List IdentKind → ℕ → List RawTerm → EquationSystem → EquationSystem
gather_atom sig idents p ts s = gather_arguments sig.constructors idents ts (predicate_at sig.predicates p) s

-- both terms have the type of a new hole
abbrev pub gather_equal : List NominalConstructor → List IdentKind → RawTerm → RawTerm → EquationSystem → EquationSystem
gather_equal cs idents t u s =
    gather_term cs idents u (whole (hole s.next)) (gather_term cs idents t (whole (hole s.next)) (with_hole s))

-- the left term has the name type of a new hole, the right one the type of another
abbrev pub gather_fresh : List NominalConstructor → List IdentKind → RawTerm → RawTerm → EquationSystem → EquationSystem
gather_fresh cs idents t u s =
    gather_term cs idents u (whole (hole (s.next + 1)))
    (gather_term cs idents t (whole (hole s.next)) (with_name_hole s.next (with_hole (with_hole s))))

abbrev pub gather_goal : NominalSignature → List IdentKind → GoalOver RawTerm → EquationSystem → EquationSystem
gather_goal sig idents succeed s = s
gather_goal sig idents (atom p ts) s = gather_atom sig idents p ts s
gather_goal sig idents (equal t u) s = gather_equal sig.constructors idents t u s
gather_goal sig idents (fresh t u) s = gather_fresh sig.constructors idents t u s
gather_goal sig idents (both g h) s = gather_goal sig idents h (gather_goal sig idents g s)
gather_goal sig idents (either g h) s = gather_goal sig idents h (gather_goal sig idents g s)
gather_goal sig idents (exists x g) s = gather_goal sig idents g (if is_var_at idents x.num then s else system_refused s)
gather_goal sig idents (new a g) s = gather_goal sig idents g (if is_name_at idents a.num then s else system_refused s)
