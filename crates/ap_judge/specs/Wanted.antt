-- What an application's argument is to be: of the program's values, and of the parts of a pair and the argument of an application.
use Rattle.std.specs.Prelude.{◌≡◌, ◌<◌, ◌&&◌, true, false, ℕ, zero, suc, ◌+◌, Bool, ◌==◌, if◌then◌else◌, List, map, Option, Some, None}
use Rattle.ap_defs.specs.Printing.{constructor_in}
use Rattle.ap_defs.specs.Types as types
use Rattle.ap_defs.specs.Types.{NominalConstructor, type_of}
use Rattle.ap_defs.specs.Terms.{NominalTerm}
use Rattle.ap_shared.specs.Shared.{shared_at}
use Rattle.ap_defs.specs.Typing.{VarTypes, Want, arguments, more, nothing, one}
use Rattle.ap_defs.specs.Unification.{size}
use Rattle.ap_checks.specs.TypeTests.{is_typed, type_eq}
use Rattle.ap_judge.specs.declared.types.Expected.{Expected}
use Rattle.ap_judge.specs.declared.types.Looked.{Looked}
use Rattle.ap_judge.specs.declared.types.Looked.TheVariants as looked
use Rattle.ap_judge.specs.declared.types.TypePair.{TypePair}
use Rattle.ap_judge.specs.declared.types.Wanted.{Wanted}
use Rattle.ap_judge.specs.declared.types.Wanted.TheVariants as code

abbrev pub want_of : Wanted → Want
want_of code.Nothing = nothing
want_of (code.One t) = one (type_of t.now)
want_of (code.More t ts) = more (type_of t.now) (arguments (map type_of ts.now))
want_of (code.Cell a l) = more (type_of a.now) (one (type_of l.now))

-- the parts of a pair
abbrev pub parts_of : Want → Option (Want × Want)
parts_of (one (types.pair a b)) = Some (one a, one b)
parts_of (more a w) = Some (one a, w)
parts_of _ = None

abbrev pub declared_inside : Option NominalConstructor → ℕ → Option Want
declared_inside None d = None
declared_inside (Some c) d = if c.result == d then Some (arguments c.args) else None

-- the argument of the constructor with this number
abbrev pub inside_of : List NominalConstructor → ℕ → Want → Option Want
inside_of cs zero (one (types.list a)) = Some nothing
inside_of cs (suc zero) (one (types.list a)) = Some (more a (one (types.list a)))
inside_of cs f (one (types.base d)) = declared_inside (constructor_in cs f) d
inside_of cs f _ = None

-- the term of a line is what it is to be
abbrev pub is_expected : List NominalTerm → List NominalConstructor → VarTypes → Expected → Bool
is_expected ts cs vars e = is_typed cs vars (shared_at ts e.line) (want_of e.wanted)

abbrev pub expected_size : List NominalTerm → Expected → ℕ
expected_size ts e = size (shared_at ts e.line)

-- two types are one
abbrev pub are_one : TypePair → Bool
are_one p = type_eq (type_of p.left.now) (type_of p.right.now)

-- how many parts a type has
abbrev pub parts_count : types.NominalType → ℕ
parts_count types.unit = 1
parts_count (types.names s) = 1
parts_count (types.base d) = 1
parts_count (types.pair t u) = 1 + parts_count t + parts_count u
parts_count (types.list t) = 1 + parts_count t
parts_count (types.abs s t) = 1 + parts_count t

abbrev pub pair_size : TypePair → ℕ
pair_size p = parts_count (type_of p.left.now)

-- what the look at a term leaves
abbrev pub IsLooked : (Expected → Bool) → (Expected → ℕ) → Expected → Looked → Type 0
IsLooked test size e looked.Fails = test e ≡ false
IsLooked test size e looked.Passes = test e ≡ true
IsLooked test size e (looked.Part p) = (test e ≡ test p) × (size p < size e)
IsLooked test size e (looked.Parts p q) = (test e ≡ (test p && test q)) × (size p + size q < size e)
