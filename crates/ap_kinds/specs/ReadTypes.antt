-- What is read off a shape.
use Rattle.std.specs.Prelude.{◌≡◌, ◌<◌, ℕ, Bool, true, false, ◌&&◌, List, [], ◌∷◌, length, slice_index_or}
use Rattle.ap_defs.specs.Types.{NominalKind, NominalSignature, NominalType, TypeShape, type_of}
use Rattle.ap_defs.specs.Types as types
use Rattle.ap_types.specs.Inhabited.{inhabited_if}
use Rattle.ap_types.specs.Rounds.{marked}
use Rattle.ap_types.specs.Tables.{AreInhabitants}
use Rattle.ap_types.specs.Solving.{shape_at}
use Rattle.ap_types.specs.Triangular.{value_of}
use Rattle.ap_kinds.specs.declared.read_types.Declared.{Declared}
use Rattle.ap_kinds.specs.declared.read_types.TypeRead.{TypeRead}
use Rattle.ap_defs.specs.declared.terms.Ty.TheVariants as code
use Rattle.ap_kinds.specs.Reading.{is_declared, is_closed, read_type, name_count, data_count}

abbrev pub sort_in_type : NominalType → ℕ
sort_in_type (types.names s) = s
sort_in_type _ = 0

abbrev pub is_sort_type : NominalType → Bool
is_sort_type (types.names s) = true
is_sort_type _ = false

-- What is read off the shape, where so many name types and data types are declared and it is given which of these are inhabited.
pub record IsRead (n m : ℕ) (p : ℕ → Bool) (t : TypeShape) (r : TypeRead) : Type 0 where
  pub ty : type_of r.ty ≡ read_type t
  pub declared : r.declared ≡ is_declared n m t
  pub closed : r.closed ≡ is_closed t
  pub inhabited : r.inhabited ≡ inhabited_if p (read_type t)

abbrev pub marks_of : Declared → ℕ → Bool
marks_of d = marked d.inhabitants.now.found.table.items

abbrev pub IsReadBy : Declared → TypeShape → TypeRead → Type 0
IsReadBy d t r = IsRead d.name_types d.data_types (marks_of d) t r

-- what is read off a hole
abbrev pub open_read : TypeRead
open_read = record { ty = code.Unit; declared = true; closed = false; inhabited = true }

abbrev pub read_at : List TypeRead → ℕ → TypeRead
read_at rs x = slice_index_or rs x open_read

-- each of these places was read
abbrev pub AreReadAt : Declared → List TypeShape → List TypeRead → (ℕ → Type 0) → Type 0
AreReadAt d ts rs P = (x : ℕ) → P x → (x < length rs) × IsReadBy d (value_of ts x) (read_at rs x)

-- All places were read.
pub record AreAllRead (d : Declared) (ts : List TypeShape) (rs : List TypeRead) : Type 0 where
  pub as_many : length rs ≡ length ts
  pub each : (x : ℕ) → x < length ts → IsReadBy d (value_of ts x) (read_at rs x)

-- the first holes were read
pub record AreFirstRead (d : Declared) (count : ℕ) (ts : List TypeShape) (rs : List TypeRead) : Type 0 where
  pub as_many : length rs ≡ count
  pub each : (x : ℕ) → x < count → IsReadBy d (shape_at ts x) (read_at rs x)

-- whether it is a name or a variable of an inhabited type, where it is given which data types are inhabited
abbrev pub kind_inhabited_if : (ℕ → Bool) → NominalKind → Bool
kind_inhabited_if p (types.name s) = true
kind_inhabited_if p (types.var t) = inhabited_if p t

abbrev pub are_inhabited_if : (ℕ → Bool) → List NominalKind → Bool
are_inhabited_if p [] = true
are_inhabited_if p (k ∷ ks) = kind_inhabited_if p k && are_inhabited_if p ks

-- The declarations are those of a signature.
pub record IsDeclaredBy (d : Declared) (sig : NominalSignature) : Type 0 where
  pub name_types : d.name_types ≡ name_count sig
  pub data_types : d.data_types ≡ data_count sig
  pub inhabitants : AreInhabitants sig.constructors d.inhabitants.now
