-- What holds of what is written and read.
use Rattle.std.specs.Prelude.{ℕ, ◌+◌, ◌<◌, ◌≤◌, ◌^◌, ◌≡◌, flat_map, ◌⊎◌, List, ◌++◌, length, count_by, Result, Ok, Err}
pub use Rattle.std.specs.List.{AllByRecursion as Each}
use Rattle.ap_defs.specs.declared.terms.Name.{Name}
use Rattle.ap_defs.specs.declared.terms.Var.{Var}
use Rattle.ap_defs.specs.declared.terms.Swap.{Swap}
use Rattle.ap_defs.specs.declared.terms.Cond.{Cond}
use Rattle.ap_defs.specs.Terms as terms
use Rattle.ap_defs.specs.Terms.{NominalTerm}
use Rattle.ap_defs.specs.Types as types
use Rattle.ap_defs.specs.Types.{NominalType}
use Rattle.ap_defs.specs.Answers.{NominalAnswer}
use Rattle.ap_defs.specs.Derivations as derivations
use Rattle.ap_defs.specs.Derivations.{NominalDerivation}
use Rattle.ap_bundle.specs.declared.faults.BundleFault.{BundleFault}
use Rattle.ap_bundle.specs.declared.faults.BundleKind.TheVariants.{Expanded, Unended}
use Rattle.ap_bundle.specs.declared.version.Version.{Version}
use Rattle.ap_bundle.specs.declared.version.Version.TheVariants.{One, Two}
use Rattle.ap_bundle.specs.Bundles.{NominalProved, NominalBundle}
use Rattle.ap_bundle.specs.Readers.{is_lf}
use Rattle.ap_bundle.specs.Tables.{expanded_size, size_of_all, table_of, terms_of}
use Rattle.ap_bundle.specs.Written.{written, written_shared}
use Rattle.ap_bundle.specs.Reading.{cited_reading, reading, room_at_first}

-- The numbers of a bundle of the program are in the ranges of their types, and so are the lengths of its lists.

abbrev pub IsListOf : {A : Type 0} → (A → Type 0) → List A → Type 0
IsListOf P xs = (length xs < 2 ^ 64) × Each P xs

abbrev pub FitsName : Name → Type 0
FitsName a = (a.sort < 2 ^ 32) × (a.num < 2 ^ 64)

abbrev pub FitsSwap : Swap → Type 0
FitsSwap s = (s.sort < 2 ^ 32) × (s.left < 2 ^ 64) × (s.right < 2 ^ 64)

abbrev pub FitsCond : Cond → Type 0
FitsCond c = FitsName c.name × (c.var.num < 2 ^ 64)

abbrev pub FitsTerm : NominalTerm → Type 0
FitsTerm terms.unit = Unit {0}
FitsTerm (terms.name a) = FitsName a
FitsTerm (terms.pair t u) = FitsTerm t × FitsTerm u
FitsTerm (terms.app f t) = (f < 2 ^ 32) × FitsTerm t
FitsTerm (terms.abs a t) = FitsName a × FitsTerm t
FitsTerm (terms.susp swaps x) = IsListOf FitsSwap swaps × (x.num < 2 ^ 64)

abbrev pub FitsType : NominalType → Type 0
FitsType types.unit = Unit {0}
FitsType (types.names s) = s < 2 ^ 32
FitsType (types.base d) = d < 2 ^ 32
FitsType (types.pair t u) = FitsType t × FitsType u
FitsType (types.list t) = FitsType t
FitsType (types.abs s t) = (s < 2 ^ 32) × FitsType t

abbrev pub FitsVar : Var × NominalType → Type 0
FitsVar v = (v.0.num < 2 ^ 64) × FitsType v.1

abbrev pub FitsAnswer : NominalAnswer → Type 0
FitsAnswer a = IsListOf FitsTerm a.binds × IsListOf FitsCond a.conds × IsListOf FitsVar a.vars

abbrev pub FitsDerivation : NominalDerivation → Type 0
FitsDerivation (derivations.atom k names ts d) = (k < 2 ^ 32) × IsListOf FitsName names × IsListOf FitsTerm ts × FitsDerivation d
FitsDerivation derivations.equal = Unit {0}
FitsDerivation derivations.fresh = Unit {0}
FitsDerivation derivations.succeed = Unit {0}
FitsDerivation (derivations.both d e) = FitsDerivation d × FitsDerivation e
FitsDerivation (derivations.left d) = FitsDerivation d
FitsDerivation (derivations.right d) = FitsDerivation d
FitsDerivation (derivations.exists t d) = FitsTerm t × FitsDerivation d
FitsDerivation (derivations.new a d) = FitsName a × FitsDerivation d

abbrev pub FitsProved : NominalProved → Type 0
FitsProved p = (p.query < 2 ^ 32) × FitsAnswer p.answer × FitsDerivation p.derivation

abbrev pub FitsBundle : NominalBundle → Type 0
FitsBundle b = (length b.text < 2 ^ 64) × IsListOf FitsProved b.proved

-- what is written of a bundle is read again
abbrev pub WrittenIsRead : Type 0
WrittenIsRead = (b : NominalBundle) → FitsBundle b → reading (written b) ≡ Ok b

-- each proper prefix of what is written is unended, at the line at which it ends
abbrev pub PrefixesAreUnended : Type 0
PrefixesAreUnended = (b : NominalBundle) (v u : List ℕ) → FitsBundle b → written b ≡ v ++ u → 0 < length u
    → reading v ≡ Err (record { line = 1 + count_by is_lf v; kind = Unended })

-- the terms of the bundle, each in full, are as large together as may be read
abbrev pub HasRoom : NominalBundle → Type 0
HasRoom b = size_of_all (flat_map terms_of b.proved) ≤ room_at_first

-- the same of version 2, where the terms are not too large
abbrev pub SharedIsRead : Type 0
SharedIsRead = (b : NominalBundle) → FitsBundle b → HasRoom b → reading (written_shared b) ≡ Ok b

abbrev pub SharedPrefixesAreUnended : Type 0
SharedPrefixesAreUnended = (b : NominalBundle) (v u : List ℕ) → FitsBundle b → HasRoom b → written_shared b ≡ v ++ u → 0 < length u
    → reading v ≡ Err (record { line = 1 + count_by is_lf v; kind = Unended })

-- each term of the bundle, in full, is as large as may be read, and the lines of their table can be numbered
pub record HasRoomEach (b : NominalBundle) : Type 0 where
  pub few : length (table_of b.proved) < 2 ^ 64
  pub small : Each (λ t. expanded_size t ≤ room_at_first) (flat_map terms_of b.proved)

-- what is written in version 2 of a bundle with such terms is read where each may be as large
abbrev pub SharedIsCited : Type 0
SharedIsCited = (b : NominalBundle) → FitsBundle b → HasRoomEach b → cited_reading (written_shared b) ≡ Ok b

abbrev pub CitedPrefixesAreUnended : Type 0
CitedPrefixesAreUnended = (b : NominalBundle) (v u : List ℕ) → FitsBundle b → HasRoomEach b → written_shared b ≡ v ++ u → 0 < length u
    → cited_reading v ≡ Err (record { line = 1 + count_by is_lf v; kind = Unended })

-- the terms of the bundle are as large as may be read in this version
abbrev pub HasRoomIn : Version → NominalBundle → Type 0
HasRoomIn One b = Unit {0}
HasRoomIn Two b = HasRoom b

-- the same where each may be as large
abbrev pub HasRoomEachIn : Version → NominalBundle → Type 0
HasRoomEachIn One b = Unit {0}
HasRoomEachIn Two b = HasRoomEach b

-- Where the terms may be as large together, the same is read as where each may be, or a fault that only the former has: a term is
-- too large.
abbrev pub ReadsAlike : Result NominalBundle BundleFault → Result NominalBundle BundleFault → Type 0
ReadsAlike together each = (together ≡ each) ⊎ ((line : ℕ) × (together ≡ Err (record { line = line; kind = Expanded })))

abbrev pub ReadAlike : Type 0
ReadAlike = (bytes : List ℕ) → ReadsAlike (reading bytes) (cited_reading bytes)

-- what is read is in these ranges
abbrev pub ReadFits : Type 0
ReadFits = (bytes : List ℕ) (b : NominalBundle) → reading bytes ≡ Ok b → FitsBundle b
