-- Verdicts on items, and the first fault of items so far.
use Rattle.std.specs.Prelude.{if◌then◌else◌, nat_lt, List, Option, Some, None}
use Rattle.ap_defs.specs.Types.{NominalConstructor}
use Rattle.ap_defs.specs.declared.faults.NameFault.{NameFault}
use Rattle.ap_defs.specs.declared.faults.NameKind.{NameKind}
use Rattle.ap_defs.specs.declared.terms.Var.{Var}
use Rattle.ap_program.specs.NameRestriction.{RawItem, HasNamesAlone, IsWrong, Passes, AllPass, IsFaultOf, IsFirstFault}

-- the item's fault, or that it passes
abbrev pub IsVerdict : List NominalConstructor → RawItem → Option NameFault → Type 0
IsVerdict cs i None = Passes cs i
IsVerdict cs i (Some f) = IsFaultOf cs i f

-- what is wrong with the item, or that binders and places of swappings are names
abbrev pub IsMisplaced : List NominalConstructor → RawItem → Option (NameKind × Var) → Type 0
IsMisplaced cs i None = HasNamesAlone i
IsMisplaced cs i (Some p) = IsWrong cs i p.0 p.1.num

-- the first fault of the items, or that all pass
abbrev pub IsScan : List NominalConstructor → List RawItem → Option NameFault → Type 0
IsScan cs items None = AllPass cs items
IsScan cs items (Some f) = IsFirstFault cs items f

-- the fault of the earlier item, or the first of the two
abbrev pub earlier_of : Option NameFault → Option NameFault → Option NameFault
earlier_of None new = new
earlier_of (Some old) None = Some old
earlier_of (Some old) (Some new) = if nat_lt new.place.item old.place.item then Some new else Some old
