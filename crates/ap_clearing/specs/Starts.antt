-- Where to start looking for a name that is not used.
use Rattle.std.specs.Prelude.{◌≡◌, ℕ, List, Some, nat_eq}
use Rattle.ap_defs.specs.declared.terms.Name.{Name}
use Rattle.indexmap.specs.IndexMap.{IndexMap, get}
use Rattle.ap_clearing.specs.Clearing.{AreUsedBelow}

-- below the number that is given for a sort, if one is, all names of the sort are used
abbrev pub SkipsUsed : {S : Type 0} → List Name → IndexMap ℕ ℕ S → Type 0
SkipsUsed used starts = (sort n : ℕ) → get nat_eq starts sort ≡ Some n → AreUsedBelow used sort n
