-- Tables of the data types that may hold names of a sort, and of those that are inhabited.
use Rattle.std.specs.Prelude.{◌≡◌, ℕ, List}
use Rattle.ap_defs.specs.Types.{NominalConstructor}
use Rattle.ap_types.specs.declared.holding.Holding.{Holding}
use Rattle.ap_types.specs.declared.inhabitants.Inhabitants.{Inhabitants}
use Rattle.ap_types.specs.declared.rounds.Question.TheVariants as questions
use Rattle.ap_types.specs.Rounds.{IsLeastSet, marked}
use Rattle.ap_types.specs.Rules.{IsLeastSoFar}
use Rattle.ap_types.specs.Holding.{some_holds}

-- the table of those that may hold names of the sort
abbrev pub IsHoldingTable : List NominalConstructor → ℕ → Holding → Type 0
IsHoldingTable cs sort h = (h.sort ≡ sort) × IsLeastSet (some_holds sort) cs (marked h.table.items)

-- the table of those that are inhabited
abbrev pub AreInhabitants : List NominalConstructor → Inhabitants → Type 0
AreInhabitants cs i = IsLeastSoFar questions.Inhabited cs i.found
