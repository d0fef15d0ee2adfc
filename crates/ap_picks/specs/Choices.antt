-- The constructor that is chosen for each data type.
use Rattle.std.specs.Prelude.{◌≡◌, ◌+◌, ℕ, suc, true, false, List, Option, Some, None, slice_get, slice_index_or}
use Rattle.ap_defs.specs.Types.{NominalConstructor}
use Rattle.ap_types.specs.Inhabited.{all_inhabited}
use Rattle.ap_types.specs.Rounds.{reached}
use Rattle.ap_picks.specs.Picks.{first_passing}
use Rattle.ap_picks.specs.declared.choices.Choice.{Choice}

-- The data type is found in the round after so many others, and the constructor at the place is the first by which it is.
pub record IsPickedChoice (cs : List NominalConstructor) (d : ℕ) (c : Choice) : Type 0 where
  pub before : reached all_inhabited cs c.rounds d ≡ false
  pub found : reached all_inhabited cs (suc c.rounds) d ≡ true
  pub chosen : NominalConstructor
  pub at : slice_get cs c.place ≡ Some chosen
  pub first : first_passing (reached all_inhabited cs c.rounds) 2 cs d ≡ Some (c.place + 2, chosen.args)

-- the choice for a data type, and none where no round finds it
abbrev pub IsChoiceFor : List NominalConstructor → ℕ → Option Choice → Type 0
IsChoiceFor cs d (Some c) = IsPickedChoice cs d c
IsChoiceFor cs d None = (r : ℕ) → reached all_inhabited cs r d ≡ false

-- the choice in a table for a data type
abbrev pub choice_in : List (Option Choice) → ℕ → Option Choice
choice_in table d = slice_index_or table d None

-- the table has the choice for each data type
abbrev pub AreChoices : List NominalConstructor → List (Option Choice) → Type 0
AreChoices cs table = (d : ℕ) → IsChoiceFor cs d (choice_in table d)
