-- Tables of choices between the rounds, and within one.
use Rattle.std.specs.Prelude.{◌≡◌, ◌+◌, ◌<◌, ◌⊎◌, ℕ, Bool, false, ◌&&◌, not, nat_lt, if◌then◌else◌, List, length, set, Option, Some, None, is_some, slice_get}
use Rattle.ap_defs.specs.Types.{NominalConstructor}
use Rattle.ap_types.specs.Inhabited.{all_inhabited}
use Rattle.ap_types.specs.Rounds.{reached}
use Rattle.ap_picks.specs.Choices.{IsPickedChoice, choice_in}
use Rattle.ap_picks.specs.Picks.{first_passing}
use Rattle.ap_picks.specs.declared.choices.Choice.{Choice}

-- after so many rounds
abbrev pub IsChoiceAfter : List NominalConstructor → ℕ → ℕ → Option Choice → Type 0
IsChoiceAfter cs r d None = reached all_inhabited cs r d ≡ false
IsChoiceAfter cs r d (Some c) = IsPickedChoice cs d c × (c.rounds < r)

abbrev pub AreChoicesAfter : List NominalConstructor → ℕ → List (Option Choice) → Type 0
AreChoicesAfter cs r table = (d : ℕ) → IsChoiceAfter cs r d (choice_in table d)

-- The constructor at the choice's place is the first of those so far by which the data type is found in the round after r others.
pub record IsNewChoice (cs : List NominalConstructor) (r : ℕ) (so_far : List NominalConstructor) (d : ℕ) (c : Choice) : Type 0 where
  pub rounds : c.rounds ≡ r
  pub before : reached all_inhabited cs r d ≡ false
  pub chosen : NominalConstructor
  pub at : slice_get cs c.place ≡ Some chosen
  pub first : first_passing (reached all_inhabited cs r) 2 so_far d ≡ Some (c.place + 2, chosen.args)

-- within the round after r others, in which so many constructors were looked at
abbrev pub IsChoiceWithin : List NominalConstructor → ℕ → List NominalConstructor → ℕ → Option Choice → Type 0
IsChoiceWithin cs r so_far d None = (reached all_inhabited cs r d ≡ false) × (first_passing (reached all_inhabited cs r) 2 so_far d ≡ None)
IsChoiceWithin cs r so_far d (Some c) = (IsPickedChoice cs d c × (c.rounds < r)) ⊎ IsNewChoice cs r so_far d c

abbrev pub AreChoicesWithin : List NominalConstructor → ℕ → List NominalConstructor → List (Option Choice) → Type 0
AreChoicesWithin cs r so_far table = (d : ℕ) → IsChoiceWithin cs r so_far d (choice_in table d)

-- the constructor gives its data type a choice, which has none in the table
abbrev pub gives_choice : (ℕ → Bool) → NominalConstructor → List (Option Choice) → Bool
gives_choice found c table =
    nat_lt c.result (length table) && not (is_some (choice_in table c.result)) && all_inhabited found c.args

-- what one constructor makes of a table, and whether it gives a choice
abbrev pub IsLookedAt : (ℕ → Bool) → NominalConstructor → Choice → List (Option Choice) → List (Option Choice) → Bool → Type 0
IsLookedAt found c choice before after given =
    (given ≡ gives_choice found c before) × (after ≡ if given then set before c.result (Some choice) else before)

-- What the round after r others makes of a table, by marks on the data types that are found; `more` is whether it finds another.
pub record GoesRound (cs : List NominalConstructor) (marks : ℕ → Bool) (r : ℕ) (before after : List (Option Choice)) (more : Bool) : Type 0 where
  pub as_long : length after ≡ length before
  pub same : more ≡ false → after ≡ before
  pub within : ((d : ℕ) → marks d ≡ reached all_inhabited cs r d) → AreChoicesAfter cs r before → AreChoicesWithin cs r cs after
