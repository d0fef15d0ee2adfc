-- What a picker has.
use Rattle.std.specs.Prelude.{◌≡◌, ◌≤◌, length, map}
use Rattle.ap_defs.specs.Limits.{size_limit}
use Rattle.ap_defs.specs.Types.{constructor_of}
use Rattle.ap_picks.specs.Choices.{AreChoices}
use Rattle.ap_picks.specs.Picks.{data_bound}
use Rattle.ap_picks.specs.declared.picking.Picker.{Picker}

-- the choices for the data types of its constructors
pub record IsPicker (p : Picker) : Type 0 where
  pub chosen : AreChoices (map constructor_of p.constructors.now) p.choices.items
  pub rounds : p.rounds ≡ data_bound (map constructor_of p.constructors.now)
  pub bounded : length p.constructors.now ≤ size_limit
