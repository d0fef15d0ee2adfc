-- The entry of a table that stands for a place, where a filling says what stands for each place.
use Rattle.std.specs.Prelude.{◌≡◌, ℕ}
use Rattle.ap_defs.specs.Types.{hole}
use Rattle.ap_types.specs.declared.nodes.Node.{Node}
use Rattle.ap_types.specs.declared.nodes.Node.TheVariants as nodes
use Rattle.ap_types.specs.Equations.{Filling, filled}
use Rattle.ap_types.specs.Triangular.{layer_of}

-- The entry stands for the place, and is no place unless that is open.
pub record IsEntryOf (f : Filling) (x : ℕ) (n : Node) : Type 0 where
  pub stands : f x ≡ filled f (layer_of n)
  pub open_place : (y : ℕ) → n ≡ nodes.Place y → f y ≡ hole y
