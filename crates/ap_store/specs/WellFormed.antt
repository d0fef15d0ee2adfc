-- What holds of each triple that a store has.
use Rattle.std.specs.Prelude.{true, ◌≡◌}
use Rattle.ap_defs.specs.Renaming.{AreBindingsBelow}
use Rattle.ap_theory.specs.Variables.{IsIdempotent}
use Rattle.ap_store.specs.Changes.{is_ascending}
use Rattle.ap_store.specs.Triples.{AreOnUnbound, Triple}

pub record IsWellFormed (a : Triple) : Type 0 where
  pub idempotent : IsIdempotent a.bindings
  pub below : AreBindingsBelow a.next a.bindings
  pub unbound : AreOnUnbound a a.conditions
  pub ascending : is_ascending a.conditions ≡ true
