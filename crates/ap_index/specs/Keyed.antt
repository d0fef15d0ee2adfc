-- The clauses of a predicate beside their keys.
use Rattle.std.specs.Prelude.{◌≡◌, ◌+◌, ◌<◌, ◌^◌, ℕ, List, length, map}
use Rattle.ap_defs.specs.Goals.{clause_of}
use Rattle.ap_defs.specs.declared.goals.Clause.{Clause}
use Rattle.ap_defs.specs.declared.terms.Term.{Term}
use Rattle.ap_index.specs.Keys.{AreNarrow, keys_of}
use Rattle.ap_index.specs.Places.{AreKeysWithin}

-- the keys are those of the clauses, and each stands within the places of its bucket
pub record HasKeys (clauses : List (Clause Term)) (keys firsts lasts : List ℕ) : Type 0 where
  pub same : keys ≡ keys_of (map clause_of clauses)
  pub narrow : AreNarrow (keys_of (map clause_of clauses))
  pub few : length clauses < 2 ^ 32
  pub starts : length firsts ≡ length keys + 1
  pub ends : length lasts ≡ length keys + 1
  pub within : AreKeysWithin keys firsts lasts
