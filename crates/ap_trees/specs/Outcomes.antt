-- What a reader in the code gives, beside what a reader gives.
use Rattle.std.specs.Prelude.{◌≡◌, Option, None, Some, Result, Ok, Err, ⊤}
use Rattle.ap_trees.specs.declared.outcome.ReadError.{ReadError}
use Rattle.ap_trees.specs.declared.outcome.ReadError.TheVariants as errors

abbrev pub FailsPart : {Y : Type 0} → ReadError → Option Y → Type 0
FailsPart errors.Memory read = ⊤
FailsPart errors.Grammar read = read ≡ None

-- what was returned is what reading gives, unless memory ran out
abbrev pub GivesPart : {X Y : Type 0} → (X → Y) → Result X ReadError → Option Y → Type 0
GivesPart view (Ok x) read = read ≡ Some (view x)
GivesPart view (Err e) read = FailsPart e read
