-- No option before this one has the name.
use Rattle.std.proofs.Common.{◌≡◌, drop}
use Rattle.std.specs.Prelude.{find}
use Rattle.std.specs.Str.{bytes_eq}
use Rattle.ap_words.specs.Table.{option_name}
use Rattle.ap_words.proofs.settings.option_called.Given as goal

abbrev pub invariant-loop-option : goal.invariant-loop-option
invariant-loop-option l =
    find (λ o. bytes_eq (option_name o) l.name) (drop l.option-index l.options) ≡ find (λ o. bytes_eq (option_name o) l.name) l.options
