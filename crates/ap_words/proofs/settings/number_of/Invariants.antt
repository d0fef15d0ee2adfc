-- No setting before this one is of the option.
use Rattle.std.proofs.Common.{◌≡◌, drop}
use Rattle.std.specs.Prelude.{find}
use Rattle.ap_words.specs.Words.{sets}
use Rattle.ap_words.proofs.settings.number_of.Given as goal

abbrev pub invariant-loop-setting : goal.invariant-loop-setting
invariant-loop-setting l = find (sets l.option) (drop l.setting-index l.settings) ≡ find (sets l.option) l.settings
