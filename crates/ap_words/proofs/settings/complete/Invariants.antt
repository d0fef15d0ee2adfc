-- Each option before this one is set as often as it may be.
use Rattle.std.proofs.Common.{◌≡◌, drop}
use Rattle.ap_words.specs.Words.{are_complete}
use Rattle.ap_words.proofs.settings.complete.Given as goal

abbrev pub invariant-loop-option : goal.invariant-loop-option
invariant-loop-option l = are_complete (drop l.option-index l.options) l.settings ≡ are_complete l.options l.settings
