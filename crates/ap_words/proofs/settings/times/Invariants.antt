-- So many of the settings before this one are of the option.
use Rattle.std.proofs.Common.{◌≡◌, ◌≤◌, take}
use Rattle.std.specs.Prelude.{count_by}
use Rattle.ap_words.specs.Words.{sets}
use Rattle.ap_words.proofs.settings.times.Given as goal

abbrev pub invariant-loop-setting : goal.invariant-loop-setting
invariant-loop-setting l = record {
  counted : l.count ≡ count_by (sets l.option) (take l.setting-index l.settings);
  few : l.count ≤ l.setting-index;
}
