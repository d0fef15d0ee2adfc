-- The settings so far, and those of the words that are left, are all.
use Rattle.std.proofs.Common.{◌≡◌, ◌≤◌, ◌-◌, ◌++◌, drop, length, map, string_bytes}
use Rattle.std.specs.Prelude.{option_map}
use Rattle.ap_words.specs.Words.{settings_of}
use Rattle.ap_words.proofs.settings.read_settings.Given as goal

abbrev pub invariant-loop-at : goal.invariant-loop-at
invariant-loop-at l = record {
  in_range : l.at ≤ length l.words;
  read : settings_of l.options (map string_bytes l.words)
      ≡ option_map (λ ss. l.found.items ++ ss) (settings_of l.options (drop l.at (map string_bytes l.words)));
}

abbrev pub decreases-loop-at : goal.decreases-loop-at
decreases-loop-at l = length l.words - l.at
