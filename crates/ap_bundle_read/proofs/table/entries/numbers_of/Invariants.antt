-- The words that have been read are these numbers.
use Rattle.std.proofs.Common.{◌≡◌, ◌≤◌, drop, length, Some}
use Rattle.std.specs.Prelude.{reverse}
use Rattle.ap_bundle.specs.TableForms.{numbers}
use Rattle.ap_bundle_read.proofs.table.entries.numbers_of.Given as goal

abbrev pub invariant-loop-left : goal.invariant-loop-left
invariant-loop-left l = record {
  read : numbers (drop l.left l.words) ≡ Some (reverse l.numbers.items);
  within : l.left ≤ length l.words;
}

abbrev pub decreases-loop-left : goal.decreases-loop-left
decreases-loop-left l = l.left
