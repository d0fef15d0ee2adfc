-- The words that have been read are these numbers and types.
use Rattle.std.proofs.Common.{◌≡◌, ◌≤◌, drop, length, Some}
use Rattle.ap_bundle.specs.Forms.{forms, type_onto}
use Rattle.ap_bundle_read.specs.Stacks.{type_forms}
use Rattle.ap_bundle_read.proofs.types.type_from.Given as goal

abbrev pub invariant-loop-left : goal.invariant-loop-left
invariant-loop-left l = record {
  read : forms type_onto (drop l.left l.words) ≡ Some (type_forms l.types);
  within : l.left ≤ length l.words;
}

abbrev pub decreases-loop-left : goal.decreases-loop-left
decreases-loop-left l = l.left
