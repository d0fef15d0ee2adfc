-- The words that have been read are these numbers and terms.
use Rattle.std.proofs.Common.{◌≡◌, ◌≤◌, drop, length, Some}
use Rattle.ap_bundle.specs.Forms.{forms, term_onto}
use Rattle.ap_bundle_read.specs.Stacks.{term_forms}
use Rattle.ap_bundle_read.proofs.terms.term_from.Given as goal

abbrev pub invariant-loop-left : goal.invariant-loop-left
invariant-loop-left l = record {
  read : forms term_onto (drop l.left l.words) ≡ Some (term_forms l.terms);
  within : l.left ≤ length l.words;
}

abbrev pub decreases-loop-left : goal.decreases-loop-left
decreases-loop-left l = l.left
