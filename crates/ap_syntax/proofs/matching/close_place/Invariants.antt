use Rattle.std.proofs.Common.{◌≡◌, ◌≤◌, drop}
use Rattle.ap_trees.specs.Symbols.{syms}
use Rattle.ap_syntax.specs.Matching.{after_match}
use Rattle.ap_syntax.proofs.matching.close_place.Given as goal

abbrev pub invariant-loop-place : goal.invariant-loop-place
invariant-loop-place l = record {
  few : l.depth ≤ l.place;
  read : after_match l.depth (syms (drop l.place l.symbols)) ≡ after_match 0 (syms l.symbols);
}
