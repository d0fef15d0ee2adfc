use Rattle.std.proofs.Common.{◌≡◌, ◌≤◌, length, take, reverse}
use Rattle.ap_syntax.specs.Nesting.{to_bracket}
use Rattle.ap_syntax.proofs.nesting.bracket_place.Given as goal

abbrev pub invariant-loop-place : goal.invariant-loop-place
invariant-loop-place l = record {
  inside : l.place ≤ length l.levels;
  rest : to_bracket (reverse (take l.place l.levels)) ≡ to_bracket (reverse l.levels);
}

abbrev pub decreases-loop-place : goal.decreases-loop-place
decreases-loop-place l = l.place
