use Rattle.std.proofs.Common.{◌-◌, ◌+◌, ◌≤◌, length, drop}
use Rattle.ap_lexer.specs.Tokens.{lexemes}
use Rattle.ap_trees.specs.Trees.{items_of_text}
use Rattle.ap_syntax.specs.Reading.{TextOutcome, Reads, after_items}
use Rattle.ap_whole.proofs.reading.read_items.Given as goal

abbrev pub invariant-loop-at : goal.invariant-loop-at
invariant-loop-at l = record {
  few : l.number ≤ l.at + 1;
  inside : l.at ≤ length l.tokens;
  reads : (r : TextOutcome) → Reads l.number (lexemes (drop l.at l.tokens)) r → Reads 1 (lexemes l.tokens) (after_items (items_of_text l.items.items) r);
}

abbrev pub decreases-loop-at : goal.decreases-loop-at
decreases-loop-at l = length l.tokens - l.at
