use Rattle.std.proofs.Common.{◌≡◌, ◌≤◌, ◌++◌, length, ◌-◌, drop}
use Rattle.std.specs.Prelude.{filter}
use Rattle.std.specs.List.{flat_map}
use Rattle.ap_inputs.specs.Items.{is_about, item_text, items_of_tokens, items_about}
use Rattle.ap_lexer.specs.Tokens.{lexemes}
use Rattle.ap_inputs.proofs.items.items_about.Given as goal

abbrev pub invariant-loop-place : goal.invariant-loop-place
invariant-loop-place l = record {
  within : l.place ≤ length l.tokens;
  left : l.out.items ++ flat_map (item_text l.text) (filter (is_about l.word) (items_of_tokens (lexemes (drop l.place l.tokens)))) ≡ items_about l.text (lexemes l.tokens) l.word;
}

abbrev pub decreases-loop-place : goal.decreases-loop-place
decreases-loop-place l = length l.tokens - l.place
