use Rattle.std.proofs.Common.{◌≡◌, ◌≤◌, length, ◌-◌, drop}
use Rattle.std.specs.Prelude.{filter, fold}
use Rattle.ap_inputs.specs.Items.{is_query, items_of_tokens, without_item, without_queries}
use Rattle.ap_lexer.specs.Tokens.{lexemes}
use Rattle.ap_inputs.proofs.items.without_queries.Given as goal

abbrev pub invariant-loop-place : goal.invariant-loop-place
invariant-loop-place l = record {
  within : l.place ≤ length l.tokens;
  left : fold without_item l.kept.items (filter is_query (items_of_tokens (lexemes (drop l.place l.tokens)))) ≡ without_queries l.text (lexemes l.tokens);
}

abbrev pub decreases-loop-place : goal.decreases-loop-place
decreases-loop-place l = length l.tokens - l.place
