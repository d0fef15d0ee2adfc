use Rattle.std.proofs.Common.{◌≡◌, ◌+◌, drop}
use Rattle.std.specs.List.{position_or_len}
use Rattle.ap_lexer.specs.Tokens.{lexemes, is_dot}
use Rattle.ap_whole.proofs.reading.dot_place.Given as goal

abbrev pub invariant-loop-place : goal.invariant-loop-place
invariant-loop-place l = l.place + position_or_len is_dot (lexemes (drop l.place l.tokens)) ≡ position_or_len is_dot (lexemes l.tokens)
