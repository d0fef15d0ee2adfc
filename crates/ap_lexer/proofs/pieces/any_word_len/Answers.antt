use Rattle.std.proofs.Common.{rules, of_calls}
use Rattle.std.proofs.lemmas.Fn.{always_returns_same}
use Rattle.ap_lexer.proofs.Words.{word_found}
use Rattle.ap_lexer.proofs.pieces.any_word_len.Goals as goal

pub returns-clause-len : goal.returns-clause-len
returns-clause-len c =
    rw c.unwrap_or.ensures (word_found c.args.text.now c.find.result _ c.utf8.text c.find.ensures.cases (always_returns_same _ _ _ (λ a r f k. search (rules, of_calls))))
