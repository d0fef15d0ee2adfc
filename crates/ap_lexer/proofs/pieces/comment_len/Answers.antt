use Rattle.std.proofs.Common.{arith}
use Rattle.std.proofs.lemmas.Str.Pattern.{find_char}
use Rattle.ap_lexer.proofs.Words.{line_found}
use Rattle.ap_lexer.proofs.pieces.comment_len.Goals as goal

pub returns-clause-len : goal.returns-clause-len
returns-clause-len c =
    rw c.unwrap_or.ensures (line_found c.args.text.now c.find.result (find_char 10 c.args.text.now c.find.result c.find.ensures.cases (omega arith)))
