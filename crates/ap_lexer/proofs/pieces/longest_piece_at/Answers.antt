use Rattle.std.proofs.Common.{sym, subst}
use Rattle.ap_lexer.specs.Laws.{TakesLongest}
use Rattle.ap_lexer.proofs.Longest as longest
use Rattle.ap_lexer.proofs.pieces.longest_piece_at.Goals as goal

pub returns-clause-longest : goal.returns-clause-longest
returns-clause-longest c = subst (TakesLongest c.args.text.now) (sym c.piece_at.ensures.value) (longest.takes_longest c.args.text.now c.utf8.text)
