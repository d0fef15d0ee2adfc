use Rattle.std.proofs.Common.{rules}
use Rattle.ap_lexer.proofs.Cuts.{mark_cut}
use Rattle.ap_lexer.proofs.pieces.mark_at.Goals as goal

pub returns-in_default-clause-cut : goal.returns-in_default-clause-cut
returns-in_default-clause-cut c =
    mark_cut c.args.text.now c.mark_len.result c.utf8.text (search rules) c.mark_len.ensures.most (search rules) (search rules)
