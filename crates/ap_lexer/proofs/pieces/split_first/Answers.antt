use Rattle.std.proofs.Common.{length, sym, ◌∙◌, ap}
use Rattle.ap_lexer.proofs.First.{first_is, none_at}
use Rattle.ap_lexer.proofs.pieces.split_first.Goals as goal

pub returns-in_err-first : goal.returns-in_err-first
returns-in_err-first c = rw c.from_residual.ensures (none_at c.args.text.now (ap length (sym c.chars-chars.ensures.rest) ∙ c.in_err-first.ensures.steps.0.0))

pub returns : goal.returns
returns c = rw c.as_str.ensures (first_is _ _ _ c.utf8.text (sym c.chars-chars.ensures.rest ∙ c.in_ok-first.ensures.steps.0))
