use Rattle.ap_lexer.proofs.Longest as longest
use Rattle.ap_lexer.proofs.pieces.takes_longest.Goals as goal

pub returns : goal.returns
returns c = longest.takes_longest c.args._text.now c.utf8._text
