use Rattle.std.proofs.Common.{◌≡◌, ◌≤◌, ◌++◌, ◌-◌, length}
use Rattle.ap_lexer.specs.Tokens.{lexemes, lexemes_of}
use Rattle.ap_lexer.specs.Cursors.{lexemes_left}
use Rattle.ap_lexer.proofs.Placed.{Placed}
use Rattle.ap_lexer.proofs.scan.scan.Given as goal

abbrev pub invariant-loop-token : goal.invariant-loop-token
invariant-loop-token l = record {
  whole : l.cursor.whole.now ≡ l.text;
  few : length l.tokens.items ≤ l.cursor.place;
  all : lexemes l.tokens.items ++ lexemes_left l.cursor ≡ lexemes_of l.cursor.text.now;
  placed : Placed l.cursor.text.now (lexemes l.tokens.items) l.cursor.place;
}

abbrev pub decreases-loop-token : goal.decreases-loop-token
decreases-loop-token l = length l.cursor.text.now - l.cursor.place
