use Rattle.std.proofs.Common.{◌≡◌, ◌≤◌, ◌-◌, length}
use Rattle.ap_lexer.specs.Cursors.{lexemes_left}
use Rattle.ap_lexer.proofs.cursor.Cursor.token.Given as goal

abbrev pub invariant-loop-piece : goal.invariant-loop-piece
invariant-loop-piece l = record {
  whole : l.self.whole ≡ l.fn.self.whole;
  text : l.self.text ≡ l.fn.self.text;
  left : lexemes_left l.self ≡ lexemes_left l.fn.self;
  further : l.fn.self.place ≤ l.self.place;
}

abbrev pub decreases-loop-piece : goal.decreases-loop-piece
decreases-loop-piece l = length l.self.text.now - l.self.place
