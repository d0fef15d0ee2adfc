use Rattle.std.proofs.Common.{◌≡◌, ◌-◌, ◌∷◌, length}
use Rattle.ap_lexer.specs.Cursors.{lexemes_left}
use Rattle.ap_lexer.specs.Tokens.{lexeme}
use Rattle.ap_trees.specs.Symbols.{syms}
use Rattle.ap_syntax.proofs.Fronts.{ReadTo}
use Rattle.ap_syntax.proofs.front.front_from.Given as goal

abbrev pub invariant-reading : goal.invariant-reading
invariant-reading l = record {
  whole : l.cursor.whole ≡ l.fn.cursor.whole;
  text : l.cursor.text ≡ l.fn.cursor.text;
  read : ReadTo (lexeme l.first ∷ lexemes_left l.fn.cursor) (lexeme l.token ∷ lexemes_left l.cursor) (syms l.symbols.items);
}

abbrev pub decreases-reading : goal.decreases-reading
decreases-reading l = length l.cursor.text.now - l.cursor.place
