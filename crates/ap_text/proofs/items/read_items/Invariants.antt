use Rattle.std.proofs.Common.{◌≡◌, ◌+◌, length}
use Rattle.std.specs.Prelude.{count_by}
use Rattle.ap_lexer.specs.Cursors.{lexemes_left}
use Rattle.ap_lexer.specs.Tokens.{is_dot, item_after}
use Rattle.ap_text.specs.Outlooks.{IsOutlook}
use Rattle.ap_text.proofs.items.read_items.Given as goal

abbrev pub invariant-reading : goal.invariant-reading
invariant-reading l = record {
  whole : l.cursor.whole ≡ l.fn.cursor.whole;
  text : l.cursor.text ≡ l.fn.cursor.text;
  dots : l.next + count_by is_dot (lexemes_left l.cursor) ≡ item_after (lexemes_left l.fn.cursor);
  outlook : IsOutlook (lexemes_left l.fn.cursor) (lexemes_left l.cursor) l.next l.typing l.outlook;
}

abbrev pub decreases-reading : goal.decreases-reading
decreases-reading l = length (lexemes_left l.cursor)
