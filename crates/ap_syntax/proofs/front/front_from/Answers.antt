use Rattle.std.proofs.Common.{◌≡◌, ◌∷◌, true, false, refl, sym, ◌∙◌}
use Rattle.ap_lexer.specs.Cursors.{lexemes_left}
use Rattle.ap_lexer.specs.Tokens.{lexeme, is_dot}
use Rattle.ap_trees.specs.Symbols.{syms}
use Rattle.ap_syntax.proofs.Fronts.{read_more, read_dot, read_all}
use Rattle.ap_syntax.proofs.front.front_from.Goals as goal

pub reading-preserved : goal.reading-preserved
reading-preserved c =
    let old = c.reading in
    record {
      whole = c.token.ensures.whole ∙ old.invariant.whole;
      text = c.token.ensures.text ∙ old.invariant.text;
      read = read_more (lexeme c.args.first ∷ lexemes_left c.args.cursor.now) (lexemes_left old.cursor) _ old.token c.symbol_of.result old.symbols.items c.push.new.self.items
          old.invariant.read (sym c.ends_item.ensures ∙ c.reading-test.true) c.symbol_of.ensures c.in_ok-push.ensures.items c.in-Some.ensures.next;
    }

pub returns-in-None-clause-front : goal.returns-in-None-clause-front
returns-in-None-clause-front c =
    let all = lexeme c.args.first ∷ lexemes_left c.args.cursor.now in
    let old = c.reading in (
      refl,
      (read_all all (syms c.push.new.self.items)
          (read_more all (lexemes_left old.cursor) _ old.token c.symbol_of.result old.symbols.items c.push.new.self.items
          old.invariant.read (sym c.ends_item.ensures ∙ c.reading-test.true) c.symbol_of.ensures c.in_ok-push.ensures.items c.in-None.ensures.next.0)).0,
    )

pub returns-in-None-clause-left : goal.returns-in-None-clause-left
returns-in-None-clause-left c =
    let all = lexeme c.args.first ∷ lexemes_left c.args.cursor.now in
    let old = c.reading in
    c.in-None.ensures.next.1 ∙ (read_all all (syms c.push.new.self.items)
    (read_more all (lexemes_left old.cursor) _ old.token c.symbol_of.result old.symbols.items c.push.new.self.items
    old.invariant.read (sym c.ends_item.ensures ∙ c.reading-test.true) c.symbol_of.ensures c.in_ok-push.ensures.items c.in-None.ensures.next.0)).1

pub returns-clause-front : goal.returns-clause-front
returns-clause-front c =
    let all = lexeme c.args.first ∷ lexemes_left c.args.cursor.now in
    let old = c.reading in
    let dot : is_dot (lexeme old.token) ≡ true = sym c.ends_item.ensures ∙ c.reading-test.false in
    (refl, (read_dot all (lexemes_left old.cursor) (lexeme old.token) (syms old.symbols.items) old.invariant.read dot).0)

pub returns-clause-left : goal.returns-clause-left
returns-clause-left c =
    let all = lexeme c.args.first ∷ lexemes_left c.args.cursor.now in
    let old = c.reading in
    let dot : is_dot (lexeme old.token) ≡ true = sym c.ends_item.ensures ∙ c.reading-test.false in
    (read_dot all (lexemes_left old.cursor) (lexeme old.token) (syms old.symbols.items) old.invariant.read dot).1
