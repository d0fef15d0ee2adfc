use Rattle.std.proofs.Common.{◌≡◌, ap, ◌∙◌, sym, refl, subst}
use Rattle.ap_lexer.specs.Laws.{TakesLongest, IsTokenOf}
use Rattle.ap_lexer.specs.Tokens.{Lexeme}
use Rattle.ap_lexer.proofs.Placed.{token_is}
use Rattle.ap_lexer.proofs.Scans.{none_left, stopped}
use Rattle.ap_lexer.proofs.cursor.Cursor.token.Goals as goal

pub returns-in-Some-kind-clause-longest : goal.returns-in-Some-kind-clause-longest
returns-in-Some-kind-clause-longest c =
    let me = c.loop-piece.self in
    let t : Lexeme = record { kind = c.in-Some-kind.kind; text = c.pass-text.result.now; start = me.place; end = c.pass-text.new.self.place; line = me.line } in
    let taken = subst (TakesLongest me.rest.now) c.in-Some.is c.longest_piece_at.ensures.longest in
    let text : me.text.now ≡ c.args.self.now.text.now = ap (λ b. b.now) c.loop-piece.invariant.text in
    subst (λ bs. IsTokenOf bs t) text (token_is me.text.now me.rest.now me.place c.in-Some.piece t me.left taken c.in-Some-kind.is refl c.pass-text.ensures.place c.pass-text.ensures.front me.counted)

pub returns-clause-next : goal.returns-clause-next
returns-clause-next c =
    let me = c.loop-piece.self in
    let none = sym c.longest_piece_at.ensures.value ∙ c.in_default.is in
    let left = none_left me.text.now me.place me.rest.now me.left none in
    (sym c.loop-piece.invariant.left ∙ left, left, stopped me.text.now me.place me.rest.now me.ends none)
