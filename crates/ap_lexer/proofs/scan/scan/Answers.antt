use Rattle.std.proofs.Common.{◌≡◌, ◌+◌, ◌++◌, ◌∷◌, [], sym, ap, ◌∙◌, subst, arith, length, length-append, append_assoc}
use Rattle.std.proofs.lemmas.List.{map-append}
use Rattle.ap_lexer.specs.Laws.{AreTokensOf}
use Rattle.ap_lexer.specs.Tokens.{lexemes, lexeme, lexemes_of}
use Rattle.ap_lexer.specs.Cursors.{lexemes_left}
use Rattle.ap_lexer.proofs.Placed.{Placed, placed_on, placed_all}
use Rattle.ap_lexer.proofs.scan.scan.Goals as goal

pub loop-token-preserved : goal.loop-token-preserved
loop-token-preserved c =
    let old = c.loop-token.cursor in
    let new = c.token.new.self in
    let found = lexemes c.loop-token.tokens.items in
    let t = lexeme c.in-Some.token in
    let more : lexemes c.push.new.self.items ≡ found ++ t ∷ [] = ap lexemes c.in_ok-push.ensures.items ∙ map-append lexeme c.loop-token.tokens.items (c.in-Some.token ∷ []) in
    let long : length c.push.new.self.items ≡ length c.loop-token.tokens.items + 1 = ap length c.in_ok-push.ensures.items ∙ length-append c.loop-token.tokens.items (c.in-Some.token ∷ []) in
    let at = c.in-Some.ensures.place in
    let text : old.text.now ≡ new.text.now = ap (λ b. b.now) (sym c.token.ensures.text) in
    let whole : new.whole.now ≡ old.whole.now = ap (λ b. b.now) c.token.ensures.whole in
    let placed : Placed old.text.now (found ++ t ∷ []) t.end = placed_on old.text.now found old.place t c.loop-token.invariant.placed c.in-Some.ensures.longest at.0 at.1 in
    record {
      whole = whole ∙ c.loop-token.invariant.whole;
      few = omega (arith, long, c.loop-token.invariant.few, at.0, at.1, at.2);
      all = ap (λ ts. ts ++ lexemes_left new) more ∙ append_assoc found (t ∷ []) (lexemes_left new) ∙ ap (λ ts. found ++ ts) (sym c.in-Some.ensures.next) ∙ c.loop-token.invariant.all ∙ ap lexemes_of text;
      placed = subst (λ bs. Placed bs (lexemes c.push.new.self.items) new.place) text (subst (λ n. Placed old.text.now (lexemes c.push.new.self.items) n) at.2 (subst (λ ts. Placed old.text.now ts t.end) (sym more) placed));
    }

pub returns-clause-longest : goal.returns-clause-longest
returns-clause-longest c =
    let old = c.loop-token.cursor in
    let found = lexemes c.loop-token.tokens.items in
    let text : old.text.now ≡ c.token.new.self.text.now = ap (λ b. b.now) (sym c.token.ensures.text) in
    subst (λ bs. AreTokensOf bs found) text (placed_all old.text.now found old.place c.loop-token.invariant.placed old.inside)
