use Rattle.std.proofs.Common.{◌≡◌, ◌+◌, drop, sym, ◌∙◌, ap, subst}
use Rattle.ap_lexer.specs.Tokens.{lexemes}
use Rattle.ap_trees.specs.Symbols.{syms}
use Rattle.ap_trees.specs.Trees.{item_of}
use Rattle.ap_syntax.specs.Reading.{before, FirstOf, GivesOneOf}
use Rattle.ap_syntax.proofs.Readings.{unended_of}
use Rattle.ap_syntax.proofs.Fronts.{first_given}
use Rattle.ap_whole.proofs.reading.first_item.Goals as goal

pub returns-in_default-clause-read : goal.returns-in_default-clause-read
returns-in_default-clause-read c = rw c.fault.ensures (unended_of c.args.item c.args.tokens.now _ c.requires (sym c.in_default.ensures.value))

pub returns-in-Ok-clause-read : goal.returns-in-Ok-clause-read
returns-in-Ok-clause-read c =
    let all = lexemes c.args.tokens.now in
    let place = c.in-Some.place in
    let same : syms c.deref.result.now ≡ before place all = ap syms c.deref.ensures.value ∙ c.in_ok-symbols.ensures in
    subst (λ g. GivesOneOf (λ x. (item_of x, drop (place + 1) all)) g (FirstOf c.args.item all)) c.in-Ok.is
    (first_given item_of c.form_item.result c.args.item c.args.tokens.now _ place _ c.requires (sym c.in-Some.ensures.value) same c.form_item.ensures)

pub returns-clause-read : goal.returns-clause-read
returns-clause-read c =
    let all = lexemes c.args.tokens.now in
    let place = c.in-Some.place in
    let same : syms c.deref.result.now ≡ before place all = ap syms c.deref.ensures.value ∙ c.in_ok-symbols.ensures in
    subst (λ g. GivesOneOf (λ x. (item_of x, drop (place + 1) all)) g (FirstOf c.args.item all)) c.in-Err.is
    (first_given item_of c.form_item.result c.args.item c.args.tokens.now _ place _ c.requires (sym c.in-Some.ensures.value) same c.form_item.ensures)
