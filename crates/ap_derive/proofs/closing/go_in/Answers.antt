use Rattle.std.proofs.Common.{◌≡◌, ◌∙◌, sym, ap, subst}
use Rattle.ap_defs.specs.Canonical.{canonical_term}
use Rattle.ap_defs.specs.Substitution.{under}
use Rattle.ap_defs.specs.Terms.{NominalTerm, abs, app, name, pair, susp, unit}
use Rattle.ap_perm.specs.Closures.{closure_term, opened_term}
use Rattle.ap_store.specs.Views.{bindings_of}
use Rattle.ap_derive.specs.Closing.{PartGoesOn}
use Rattle.ap_derive.proofs.ClosingLemmas.{abs_on, app_on, made_on, pair_on}
use Rattle.ap_derive.proofs.closing.go_in.Goals as goal

pub returns-in_ok-line-in-Unit : goal.returns-in_ok-line-in-Unit
returns-in_ok-line-in-Unit c =
    let s = c.args.store.now in
    let line = c.in_ok-line-in-Unit.ensures in
    let opened : closure_term c.args.c ≡ unit = sym c.in_ok-open.ensures ∙ ap opened_term c.in-Unit.is in
    made_on s c.args.closing.now c.add_line.new.closing c.args.rounds.now.items (closure_term c.args.c) c.in_ok-line-in-Unit.line line.lines line.grown line.within
    (line.line ∙ sym (ap (λ (t : NominalTerm). canonical_term (under (bindings_of s) t)) opened))

pub returns-in_ok-line-in-Name : goal.returns-in_ok-line-in-Name
returns-in_ok-line-in-Name c =
    let s = c.args.store.now in
    let line = c.in_ok-line-in-Name.ensures in
    let opened : closure_term c.args.c ≡ name c.in-Name.a = sym c.in_ok-open.ensures ∙ ap opened_term c.in-Name.is in
    made_on s c.args.closing.now c.add_line-in-Name.new.closing c.args.rounds.now.items (closure_term c.args.c) c.in_ok-line-in-Name.line line.lines line.grown line.within
    (line.line ∙ sym (ap (λ (t : NominalTerm). canonical_term (under (bindings_of s) t)) opened))

pub returns-in_ok-part-in-Susp : goal.returns-in_ok-part-in-Susp
returns-in_ok-part-in-Susp c =
    let opened : closure_term c.args.c ≡ susp c.in-Susp.swaps.items c.in-Susp.x = sym c.in_ok-open.ensures ∙ ap opened_term c.in-Susp.is in
    subst (λ (t : NominalTerm). PartGoesOn c.args.store.now c.args.closing.now c.go_to.new.closing c.args.rounds.now.items c.go_to.new.rounds.items t c.in_ok-part-in-Susp.part) (sym opened)
    c.in_ok-part-in-Susp.ensures

pub returns-in_ok-push-in-Pair : goal.returns-in_ok-push-in-Pair
returns-in_ok-push-in-Pair c =
    let opened : closure_term c.args.c ≡ pair (closure_term c.in-Pair.left) (closure_term c.in-Pair.right) = sym c.in_ok-open.ensures ∙ ap opened_term c.in-Pair.is in
    pair_on c.args.store.now c.args.closing.now c.args.rounds.now.items c.push.new.self.items (closure_term c.args.c) c.in-Pair.left c.in-Pair.right c.in_ok-push-in-Pair.ensures.items opened

pub returns-in_ok-push-in-App : goal.returns-in_ok-push-in-App
returns-in_ok-push-in-App c =
    let opened : closure_term c.args.c ≡ app c.in-App.f (closure_term c.in-App.argument) = sym c.in_ok-open.ensures ∙ ap opened_term c.in-App.is in
    app_on c.args.store.now c.args.closing.now c.args.rounds.now.items c.push-in-App.new.self.items (closure_term c.args.c) c.in-App.f c.in-App.argument c.in_ok-push-in-App.ensures.items opened

pub returns-in_ok-push-in-Abs : goal.returns-in_ok-push-in-Abs
returns-in_ok-push-in-Abs c =
    let opened : closure_term c.args.c ≡ abs c.in-Abs.a (closure_term c.in-Abs.body) = sym c.in_ok-open.ensures ∙ ap opened_term c.in-Abs.is in
    abs_on c.args.store.now c.args.closing.now c.args.rounds.now.items c.push-in-Abs.new.self.items (closure_term c.args.c) c.in-Abs.a c.in-Abs.body c.in_ok-push-in-Abs.ensures.items opened
