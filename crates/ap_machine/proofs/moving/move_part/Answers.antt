use Rattle.std.proofs.Common.{◌≡◌, sym, ap, ◌∙◌}
use Rattle.ap_defs.specs.Terms.{abs, app, pair, term_of}
use Rattle.ap_defs.specs.declared.spines.TermLayer.TheVariants as around
use Rattle.ap_defs.specs.declared.terms.Term.{Term}
use Rattle.ap_defs.specs.declared.walks.TermFrame.TheVariants as round_term
use Rattle.ap_machine.specs.Closed.{canonically_moved}
use Rattle.ap_defs.proofs.WalkLemmas.{term_enters, term_less, pair_less, app_less, abs_less}
use Rattle.ap_machine.proofs.moving.move_part.Goals as goal

pub returns-in_ok-push-in-Pair-clause-same : goal.returns-in_ok-push-in-Pair-clause-same
returns-in_ok-push-in-Pair-clause-same c =
    let left = term_of c.deref-in-Pair.result.now in
    let all : term_of c.args.t.now ≡ pair left (term_of c.deref.result.now) =
    ap term_of c.in-Pair.is ∙ ap (λ (u : Term). pair (term_of u) (term_of c.in-Pair.right.value)) (sym c.deref-in-Pair.ensures) ∙ ap (λ (u : Term). pair left (term_of u)) (sym c.deref.ensures) in
    term_enters (canonically_moved c.args.swaps.now) c.args.frames.now.items c.push.new.self.items (round_term.Before c.deref.result) (term_of c.args.t.now) left c.in_ok-push-in-Pair.ensures.items (ap (canonically_moved c.args.swaps.now) all)

pub returns-in_ok-push-in-Pair-clause-less : goal.returns-in_ok-push-in-Pair-clause-less
returns-in_ok-push-in-Pair-clause-less c =
    let left = term_of c.deref-in-Pair.result.now in
    let all : term_of c.args.t.now ≡ pair left (term_of c.deref.result.now) =
    ap term_of c.in-Pair.is ∙ ap (λ (u : Term). pair (term_of u) (term_of c.in-Pair.right.value)) (sym c.deref-in-Pair.ensures) ∙ ap (λ (u : Term). pair left (term_of u)) (sym c.deref.ensures) in
    term_less c.args.frames.now.items c.push.new.self.items (round_term.Before c.deref.result) (term_of c.args.t.now) left c.in_ok-push-in-Pair.ensures.items (pair_less (term_of c.args.t.now) left (term_of c.deref.result.now) all)

pub returns-in_ok-push-in-App-clause-same : goal.returns-in_ok-push-in-App-clause-same
returns-in_ok-push-in-App-clause-same c =
    let part = term_of c.deref-in-App.result.now in
    let all : term_of c.args.t.now ≡ app c.in-App.f part = ap term_of c.in-App.is ∙ ap (λ (u : Term). app c.in-App.f (term_of u)) (sym c.deref-in-App.ensures) in
    term_enters (canonically_moved c.args.swaps.now) c.args.frames.now.items c.push-in-App.new.self.items (round_term.In (around.App c.in-App.f)) (term_of c.args.t.now) part c.in_ok-push-in-App.ensures.items (ap (canonically_moved c.args.swaps.now) all)

pub returns-in_ok-push-in-App-clause-less : goal.returns-in_ok-push-in-App-clause-less
returns-in_ok-push-in-App-clause-less c =
    let part = term_of c.deref-in-App.result.now in
    let all : term_of c.args.t.now ≡ app c.in-App.f part = ap term_of c.in-App.is ∙ ap (λ (u : Term). app c.in-App.f (term_of u)) (sym c.deref-in-App.ensures) in
    term_less c.args.frames.now.items c.push-in-App.new.self.items (round_term.In (around.App c.in-App.f)) (term_of c.args.t.now) part c.in_ok-push-in-App.ensures.items (app_less (term_of c.args.t.now) c.in-App.f part all)

pub returns-in_ok-push-in-Abs-clause-same : goal.returns-in_ok-push-in-Abs-clause-same
returns-in_ok-push-in-Abs-clause-same c =
    let part = term_of c.deref-in-Abs.result.now in
    let all : term_of c.args.t.now ≡ abs (record { sort = c.in-Abs.sort; num = c.in-Abs.num }) part = ap term_of c.in-Abs.is ∙ ap (λ (u : Term). abs (record { sort = c.in-Abs.sort; num = c.in-Abs.num }) (term_of u)) (sym c.deref-in-Abs.ensures) in
    term_enters (canonically_moved c.args.swaps.now) c.args.frames.now.items c.push-in-Abs.new.self.items (round_term.In (around.Abs c.image-binder.result)) (term_of c.args.t.now) part c.in_ok-push-in-Abs.ensures.items (ap (canonically_moved c.args.swaps.now) all ∙ ap (λ b. abs b (canonically_moved c.args.swaps.now part)) (sym c.image-binder.ensures))

pub returns-in_ok-push-in-Abs-clause-less : goal.returns-in_ok-push-in-Abs-clause-less
returns-in_ok-push-in-Abs-clause-less c =
    let part = term_of c.deref-in-Abs.result.now in
    let all : term_of c.args.t.now ≡ abs (record { sort = c.in-Abs.sort; num = c.in-Abs.num }) part = ap term_of c.in-Abs.is ∙ ap (λ (u : Term). abs (record { sort = c.in-Abs.sort; num = c.in-Abs.num }) (term_of u)) (sym c.deref-in-Abs.ensures) in
    term_less c.args.frames.now.items c.push-in-Abs.new.self.items (round_term.In (around.Abs c.image-binder.result)) (term_of c.args.t.now) part c.in_ok-push-in-Abs.ensures.items (abs_less (term_of c.args.t.now) (record { sort = c.in-Abs.sort; num = c.in-Abs.num }) part all)
