use Rattle.std.proofs.Common.{◌≡◌, ◌<◌, ◌+◌, ◌*◌, sym, ap, ◌∙◌, subst, arith}
use Rattle.std.specs.Prelude.{IfOk}
use Rattle.ap_defs.specs.Canonical.{canonical_term}
use Rattle.ap_defs.specs.Substitution.{under}
use Rattle.ap_defs.specs.Renaming.{rename_term}
use Rattle.ap_defs.specs.Terms.{act_term, NominalTerm, unit, abs, app, pair, susp}
use Rattle.ap_defs.specs.Unification.{size}
use Rattle.ap_perm.specs.Closures.{closure_term, opened_term}
use Rattle.ap_store.proofs.WalkLemmas.{head_stays}
use Rattle.ap_store.specs.Heads.{IsHeadUnbound}
use Rattle.ap_store.specs.Views.{bindings_of, meaning_in}
use Rattle.ap_machine.proofs.ClosedLemmas.{abs_work, app_work, round_goes_in, work_goes_in}
use Rattle.ap_machine.specs.Closed.{closed_part, closed_within, part_work, rounds_work}
use Rattle.ap_machine.specs.declared.closing.Round.TheVariants as rounds
use Rattle.ap_machine.proofs.closing.go_in.Goals as goal

pub returns-in_ok-waiting-in-Susp-clause-same : goal.returns-in_ok-waiting-in-Susp-clause-same
returns-in_ok-waiting-in-Susp-clause-same c =
    let s = c.args.store.now in let bs = bindings_of s in
    let p = c.in-Susp.swaps.items in let x = c.in-Susp.x in
    let opened : closure_term c.in_ok-head.head ≡ susp p x = sym c.in_ok-open.ensures ∙ ap opened_term c.in-Susp.is in
    let waits : under bs (susp p x) ≡ susp p x = head_stays bs p x (subst (IsHeadUnbound bs) opened c.in_ok-head.ensures.head) in
    let all : meaning_in s c.args.c ≡ susp p x = sym c.in_ok-head.ensures.term ∙ ap (under bs) opened ∙ waits in
    ap (closed_within s c.args.rounds.now.items) (ap (λ q. susp q x) (c.in_ok-waiting-in-Susp.ensures ∙ c.in_ok-swaps-in-Susp.ensures) ∙ sym (ap canonical_term all))

pub returns-in_ok-waiting-in-Susp-clause-less : goal.returns-in_ok-waiting-in-Susp-clause-less
returns-in_ok-waiting-in-Susp-clause-less c =
    let s = c.args.store.now in let bs = bindings_of s in
    let p = c.in-Susp.swaps.items in let x = c.in-Susp.x in
    let opened : closure_term c.in_ok-head.head ≡ susp p x = sym c.in_ok-open.ensures ∙ ap opened_term c.in-Susp.is in
    let waits : under bs (susp p x) ≡ susp p x = head_stays bs p x (subst (IsHeadUnbound bs) opened c.in_ok-head.ensures.head) in
    let all : size (meaning_in s c.args.c) ≡ 1 = ap size (sym c.in_ok-head.ensures.term ∙ ap (under bs) opened ∙ waits) in
    omega (arith, all)

pub returns-in-Pair-clause-same : goal.returns-in-Pair-clause-same
returns-in-Pair-clause-same c =
    let s = c.args.store.now in
    let all : meaning_in s c.args.c ≡ pair (meaning_in s c.in-Pair.left) (meaning_in s c.in-Pair.right) =
    sym c.in_ok-head.ensures.term ∙ ap (under (bindings_of s)) (sym c.in_ok-open.ensures ∙ ap opened_term c.in-Pair.is) in
    subst (λ (u : NominalTerm). IfOk c.go_in_pair.result (λ p. closed_within s c.go_in_pair.new.rounds.items (closed_part s p) ≡ closed_within s c.args.rounds.now.items (canonical_term u)))
    (sym all) c.go_in_pair.ensures.same

pub returns-in-Pair-clause-less : goal.returns-in-Pair-clause-less
returns-in-Pair-clause-less c =
    let s = c.args.store.now in
    let all : meaning_in s c.args.c ≡ pair (meaning_in s c.in-Pair.left) (meaning_in s c.in-Pair.right) =
    sym c.in_ok-head.ensures.term ∙ ap (under (bindings_of s)) (sym c.in_ok-open.ensures ∙ ap opened_term c.in-Pair.is) in
    subst (λ (u : NominalTerm). IfOk c.go_in_pair.result (λ p. rounds_work s c.go_in_pair.new.rounds.items + part_work s p < rounds_work s c.args.rounds.now.items + 3 * size u))
    (sym all) c.go_in_pair.ensures.less

pub returns-in_ok-push-in-App-clause-same : goal.returns-in_ok-push-in-App-clause-same
returns-in_ok-push-in-App-clause-same c =
    let s = c.args.store.now in
    let all : meaning_in s c.args.c ≡ app c.in-App.f (meaning_in s c.in-App.argument) =
    sym c.in_ok-head.ensures.term ∙ ap (under (bindings_of s)) (sym c.in_ok-open.ensures ∙ ap opened_term c.in-App.is) in
    round_goes_in s c.args.rounds.now.items c.push.new.self.items (rounds.App c.in-App.f) (canonical_term (meaning_in s c.args.c)) (canonical_term (meaning_in s c.in-App.argument))
    c.in_ok-push-in-App.ensures.items (ap canonical_term all)

pub returns-in_ok-push-in-App-clause-less : goal.returns-in_ok-push-in-App-clause-less
returns-in_ok-push-in-App-clause-less c =
    let s = c.args.store.now in
    let all : meaning_in s c.args.c ≡ app c.in-App.f (meaning_in s c.in-App.argument) =
    sym c.in_ok-head.ensures.term ∙ ap (under (bindings_of s)) (sym c.in_ok-open.ensures ∙ ap opened_term c.in-App.is) in
    work_goes_in s c.args.rounds.now.items c.push.new.self.items (rounds.App c.in-App.f) (3 * size (meaning_in s c.in-App.argument)) (3 * size (meaning_in s c.args.c))
    c.in_ok-push-in-App.ensures.items (app_work (meaning_in s c.args.c) c.in-App.f (meaning_in s c.in-App.argument) all)

pub returns-in_ok-push-in-Abs-clause-same : goal.returns-in_ok-push-in-Abs-clause-same
returns-in_ok-push-in-Abs-clause-same c =
    let s = c.args.store.now in
    let all : meaning_in s c.args.c ≡ abs c.in-Abs.a (meaning_in s c.in-Abs.body) =
    sym c.in_ok-head.ensures.term ∙ ap (under (bindings_of s)) (sym c.in_ok-open.ensures ∙ ap opened_term c.in-Abs.is) in
    round_goes_in s c.args.rounds.now.items c.push-in-Abs.new.self.items (rounds.Abs c.in-Abs.a.sort c.in-Abs.a.num) (canonical_term (meaning_in s c.args.c)) (canonical_term (meaning_in s c.in-Abs.body))
    c.in_ok-push-in-Abs.ensures.items (ap canonical_term all)

pub returns-in_ok-push-in-Abs-clause-less : goal.returns-in_ok-push-in-Abs-clause-less
returns-in_ok-push-in-Abs-clause-less c =
    let s = c.args.store.now in
    let all : meaning_in s c.args.c ≡ abs c.in-Abs.a (meaning_in s c.in-Abs.body) =
    sym c.in_ok-head.ensures.term ∙ ap (under (bindings_of s)) (sym c.in_ok-open.ensures ∙ ap opened_term c.in-Abs.is) in
    work_goes_in s c.args.rounds.now.items c.push-in-Abs.new.self.items (rounds.Abs c.in-Abs.a.sort c.in-Abs.a.num) (3 * size (meaning_in s c.in-Abs.body)) (3 * size (meaning_in s c.args.c))
    c.in_ok-push-in-Abs.ensures.items (abs_work (meaning_in s c.args.c) c.in-Abs.a (meaning_in s c.in-Abs.body) all)

pub returns-then-is_unit-clause-same : goal.returns-then-is_unit-clause-same
returns-then-is_unit-clause-same c =
    let s = c.args.store.now in let bs = bindings_of s in let a = c.in-App.argument in
    let none : meaning_in s a ≡ unit = ap (λ (t : NominalTerm). under bs (act_term a.swaps.items (rename_term a.base t))) (c.is_unit.ensures c.if-is_unit.true) in
    let all : meaning_in s c.args.c ≡ app c.in-App.f unit =
    sym c.in_ok-head.ensures.term ∙ ap (under bs) (sym c.in_ok-open.ensures ∙ ap opened_term c.in-App.is) ∙ ap (λ t. app c.in-App.f t) none in
    ap (closed_within s c.args.rounds.now.items) (c.in_ok-made-in-App.ensures ∙ sym (ap canonical_term all))

pub returns-then-is_unit-clause-less : goal.returns-then-is_unit-clause-less
returns-then-is_unit-clause-less c =
    let s = c.args.store.now in let bs = bindings_of s in let a = c.in-App.argument in
    let none : meaning_in s a ≡ unit = ap (λ (t : NominalTerm). under bs (act_term a.swaps.items (rename_term a.base t))) (c.is_unit.ensures c.if-is_unit.true) in
    let all : size (meaning_in s c.args.c) ≡ 2 =
    ap size (sym c.in_ok-head.ensures.term ∙ ap (under bs) (sym c.in_ok-open.ensures ∙ ap opened_term c.in-App.is) ∙ ap (λ t. app c.in-App.f t) none) in
    omega (arith, all)
