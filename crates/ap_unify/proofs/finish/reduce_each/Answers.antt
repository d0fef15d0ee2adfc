use Rattle.std.proofs.Common.{◌≡◌, ◌<◌, ◌+◌, ◌-◌, length, sym, ap, ◌∙◌, arith}
use Rattle.ap_fresh.specs.Reduction.{added}
use Rattle.ap_store.specs.Views.{bindings_of}
use Rattle.ap_unify.proofs.ReducingLemmas.{reduced_more, reduced_none}
use Rattle.ap_unify.proofs.finish.reduce_each.Goals as goal
use Rattle.ap_theory.specs.StatementsOnConditions.{collected}
use Rattle.ap_unify.specs.Finishing.{reduced, some_if}
use Rattle.ap_rules.specs.Work.{problem_for}

pub returns-then-not-branch : goal.returns-then-not-branch
returns-then-not-branch c =
    let s = (bindings_of c.args.store.now) in
    let e : c.reducing.i ≡ c.reducing.i - 1 + 1 = omega arith in
    let l : c.reducing.i - 1 < length c.args.problems.now = omega arith in
    reduced_none problem_for s c.args.problems.now c.args.conds.now.items c.reducing.conds.items c.reducing.i (c.reducing.i - 1) c.index-problems-i.result e l
    (ap (λ p. added (reduced s (problem_for p)) c.reducing.conds.items) (sym c.index-problems-i.is) ∙ c.in_ok-reduce_one.ensures ∙ ap (λ v. collected (some_if v c.reduce_one.new.conds.items)) c.if-not-branch.true)

pub reducing-preserved : goal.reducing-preserved
reducing-preserved c =
    let s = (bindings_of c.args.store.now) in
    let e : c.reducing.i ≡ c.reducing.i - 1 + 1 = omega arith in
    let l : c.reducing.i - 1 < length c.args.problems.now = omega arith in
    reduced_more problem_for s c.args.problems.now c.args.conds.now.items c.reducing.conds.items c.reducing.i (c.reducing.i - 1) c.index-problems-i.result e l c.reduce_one.new.conds.items c.reducing.invariant
    (ap (λ p. added (reduced s (problem_for p)) c.reducing.conds.items) (sym c.index-problems-i.is) ∙ c.in_ok-reduce_one.ensures ∙ ap (λ v. collected (some_if v c.reduce_one.new.conds.items)) c.if-not-branch.false)
