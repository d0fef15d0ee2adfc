use Rattle.std.proofs.Common.{◌≡◌, ◌<◌, ◌+◌, ◌-◌, length, ap, ◌∙◌, arith}
use Rattle.ap_defs.specs.Unification.{problem_of}
use Rattle.ap_store.specs.Views.{bindings_of}
use Rattle.ap_unify.proofs.ReducingLemmas.{reduced_more, reduced_none}
use Rattle.ap_unify.proofs.finish.reduce_taken.Goals as goal
use Rattle.ap_theory.specs.StatementsOnConditions.{collected}
use Rattle.ap_unify.specs.Finishing.{some_if}

pub returns-then-not-branch : goal.returns-then-not-branch
returns-then-not-branch c =
    let s = (bindings_of c.args.store.now) in
    let e : c.reducing.i ≡ c.reducing.i - 1 + 1 = omega arith in
    let l : c.reducing.i - 1 < length c.args.taken.now = omega arith in
    reduced_none problem_of s c.args.taken.now c.args.conds.now.items c.reducing.conds.items c.reducing.i (c.reducing.i - 1) _ e l
    (c.in_ok-reduce_var.ensures ∙ ap (λ v. collected (some_if v c.reduce_var.new.conds.items)) c.if-not-branch.true)

pub reducing-preserved : goal.reducing-preserved
reducing-preserved c =
    let s = (bindings_of c.args.store.now) in
    let e : c.reducing.i ≡ c.reducing.i - 1 + 1 = omega arith in
    let l : c.reducing.i - 1 < length c.args.taken.now = omega arith in
    reduced_more problem_of s c.args.taken.now c.args.conds.now.items c.reducing.conds.items c.reducing.i (c.reducing.i - 1) _ e l c.reduce_var.new.conds.items c.reducing.invariant
    (c.in_ok-reduce_var.ensures ∙ ap (λ v. collected (some_if v c.reduce_var.new.conds.items)) c.if-not-branch.false)
