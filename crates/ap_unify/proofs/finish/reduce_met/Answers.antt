use Rattle.std.proofs.Common.{map, Some, sym, ap, ◌∙◌}
use Rattle.ap_defs.specs.Unification.{problem_of, reduce_all}
use Rattle.ap_fresh.specs.Reduction.{added}
use Rattle.ap_store.specs.Views.{bindings_of}
use Rattle.ap_unify.proofs.ReducingLemmas.{all_collected, conditions_refuted, problems_refuted}
use Rattle.ap_unify.proofs.finish.reduce_met.Goals as goal
use Rattle.ap_theory.specs.StatementsOnConditions.{collected}
use Rattle.ap_unify.specs.Finishing.{some_if}
use Rattle.ap_rules.specs.Work.{problem_for, problems_met}

pub returns-then-not-branch : goal.returns-then-not-branch
returns-then-not-branch c =
    let s = (bindings_of c.args.store.now) in
    problems_refuted s (map problem_of c.args.work.now.taken.items) (problems_met c.args.work.now) c.new-conds.result.items
    (ap (λ ps. added (reduce_all s (map problem_for ps)) c.new-conds.result.items) (sym c.deref.ensures.value)
    ∙ c.in_ok-reduce_each.ensures ∙ ap (λ v. collected (some_if v c.reduce_each.new.conds.items)) c.if-not-branch.true)

pub returns-then-not-branch-2 : goal.returns-then-not-branch-2
returns-then-not-branch-2 c =
    let s = (bindings_of c.args.store.now) in
    conditions_refuted s (map problem_of c.args.work.now.taken.items) (problems_met c.args.work.now) c.reduce_each.new.conds.items
    (ap (λ cs. added (reduce_all s (map problem_of cs)) c.reduce_each.new.conds.items) (sym c.deref-2.ensures.value)
    ∙ c.in_ok-reduce_taken.ensures ∙ ap (λ v. collected (some_if v c.reduce_taken.new.conds.items)) c.if-not-branch-2.true)

pub returns : goal.returns
returns c =
    let s = (bindings_of c.args.store.now) in
    all_collected s (map problem_of c.args.work.now.taken.items) (problems_met c.args.work.now) c.reduce_each.new.conds.items c.reduce_taken.new.conds.items
    (ap (λ ds. added (reduce_all s (problems_met c.args.work.now)) ds) (sym c.new-conds.ensures.items)
    ∙ ap (λ ps. added (reduce_all s (map problem_for ps)) c.new-conds.result.items) (sym c.deref.ensures.value)
    ∙ c.in_ok-reduce_each.ensures ∙ ap (λ v. collected (some_if v c.reduce_each.new.conds.items)) c.if-not-branch.false)
    (ap (λ cs. added (reduce_all s (map problem_of cs)) c.reduce_each.new.conds.items) (sym c.deref-2.ensures.value)
    ∙ c.in_ok-reduce_taken.ensures ∙ ap (λ v. collected (some_if v c.reduce_taken.new.conds.items)) c.if-not-branch-2.false)
    ∙ ap Some (sym c.make_set.ensures)
