use Rattle.std.proofs.Common.{[], map, sym, ap, ◌∙◌}
use Rattle.ap_defs.specs.Unification.{ending, finish, solved}
use Rattle.ap_store.specs.Views.{bindings_of, present}
use Rattle.ap_unify.proofs.SolutionLemmas.{collected_on_unbound, first_kept, is_no_result, is_result, last_of_work}
use Rattle.ap_unify.proofs.WellLemmas.{well}
use Rattle.ap_rules.proofs.WorkLemmas.{if_ok}
use Rattle.ap_unify.proofs.unify.unify_forward.Goals as goal
use Rattle.ap_unify.specs.Finishing.{EndsAs}
use Rattle.ap_unify.specs.Lists.{renamed_terms_in}
use Rattle.ap_rules.specs.Runs.{paired, stage_under}
use Rattle.ap_rules.specs.Work.{AreKept, ending_if, problem_for, problems_met, work_stage}

pub returns-then-not-branch-clause-defined : goal.returns-then-not-branch-clause-defined
returns-then-not-branch-clause-defined c =
    let a = present c.args.store.now in
    let ts = renamed_terms_in c.args.left in
    let us = renamed_terms_in c.args.right in
    let last = work_stage (bindings_of c.run_places.new.store) c.run_places.new.work in
    is_no_result a a ts us [] [] (well c.args.store.now) (well c.args.store.now) (present c.run_places.new.store)
    (λ ds. ap (λ ps. finish ds (ending (stage_under a.bindings (paired ts us) (map problem_for ps)))) (sym c.clear.ensures.1)
    ∙ c.in_ok-run_places.ensures.ending ds ∙ ap (λ v. finish ds (ending_if v last)) c.if-not-branch.true)

pub finish-requires : goal.finish-requires
finish-requires c = λ cs e.
    let a = present c.args.store.now in
    let b = present c.run_places.new.store in
    let ts = renamed_terms_in c.args.left in
    let us = renamed_terms_in c.args.right in
    let v = c.run_places.new.work in
    let run : EndsAs (stage_under a.bindings (paired ts us) []) (solved (stage_under b.bindings [] (problems_met v))) =
    λ ds. ap (λ ps. finish ds (ending (stage_under a.bindings (paired ts us) (map problem_for ps)))) (sym c.clear.ensures.1) ∙ c.in_ok-run_places.ensures.ending ds
    ∙ ap (λ x. finish ds (ending_if x (work_stage b.bindings v))) c.if-not-branch.false
    ∙ ap (λ x. finish ds (solved x)) (last_of_work b.bindings v (c.in_ok-run_places.ensures.left c.if-not-branch.false)) in
    let kept : AreKept a.conditions b.conditions v.taken.items = c.in_ok-run_places.ensures.goes_on.conditions a.conditions (first_kept a c.clear.new.self c.clear.ensures.2) in
    collected_on_unbound a b ts us (problems_met v) v.taken.items (well c.args.store.now) (well c.run_places.new.store) run kept (sym c.in_ok-run_places.ensures.goes_on.next) c.requires.left_made c.requires.right_made cs e

pub returns-clause-defined : goal.returns-clause-defined
returns-clause-defined c =
    let a = present c.args.store.now in
    let b = present c.run_places.new.store in
    let ts = renamed_terms_in c.args.left in
    let us = renamed_terms_in c.args.right in
    let v = c.run_places.new.work in
    let run : EndsAs (stage_under a.bindings (paired ts us) []) (solved (stage_under b.bindings [] (problems_met v))) =
    λ ds. ap (λ ps. finish ds (ending (stage_under a.bindings (paired ts us) (map problem_for ps)))) (sym c.clear.ensures.1) ∙ c.in_ok-run_places.ensures.ending ds
    ∙ ap (λ x. finish ds (ending_if x (work_stage b.bindings v))) c.if-not-branch.false
    ∙ ap (λ x. finish ds (solved x)) (last_of_work b.bindings v (c.in_ok-run_places.ensures.left c.if-not-branch.false)) in
    let kept : AreKept a.conditions b.conditions v.taken.items = c.in_ok-run_places.ensures.goes_on.conditions a.conditions (first_kept a c.clear.new.self c.clear.ensures.2) in
    if_ok c.finish.result
    (λ fine e. is_result a b ts us (problems_met v) v.taken.items (well c.args.store.now) (well c.run_places.new.store) run kept (present c.finish.new.store) fine e c.finish.ensures.bindings (c.finish.ensures.next ∙ c.in_ok-run_places.ensures.goes_on.next))
    c.finish.ensures.conditions
