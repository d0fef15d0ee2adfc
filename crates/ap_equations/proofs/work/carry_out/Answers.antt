use Rattle.std.proofs.Common.{[], ◌∷◌, ◌++◌, map, subst, sym, ap, ◌∙◌}
use Rattle.ap_defs.specs.Unification.{apply_rule, fresh_for}
use Rattle.ap_store.specs.Views.{present}
use Rattle.ap_rules.proofs.WorkLemmas.{carried_names, go_same, pairs_below-append}
use Rattle.ap_equations.proofs.work.carry_out.Goals as goal
use Rattle.ap_rules.specs.Runs.{equation_under, problem_under}
use Rattle.ap_rules.specs.Work.{ArePairsBelow, IsMoveFit, equations_left, move_under, problems_met}

pub returns-in_ok-put_equation-in-One-clause-goes_on : goal.returns-in_ok-put_equation-in-One-clause-goes_on
returns-in_ok-put_equation-in-One-clause-goes_on c =
    let a = present c.args.store.now in
    let f = subst (IsMoveFit a.bindings a.next) c.in-One.is c.requires in
    go_same a c.args.work.now c.put_equation.new.work
    (λ h. subst (ArePairsBelow a.next) (sym c.in_ok-put_equation-in-One.ensures.equations) (pairs_below-append a.next c.args.work.now.equations.items (c.in-One.e ∷ []) h (f, tt)))
    c.put_equation.ensures.taken

pub returns-in_ok-put_equations-in-Two-clause-goes_on : goal.returns-in_ok-put_equations-in-Two-clause-goes_on
returns-in_ok-put_equations-in-Two-clause-goes_on c =
    let a = present c.args.store.now in
    let f = subst (IsMoveFit a.bindings a.next) c.in-Two.is c.requires in
    go_same a c.args.work.now c.put_equations.new.work
    (λ h. subst (ArePairsBelow a.next) (sym c.in_ok-put_equations-in-Two.ensures.equations) (pairs_below-append a.next c.args.work.now.equations.items (c.in-Two.second ∷ c.in-Two.first ∷ []) h (f.1, (f.0, tt))))
    c.put_equations.ensures.taken

pub returns-in_ok-put_exchanged-in-Swapped-clause-goes_on : goal.returns-in_ok-put_exchanged-in-Swapped-clause-goes_on
returns-in_ok-put_exchanged-in-Swapped-clause-goes_on c =
    let a = present c.args.store.now in
    let f = subst (IsMoveFit a.bindings a.next) c.in-Swapped.is c.requires in
    go_same a c.args.work.now c.put_exchanged.new.work
    (λ h. subst (ArePairsBelow a.next) (sym c.in_ok-put_exchanged-in-Swapped.ensures.equations) (pairs_below-append a.next c.args.work.now.equations.items (c.in-Swapped.e ∷ []) h (f, tt)))
    c.put_exchanged.ensures.taken

pub returns-in_ok-put_names-in-Differ-clause-stage : goal.returns-in_ok-put_names-in-Differ-clause-stage
returns-in_ok-put_names-in-Differ-clause-stage c =
    let a = present c.args.store.now in
    let w = c.args.work.now in
    let v = c.put_names.new.work in
    let u = subst (IsMoveFit a.bindings a.next) c.in-Differ.is c.requires in
    carried_names a.bindings w.equations.items v.equations.items w.problems.items v.problems.items c.in-Differ.x c.in-Differ.names.items u c.put_names.ensures.equations
    (c.in_ok-put_names-in-Differ.ensures.problems ∙ ap (λ as'. problems_met w ++ map (fresh_for c.in-Differ.x) as') c.deref.ensures.value)
    ∙ ap (λ m. apply_rule (move_under a.bindings m) (map (equation_under a.bindings) (equations_left w)) (map (problem_under a.bindings) (problems_met w)) a.bindings) (sym c.in-Differ.is)
