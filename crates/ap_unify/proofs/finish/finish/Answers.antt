use Rattle.std.proofs.Common.{◌≡◌, ◌++◌, [], map, ap₂}
use Rattle.std.proofs.lemmas.List.{nil_from_length}
use Rattle.ap_defs.specs.Unification.{problem_of, reduce_all}
use Rattle.ap_store.specs.Views.{present}
use Rattle.ap_unify.proofs.finish.finish.Goals as goal
use Rattle.ap_unify.specs.Finishing.{with_kept}
use Rattle.ap_rules.specs.Work.{problem_for}

pub returns-then-is_settled-clause-conditions : goal.returns-then-is_settled-clause-conditions
returns-then-is_settled-clause-conditions c =
    let a = present c.args.store.now in
    let w = c.args.work.now in
    let n = c.is_settled.ensures c.if-is_settled.true in
    let t : w.taken.items ≡ [] = nil_from_length w.taken.items n.0 in
    let p : w.problems.items ≡ [] = nil_from_length w.problems.items n.1 in
    ap₂ (λ ts ps. with_kept a.conditions (reduce_all a.bindings (map problem_of ts ++ map problem_for ps))) t p
