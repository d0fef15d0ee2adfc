use Rattle.std.proofs.Common.{subst, ◌+◌, ◌^◌, ◌≤◌, List, arith, length, map, sym}
use Rattle.ap_defs.specs.Goals.{goal_of}
use Rattle.ap_defs.specs.Renaming.{AreBelow, rename_term}
use Rattle.ap_defs.specs.Terms.{term_of}
use Rattle.ap_defs.specs.declared.terms.Term.{Term}
use Rattle.ap_program.proofs.RenamingLemmas.{are_below_more, are_renamed_below, goal_below_more, goal_renamed_below}
use Rattle.ap_values.proofs.renaming.rename.Goals as goal

pub rename_terms-requires : goal.rename_terms-requires
rename_terms-requires c =
    let n = c.args.n in
    let count = length c.args.clause.now.locals in
    let fits : n + count ≤ 2 ^ 64 = omega arith in
    subst (λ (ts : List Term). AreBelow (2 ^ 64) (map (rename_term n) (map term_of ts))) (sym c.items.ensures)
    (are_below_more (2 ^ 64) (n + count) fits _ (are_renamed_below n count (map term_of c.args.clause.now.args) c.requires.args))

pub rename_goal-requires : goal.rename_goal-requires
rename_goal-requires c =
    let n = c.args.n in
    let count = length c.args.clause.now.locals in
    let fits : n + count ≤ 2 ^ 64 = omega arith in
    goal_below_more (2 ^ 64) (n + count) fits _ (goal_renamed_below n count (goal_of c.args.clause.now.body) c.requires.body)
