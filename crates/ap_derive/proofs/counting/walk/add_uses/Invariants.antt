use Rattle.std.proofs.Common.{◌≡◌}
use Rattle.ap_defs.specs.Goals.{goal_of, program_in}
use Rattle.ap_derive.specs.Tables.{counts_of, with_uses}
use Rattle.ap_derive.specs.Uses.{uses}
use Rattle.ap_derive.specs.Waiting.{bare_derivation, uses_of_all, weight_of_all}
use Rattle.ap_derive.proofs.counting.walk.add_uses.Given as goal

-- with the uses in what waits the table has all of them
abbrev pub invariant-walking : goal.invariant-walking
invariant-walking l =
    let program = program_in l.program in
    with_uses (uses_of_all program l.waiting.items) (counts_of l.table)
    ≡ with_uses (uses program (bare_derivation l.fn.derivation) (goal_of l.fn.goal)) (counts_of l.fn.table)

abbrev pub decreases-walking : goal.decreases-walking
decreases-walking l = weight_of_all l.waiting.items
