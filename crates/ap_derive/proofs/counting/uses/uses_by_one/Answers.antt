use Rattle.std.proofs.Common.{ap, map, ◌∙◌}
use Rattle.ap_defs.specs.Goals.{goal_of, program_in}
use Rattle.ap_shared.specs.SharedViews.{shared_derivation}
use Rattle.ap_derive.specs.Tables.{counts_of, with_uses}
use Rattle.ap_derive.specs.Uses.{uses_in_each}
use Rattle.ap_derive.proofs.UseLemmas.{table_from_none}
use Rattle.ap_derive.proofs.WaitingLemmas.{count_first, paths_left}
use Rattle.ap_derive.proofs.counting.uses.uses_by_one.Goals as goal

pub counting-init : goal.counting-init
counting-init g c =
    let program = program_in c.args.question.program.now in
    let us = uses_in_each program (goal_of c.args.question.goal.now) (map (g.D.Derive.at c.args.from.now) c.args.paths.now) in
    (ap (with_uses us) c.in_ok-table.ensures ∙ table_from_none program us, c.requires)

pub counting-preserved : goal.counting-preserved
counting-preserved g c =
    let program = program_in c.args.question.program.now in
    let rest = c.in-Some.ensures.cases.0 in (
      count_first program (goal_of c.args.question.goal.now) (g.D.Derive.at c.args.from.now) c.in-Some.path.now c.counting.rest.now c.in-Some.others.now
          (shared_derivation c.in_ok-derivation.ensures.0 c.in_ok-derivation.derivation) (counts_of c.counting.table) (counts_of c.add_uses.new.table) _ rest c.in_ok-derivation.ensures.1
          (c.in_ok-add_uses.ensures c.in_ok-derivation.ensures.0) c.counting.invariant.0,
      (paths_left (g.D.Derive.leads c.args.from.now) c.in-Some.path.now c.counting.rest.now c.in-Some.others.now rest c.counting.invariant.1).1,
    )
