use Rattle.ap_defs.specs.Goals.{goal_of}
use Rattle.ap_checks.specs.Checks.{is_new}
use Rattle.ap_checker.specs.NewNames.{is_new_inside, mark_of_part, size_of_part}
use Rattle.ap_judge.specs.Scopes.{environment_of}
use Rattle.ap_judge.proofs.StackLemmas.{turn_keeps, turn_true}
use Rattle.ap_checker.proofs.new_names.is_new.Goals as goal

pub parts-preserved : goal.parts-preserved
parts-preserved c =
    let ds = c.args.answer.now.conds in
    let e = environment_of c.args.scope.now in
    let whole = is_new ds c.args.c (goal_of c.args.goal.now) e in
    record {
      all =
          turn_true mark_of_part (is_new_inside ds c.args.c e) size_of_part whole c.in-Some.next c.parts.parts.brought.items c.truncate.new.self.items c.look.new.parts.brought.items
          c.parts.parts.pending.items c.pop.new.self.items c.look.new.parts.pending.items c.parts.invariant.all c.parts.invariant.within c.in-Some.ensures.items c.truncate.ensures.items
          c.in_ok-look.field-0 c.if-not-branch.false c.in_ok-look.ensures;
      within =
          turn_keeps mark_of_part (is_new_inside ds c.args.c e) size_of_part whole c.in-Some.next c.parts.parts.brought.items c.truncate.new.self.items c.look.new.parts.brought.items
          c.parts.parts.pending.items c.pop.new.self.items c.look.new.parts.pending.items c.parts.invariant.all c.parts.invariant.within c.in-Some.ensures.items c.truncate.ensures.items
          c.in_ok-look.field-0 c.if-not-branch.false c.in_ok-look.ensures;
    }
