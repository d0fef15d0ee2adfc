use Rattle.std.proofs.Common.{◌≡◌, ◌-◌, ◌+◌, get_or, arith}
use Rattle.std.proofs.lemmas.List.{get_or_default}
use Rattle.ap_defs.specs.declared.terms.Cond.{Cond}
use Rattle.ap_answers.specs.VarSets.{vars_of_set}
use Rattle.ap_answers.proofs.ConditionLemmas.{kept_next, passed_next}
use Rattle.ap_answers.proofs.conditions.shown_conditions.Goals as goal

pub loop-left-preserved-in-Continue-1 : goal.loop-left-preserved-in-Continue-1
loop-left-preserved-in-Continue-1 c =
    let before : c.loop-left.left - 1 + 1 ≡ c.loop-left.left = omega arith in
    let d : Cond = get_or c.args.conds.now (c.loop-left.left - 1) (record { name = record { sort = 0; num = 0 }; var = record { num = 0 } }) in
    let next =
    kept_next c.args.names.now.keys (vars_of_set c.args.vars.now) c.args.conds.now d c.loop-left.left (c.loop-left.left - 1) c.in-Some.var c.in-Some.name c.loop-left.placed.entries c.keep.new.placed.entries
    before c.loop-left.invariant.within (get_or_default c.args.conds.now (c.loop-left.left - 1) _ _ (omega arith)) c.loop-left.invariant.kept c.loop-left.invariant.keyed
    c.in-Some.ensures c.in_ok-keep.ensures
    in
    record { kept = next.0; keyed = next.1; within = omega arith }

pub loop-left-preserved : goal.loop-left-preserved
loop-left-preserved c =
    let before : c.loop-left.left - 1 + 1 ≡ c.loop-left.left = omega arith in
    let d : Cond = get_or c.args.conds.now (c.loop-left.left - 1) (record { name = record { sort = 0; num = 0 }; var = record { num = 0 } }) in
    let next =
    passed_next c.args.names.now.keys (vars_of_set c.args.vars.now) c.args.conds.now d c.loop-left.left (c.loop-left.left - 1) c.loop-left.placed.entries
    before c.loop-left.invariant.within (get_or_default c.args.conds.now (c.loop-left.left - 1) _ _ (omega arith)) c.loop-left.invariant.kept c.loop-left.invariant.keyed
    c.in_default.ensures
    in
    record { kept = next.0; keyed = next.1; within = omega arith }
