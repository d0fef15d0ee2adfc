use Rattle.std.proofs.Common.{map, ap, subst}
use Rattle.ap_defs.specs.declared.faults.NameKind.TheVariants as kinds
use Rattle.ap_defs.specs.RawTerms.{raw_of}
use Rattle.ap_defs.specs.Types.{constructor_of, locals_of}
use Rattle.ap_defs.specs.Goals.{clause_over}
use Rattle.ap_program.specs.NameRestriction.{clause, head_name}
use Rattle.ap_defs.specs.Renaming.{local_names}
use Rattle.ap_program.specs.CarryingOut.{carried_out, map_clause}
use Rattle.ap_restrict.specs.Heads.{IsFirstUnfresh}
use Rattle.ap_restrict.proofs.ItemLemmas.{fault_is}
use Rattle.ap_restrict.proofs.items.clause_fault.Goals as goal

pub returns-in-Some : goal.returns-in-Some
returns-in-Some c =
    let cs = map constructor_of c.args.setting.now.sig.now.constructors in
    let i = clause (clause_over raw_of c.args.clause.now) in
    fault_is cs i c.in_ok-fault.field-0 c.in-Some.kind c.in-Some.x.num (locals_of c.items.result.now) (ap locals_of c.items.ensures) c.in_ok-fault.ensures.place c.in_ok-fault.ensures.kind c.in_ok-fault.ensures.name
    (c.in-Some.ensures cs)

pub returns-in_ok-fault-in-Some-2 : goal.returns-in_ok-fault-in-Some-2
returns-in_ok-fault-in-Some-2 c =
    let cs = map constructor_of c.args.setting.now.sig.now.constructors in
    let i = clause (clause_over raw_of c.args.clause.now) in
    fault_is cs i c.in_ok-fault-in-Some-2.field-0 kinds.HeadName c.in-Some-2.a.num (locals_of c.items.result.now) (ap locals_of c.items.ensures) c.in_ok-fault-in-Some-2.ensures.place c.in_ok-fault-in-Some-2.ensures.kind c.in_ok-fault-in-Some-2.ensures.name
    (head_name c.in-Some-2.a (c.in_default.ensures cs)
    (subst (IsFirstUnfresh cs (map_clause carried_out (clause_over raw_of c.args.clause.now)) (local_names 0 (locals_of c.args.clause.now.locals))) c.in-Some-2.is c.in_ok-a.ensures))

pub returns-in-None : goal.returns-in-None
returns-in-None c =
    let cs = map constructor_of c.args.setting.now.sig.now.constructors in
    (c.in_default.ensures cs, subst (IsFirstUnfresh cs (map_clause carried_out (clause_over raw_of c.args.clause.now)) (local_names 0 (locals_of c.args.clause.now.locals))) c.in-None.is c.in_ok-a.ensures)
