use Rattle.std.proofs.Common.{map, ap}
use Rattle.ap_defs.specs.RawTerms.{raw_of}
use Rattle.ap_defs.specs.Types.{constructor_of, locals_of}
use Rattle.ap_defs.specs.Goals.{query_over}
use Rattle.ap_program.specs.NameRestriction.{query}
use Rattle.ap_restrict.proofs.ItemLemmas.{fault_is}
use Rattle.ap_restrict.proofs.items.query_fault.Goals as goal

pub returns-in-Some : goal.returns-in-Some
returns-in-Some c =
    let cs = map constructor_of c.args.sig.now.constructors in
    let i = query (query_over raw_of c.args.query.now) in
    fault_is cs i c.in_ok-fault.field-0 c.in-Some.kind c.in-Some.x.num (locals_of c.items.result.now) (ap locals_of c.items.ensures) c.in_ok-fault.ensures.place c.in_ok-fault.ensures.kind c.in_ok-fault.ensures.name
    (c.in-Some.ensures cs)

pub returns : goal.returns
returns c = (c.in_default.ensures (map constructor_of c.args.sig.now.constructors), tt)
