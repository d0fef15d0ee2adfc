use Rattle.std.proofs.Common.{map}
use Rattle.ap_defs.specs.Terms.{term_of}
use Rattle.ap_defs.specs.Types.{constructor_of, locals_of}
use Rattle.ap_defs.specs.Goals.{goal_of}
use Rattle.ap_restrict.proofs.HeadLemmas.{head_test}
use Rattle.ap_restrict.proofs.heads.is_fresh_for_head.Goals as goal

pub returns-in_ok-fresh-in-Some : goal.returns-in_ok-fresh-in-Some
returns-in_ok-fresh-in-Some c =
    head_test (map constructor_of c.args.setting.now.sig.now.constructors) (map term_of c.args.head.now.args.now) (goal_of c.args.head.now.body.now)
    (locals_of c.args.head.now.locals.now) c.args.a c.args.facts.now.keys c.in-Some.table.now c.in_ok-fresh-in-Some.fresh c.requires.facts c.in-Some.ensures c.in_ok-fresh-in-Some.ensures

pub returns-in_ok-fresh-in-None : goal.returns-in_ok-fresh-in-None
returns-in_ok-fresh-in-None c =
    head_test (map constructor_of c.args.setting.now.sig.now.constructors) (map term_of c.args.head.now.args.now) (goal_of c.args.head.now.body.now)
    (locals_of c.args.head.now.locals.now) c.args.a c.args.facts.now.keys c.in_ok-table-in-None.table c.in_ok-fresh-in-None.fresh c.requires.facts
    c.in_ok-table-in-None.ensures c.in_ok-fresh-in-None.ensures
