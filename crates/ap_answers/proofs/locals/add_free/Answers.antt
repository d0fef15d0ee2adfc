use Rattle.std.proofs.Common.{sym}
use Rattle.ap_defs.specs.Types.{kind_of}
use Rattle.ap_answers.proofs.LocalLemmas.{free_added, free_below, none_below}
use Rattle.ap_answers.proofs.locals.add_free.Goals as goal

pub returns-in_ok-add_name-clause-names : goal.returns-in_ok-add_name-clause-names
returns-in_ok-add_name-clause-names c =
    free_added c.args.local.now.bound (kind_of c.args.local.now.kind) c.args.num c.in-Some.sort c.args.names.now.keys c.add_name.new.names.keys c.requires (sym c.in-Some.ensures) c.in_ok-add_name.ensures

pub returns-in_ok-add_name-clause-below : goal.returns-in_ok-add_name-clause-below
returns-in_ok-add_name-clause-below c = free_below c.args.num c.in-Some.sort c.args.names.now.keys c.add_name.new.names.keys c.requires c.in_ok-add_name.ensures

pub returns-in_default-clause-below : goal.returns-in_default-clause-below
returns-in_default-clause-below c = none_below c.args.num c.args.names.now.keys c.requires
