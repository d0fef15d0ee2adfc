use Rattle.std.proofs.Common.{refl, ap}
use Rattle.std.specs.Prelude.{not}
use Rattle.ap_restrict.proofs.KindLemmas.{kind_there}
use Rattle.ap_restrict.proofs.heads.is_barred.Goals as goal

pub returns-in-Name : goal.returns-in-Name
returns-in-Name c = rw (kind_there c.args.locals.now c.args.x.num c.index-locals-place.result c.if-place-locals.false, c.in-Name.is) refl

pub returns-in_ok-holds-in-Var : goal.returns-in_ok-holds-in-Var
returns-in_ok-holds-in-Var c = rw (kind_there c.args.locals.now c.args.x.num c.index-locals-place.result c.if-place-locals.false, c.in-Var.is) (ap not c.in_ok-holds-in-Var.ensures)
