use Rattle.std.proofs.Common.{ap}
use Rattle.ap_defs.specs.Types.{type_of}
use Rattle.ap_picks.proofs.opening.Source.open_type.Goals as goal

pub returns-in-Base : goal.returns-in-Base
returns-in-Base c = c.open_data.ensures c.args.self.now.first c.args.sorts.now.items c.args.ty (ap type_of c.in-Base.is)
