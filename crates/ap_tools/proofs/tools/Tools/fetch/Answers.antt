use Rattle.std.proofs.Common.{arith}
use Rattle.ap_tools.specs.Owners.{owner_view}
use Rattle.ap_tools.proofs.Accounting.{popped_one}
use Rattle.ap_tools.proofs.tools.Tools.fetch.Goals as goal

pub returns-in-Some-clause-took : goal.returns-in-Some-clause-took
returns-in-Some-clause-took g c h =
    let popped = popped_one h (owner_view c.args.self.now.own) (owner_view c.pop.new.self) c.in-Some.path c.in-Some.ensures.popped in
    let less = popped.0 in
    let more = popped.1 in
    omega arith
