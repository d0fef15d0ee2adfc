use Rattle.std.proofs.Common.{◌≡◌, ◌∷◌, ◌++◌, [], ap}
use Rattle.ap_tools.specs.declared.deques.hand.Hand.{Hand}
use Rattle.ap_paths.specs.Weights.{weigh}
use Rattle.ap_tools.specs.Owners.{owner_view}
use Rattle.ap_tools.proofs.Fresh.{held_pushed}
use Rattle.ap_tools.proofs.tools.Tools.put.Goals as goal

pub returns-in_default-clause-held : goal.returns-in_default-clause-held
returns-in_default-clause-held g c h =
    let t = c.args.self.now in
    let is : (owner_view c.push.new.self).pushed ≡ (owner_view t.own).pushed ++ c.args.path ∷ [] = ap (λ (v : Hand). v.pushed) c.in_default.ensures.pushed in
    held_pushed h (weigh h t.hand.items) (owner_view t.own).pushed (owner_view c.push.new.self).pushed c.args.path is
