use Rattle.std.proofs.Common.{ap, ◌∙◌}
use Rattle.ap_cover.specs.Waiting.{paths_waiting, weight_waiting}
use Rattle.ap_cover.specs.declared.path.Waiting.{Waiting}
use Rattle.ap_cover.proofs.PathLemmas.{last_path, last_weight}
use Rattle.ap_cover.proofs.path.wait_for.Goals as goal

pub returns-clause-weight : goal.returns-clause-weight
returns-clause-weight c =
    let w : Waiting = record { derivation = c.args.derivation } in
    ap weight_waiting c.in_ok-push.ensures.items ∙ last_weight c.args.waiting.now.items w

pub returns-clause-path : goal.returns-clause-path
returns-clause-path c =
    let w : Waiting = record { derivation = c.args.derivation } in
    ap paths_waiting c.in_ok-push.ensures.items ∙ last_path c.args.waiting.now.items w
