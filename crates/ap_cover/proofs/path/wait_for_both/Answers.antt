use Rattle.ap_defs.specs.Derivations.{derivation_of, path, derivation_weight}
use Rattle.ap_cover.specs.Waiting.{paths_waiting, weight_waiting}
use Rattle.ap_cover.proofs.PathLemmas.{one_behind, one_heavier}
use Rattle.ap_cover.proofs.path.wait_for_both.Goals as goal

pub returns-clause-weight : goal.returns-clause-weight
returns-clause-weight c =
    one_heavier c.wait_for-2.result (derivation_weight (derivation_of c.args.left.now)) (derivation_weight (derivation_of c.args.right.now)) (weight_waiting c.args.waiting.now.items) _ _ c.in_ok-wait_for.ensures.weight
    c.wait_for-2.ensures.weight

pub returns-clause-path : goal.returns-clause-path
returns-clause-path c =
    one_behind c.wait_for-2.result (path (derivation_of c.args.left.now)) (path (derivation_of c.args.right.now)) (paths_waiting c.args.waiting.now.items) _ _ c.in_ok-wait_for.ensures.path
    c.wait_for-2.ensures.path
