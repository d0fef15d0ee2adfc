use Rattle.ap_defs.specs.Derivations.{derivation_of, path}
use Rattle.ap_cover.specs.Waiting.{paths_waiting}
use Rattle.ap_cover.proofs.PathLemmas.{chosen_then}
use Rattle.ap_cover.proofs.path.choose_then.Goals as goal

pub returns-clause-path : goal.returns-clause-path
returns-clause-path c =
    chosen_then c.wait_for.result _ _ _ (path (derivation_of c.args.below.now)) (paths_waiting c.args.waiting.now.items) c.args.choice c.in_ok-push.ensures.items c.wait_for.ensures.path
