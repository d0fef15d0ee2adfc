use Rattle.ap_theory.proofs.PermutationLemmas.{act-append}
use Rattle.ap_theory.proofs.permutations.composition.Goals as goal

pub returns : goal.returns
returns c = act-append
