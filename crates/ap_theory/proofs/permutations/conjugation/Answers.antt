use Rattle.ap_theory.proofs.PermutationLemmas.{act_swap}
use Rattle.ap_theory.proofs.permutations.conjugation.Goals as goal

pub returns : goal.returns
returns c = act_swap
