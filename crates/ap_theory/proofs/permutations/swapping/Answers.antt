use Rattle.ap_theory.proofs.PermutationLemmas.{swap_flip, swap_none, swap_swap}
use Rattle.ap_theory.proofs.permutations.swapping.Goals as goal

pub returns-clause-undoes : goal.returns-clause-undoes
returns-clause-undoes c = swap_swap

pub returns-clause-flips : goal.returns-clause-flips
returns-clause-flips c = swap_flip

pub returns-clause-one : goal.returns-clause-one
returns-clause-one c = swap_none
