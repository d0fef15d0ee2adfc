use Rattle.ap_theory.proofs.DisagreementLemmas.{act_unnamed}
use Rattle.ap_theory.proofs.PermutationLemmas.{act_injective, act_inverse, act_sort, inverse_act, inverse_same}
use Rattle.ap_theory.proofs.permutations.bijection.Goals as goal

pub returns-clause-injective : goal.returns-clause-injective
returns-clause-injective c = act_injective

pub returns-clause-sorts : goal.returns-clause-sorts
returns-clause-sorts c = act_sort

pub returns-clause-undoes : goal.returns-clause-undoes
returns-clause-undoes c = inverse_act

pub returns-clause-undone : goal.returns-clause-undone
returns-clause-undone c = act_inverse

pub returns-clause-inverses : goal.returns-clause-inverses
returns-clause-inverses c = inverse_same

pub returns-clause-fixed : goal.returns-clause-fixed
returns-clause-fixed c = act_unnamed
