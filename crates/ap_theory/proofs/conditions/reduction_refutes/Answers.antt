use Rattle.ap_theory.proofs.ReductionLemmas.{is_none_reduce, reduce_act, reduce_under}
use Rattle.ap_theory.proofs.conditions.reduction_refutes.Goals as goal

pub returns-clause-free : goal.returns-clause-free
returns-clause-free c = is_none_reduce

pub returns-clause-moves : goal.returns-clause-moves
returns-clause-moves c = reduce_act

pub returns-clause-bindings : goal.returns-clause-bindings
returns-clause-bindings c = reduce_under
