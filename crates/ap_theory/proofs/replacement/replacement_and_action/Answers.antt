use Rattle.ap_theory.proofs.ReplacementLemmas.{act_grounded, act_name_replaced, replace_names_fixed}
use Rattle.ap_theory.proofs.replacement.replacement_and_action.Goals as goal

pub returns-clause-permutations : goal.returns-clause-permutations
returns-clause-permutations c = act_name_replaced

pub returns-clause-groundings : goal.returns-clause-groundings
returns-clause-groundings c = act_grounded

pub returns-clause-fixed : goal.returns-clause-fixed
returns-clause-fixed c = replace_names_fixed
