use Rattle.ap_theory.proofs.CollectionLemmas.{collected_again, collected_both}
use Rattle.ap_theory.proofs.conditions.early_reduction.Goals as goal

pub returns-clause-suffices : goal.returns-clause-suffices
returns-clause-suffices c = collected_again

pub returns-clause-parts : goal.returns-clause-parts
returns-clause-parts c = collected_both
