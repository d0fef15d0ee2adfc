use Rattle.ap_complete.proofs.CompletenessLemmas.{derivable_answered, whole_answers_all}
use Rattle.ap_complete.proofs.ExactLemmas.{instances_derivable}
use Rattle.ap_complete.proofs.completeness.derivable_is_answered.Goals as goal

pub returns-clause-to_a_depth : goal.returns-clause-to_a_depth
returns-clause-to_a_depth c = derivable_answered

pub returns-clause-whole : goal.returns-clause-whole
returns-clause-whole c = whole_answers_all

pub returns-clause-derivable : goal.returns-clause-derivable
returns-clause-derivable c = instances_derivable
