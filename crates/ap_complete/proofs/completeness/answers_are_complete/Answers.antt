use Rattle.ap_complete.proofs.CompletenessLemmas.{answers_complete, programs_complete}
use Rattle.ap_complete.proofs.KeptLemmas.{kept_complete}
use Rattle.ap_complete.proofs.completeness.answers_are_complete.Goals as goal

pub returns-clause-query : goal.returns-clause-query
returns-clause-query c = answers_complete

pub returns-clause-program : goal.returns-clause-program
returns-clause-program c = programs_complete

pub returns-clause-items : goal.returns-clause-items
returns-clause-items c = kept_complete
