use Rattle.ap_search.proofs.TypedBelowLemmas.{typed_fits, typed_query_below}
use Rattle.ap_search.proofs.types.typed_items_are_fit.Goals as goal

pub returns-clause-program : goal.returns-clause-program
returns-clause-program c = typed_fits

pub returns-clause-query : goal.returns-clause-query
returns-clause-query c = typed_query_below
