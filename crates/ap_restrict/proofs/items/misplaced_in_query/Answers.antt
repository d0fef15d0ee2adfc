use Rattle.ap_defs.specs.RawTerms.{raw_of}
use Rattle.ap_defs.specs.Goals.{query_over}
use Rattle.ap_program.specs.NameRestriction.{query}
use Rattle.ap_restrict.proofs.ItemLemmas.{none_in_item}
use Rattle.ap_restrict.proofs.items.misplaced_in_query.Goals as goal

pub returns-in-None : goal.returns-in-None
returns-in-None c cs = none_in_item (query (query_over raw_of c.args.query.now)) c.in-None.ensures
