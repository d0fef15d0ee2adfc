use Rattle.ap_defs.specs.Goals.{program_of}
use Rattle.ap_covering.proofs.SearchedLemmas.{again}
use Rattle.ap_covering.proofs.searched.searched_for.Goals as goal

pub returns-then-last-query : goal.returns-then-last-query
returns-then-last-query g c = again (program_of c.args.program.now) c.args.depth c.args.query c.args.last c.if-last-query.true c.requires
