use Rattle.ap_index.proofs.KeyLemmas.{clauses_here, clauses_past}
use Rattle.ap_index.proofs.predicate.predicate_at.Goals as goal

pub returns-then-pred-predicates : goal.returns-then-pred-predicates
returns-then-pred-predicates c = clauses_here c.args.predicates.now c.args.pred c.index-predicates-pred.result c.if-pred-predicates.true c.index-predicates-pred.is

pub returns-else-pred-predicates : goal.returns-else-pred-predicates
returns-else-pred-predicates c = clauses_past c.args.predicates.now c.args.pred c.if-pred-predicates.false
