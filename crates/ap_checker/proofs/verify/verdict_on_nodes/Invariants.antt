-- So many nodes were looked at, and the first refusal of the others is that of the whole.
use Rattle.ap_shared.specs.SharedViews.{shared_answer, shared_derivation, shared_terms}
use Rattle.ap_defs.specs.Goals.{program_of, query_of}
use Rattle.ap_checker.specs.Tables.{IsWalkIn}
use Rattle.ap_judge.specs.Typings.{AreTypesKnown}
use Rattle.ap_checker.specs.Walks.{IsOnWay, pending_of, nodes_left, refusal_on}
use Rattle.ap_checker.proofs.verify.verdict_on_nodes.Given as goal

abbrev pub invariant-nodes : goal.invariant-nodes
invariant-nodes l = record {
  way : IsOnWay (program_of l.program) (shared_answer (shared_terms l.terms) l.indexed) (refusal_on (program_of l.program) (query_of l.query) (shared_answer (shared_terms l.terms) l.indexed) (shared_derivation (shared_terms l.terms) l.derivation)) l.node l.walk;
  of : IsWalkIn l.terms l.walk;
  typed : AreTypesKnown l.terms l.program.signature.constructors l.indexed.vars l.typed;
}

abbrev pub decreases-nodes : goal.decreases-nodes
decreases-nodes l = nodes_left (pending_of l.walk)
