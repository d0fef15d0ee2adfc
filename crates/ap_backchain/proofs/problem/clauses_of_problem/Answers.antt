use Rattle.ap_defs.specs.Goals.{program_of}
use Rattle.ap_search.proofs.TypedBelowLemmas.{bounded_short, typed_fits}
use Rattle.ap_backchain.proofs.problem.clauses_of_problem.Goals as goal

pub returns-clause-typed : goal.returns-clause-typed
returns-clause-typed c = c.predicates.ensures.restricted.typed

pub returns-clause-below : goal.returns-clause-below
returns-clause-below c =
    let restricted = c.predicates.ensures.restricted in
    rw c.predicates.ensures.clauses
    (typed_fits (program_of c.args.p.now.program.now) restricted.typed, bounded_short (program_of c.args.p.now.program.now) restricted.bounded)
