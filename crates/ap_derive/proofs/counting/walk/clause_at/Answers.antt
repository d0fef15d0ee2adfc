use Rattle.std.proofs.Common.{ap, arith, ◌∙◌}
use Rattle.ap_defs.specs.Goals.{clauses_of, program_in}
use Rattle.ap_defs.specs.GroundProofs.{clause_at}
use Rattle.ap_derive.proofs.TableLemmas.{clause_there, clause_zero, no_clause, no_predicate}
use Rattle.ap_derive.proofs.counting.walk.clause_at.Goals as goal

pub returns-then-place-program : goal.returns-then-place-program
returns-then-place-program c = no_predicate c.args.program.now c.args.pred c.args.number (omega arith)

pub returns-then-number-clauses : goal.returns-then-number-clauses
returns-then-number-clauses c =
    no_clause c.args.program.now c.args.pred c.items-clauses.result.now c.index-program-place.result (omega arith)
    (c.items-clauses.ensures ∙ c.index-program-place.is) c.args.number (omega arith)

pub returns : goal.returns
returns c =
    clause_there c.args.program.now c.args.pred c.items-clauses.result.now c.index-program-place.result (omega arith)
    (c.items-clauses.ensures ∙ c.index-program-place.is) c.args.number c.index-clauses-number.result (omega arith) (omega arith)
    c.index-clauses-number.is

pub returns-then-number-eq0 : goal.returns-then-number-eq0
returns-then-number-eq0 c =
    let cs = clauses_of (program_in c.args.program.now) c.args.pred in
    ap (clause_at cs) c.if-number-eq0.true ∙ clause_zero cs
