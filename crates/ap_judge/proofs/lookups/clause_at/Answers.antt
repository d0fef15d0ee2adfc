use Rattle.std.proofs.Common.{sym, ap, ◌∙◌, arith}
use Rattle.ap_defs.specs.Goals.{clauses_of, program_in}
use Rattle.ap_defs.specs.GroundProofs.{clause_at}
use Rattle.ap_judge.proofs.ClauseLemmas.{clause_there, clause_zero, no_clause, no_predicate}
use Rattle.ap_judge.proofs.lookups.clause_at.Goals as goal

pub returns-then-place-clauses : goal.returns-then-place-clauses
returns-then-place-clauses c =
    ap (λ css. clause_at (clauses_of (program_in css) c.args.pred) c.args.number) (sym c.items-clauses.ensures)
    ∙ no_predicate c.items-clauses.result.now c.args.pred c.args.number (omega arith)

pub returns-then-number-clauses : goal.returns-then-number-clauses
returns-then-number-clauses c =
    ap (λ css. clause_at (clauses_of (program_in css) c.args.pred) c.args.number) (sym c.items-clauses.ensures)
    ∙ no_clause c.items-clauses.result.now c.args.pred c.items-clauses-2.result.now c.index-clauses-place.result (omega arith) (c.items-clauses-2.ensures ∙ c.index-clauses-place.is) c.args.number (omega arith)

pub returns : goal.returns
returns c =
    ap (λ css. clause_at (clauses_of (program_in css) c.args.pred) c.args.number) (sym c.items-clauses.ensures)
    ∙ clause_there c.items-clauses.result.now c.args.pred c.items-clauses-2.result.now c.index-clauses-place.result (omega arith) (c.items-clauses-2.ensures ∙ c.index-clauses-place.is) c.args.number c.index-clauses-number.result (omega arith) (omega arith) c.index-clauses-number.is

pub returns-then-number-eq0 : goal.returns-then-number-eq0
returns-then-number-eq0 c = let cs = clauses_of (program_in c.args.program.now.clauses) c.args.pred in ap (clause_at cs) c.if-number-eq0.true ∙ clause_zero cs
