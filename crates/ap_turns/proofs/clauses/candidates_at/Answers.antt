use Rattle.std.proofs.Common.{ℕ, ◌<◌, ◌^◌, List, length, ap, ◌∙◌, sym, subst}
use Rattle.std.proofs.lemmas.List.{length-map}
use Rattle.ap_defs.specs.Goals.{NominalClause, clause_of, program_in}
use Rattle.ap_search.specs.FitStates.{AreFitClauses}
use Rattle.ap_turns.proofs.MachineStepLemmas.{each_below, few_clauses, some_is}
use Rattle.ap_turns.proofs.clauses.candidates_at.Goals as goal

pub returns-clause-below : goal.returns-clause-below
returns-clause-below c =
    some_is _ c.predicate_at.result c.predicate_at.ensures
    (λ p e. subst (λ (cs : List NominalClause). AreFitClauses cs) (sym e) (each_below (program_in c.args.clauses.now) c.args.pred c.requires.0))

pub returns-clause-few : goal.returns-clause-few
returns-clause-few c =
    some_is _ c.predicate_at.result c.predicate_at.ensures
    (λ p e. subst (λ (n : ℕ). n < 2 ^ 32) (sym (ap (λ (cs : List NominalClause). length cs) e) ∙ length-map p.now clause_of) (few_clauses (program_in c.args.clauses.now) c.args.pred c.requires.1))
