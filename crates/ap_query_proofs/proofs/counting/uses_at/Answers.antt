use denote.Param.Send.{sendable}
use Rattle.std.proofs.Common.{◌-◌, List, map, ap, ◌∙◌}
use Rattle.std.proofs.lemmas.Result.{IfOk-weaker}
use Rattle.std.specs.Prelude.{slice_get}
use Rattle.ap_defs.specs.Goals.{program_in, query_of}
use Rattle.ap_defs.specs.declared.goals.Clause.{Clause}
use Rattle.ap_defs.specs.declared.goals.Program.{Program}
use Rattle.ap_defs.specs.declared.terms.Term.{Term}
use Rattle.ap_backchain.specs.Problems.{clauses_in, queries_in}
use Rattle.ap_derive.specs.Tables.{counts_of}
use Rattle.ap_query_proofs.specs.CountedPaths.{derivation_of_path}
use Rattle.ap_query_proofs.proofs.PathLemmas.{table_there}
use Rattle.ap_query_proofs.proofs.Shared.{answers_sync}
use Rattle.ap_query_proofs.proofs.counting.uses_at.Goals as goal

pub uses-requires-sync-D : goal.uses-requires-sync-D
uses-requires-sync-D g c κs within = search (sendable, answers_sync)

pub returns : goal.returns
returns g c =
    let p = c.args.p.now in
    IfOk-weaker c.uses.result _ _
    (λ t is q asked.
    table_there (counts_of t) (program_in c.items.result.now) (clauses_in p) (slice_get (queries_in p) (p.query - 1)) (query_of c.query_of_problem-query.result.now) q
    (map (derivation_of_path p) c.args.paths.now) (ap (λ (cs : List (List (Clause Term))). program_in cs) (c.items.ensures ∙ ap (λ (r : Program Term). r.clauses) c.program.ensures.same)) c.query_of_problem-query.ensures.query asked is)
    c.uses.ensures
