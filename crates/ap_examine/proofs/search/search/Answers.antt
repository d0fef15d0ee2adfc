use Rattle.std.proofs.Common.{◌∙◌, map, ap}
use Rattle.std.specs.Prelude.{slice_get}
use Rattle.ap_defs.specs.Answers.{query_outs}
use Rattle.ap_defs.specs.Goals.{NominalProgram, query_of}
use Rattle.ap_backchain.specs.Ends.{without_path}
use Rattle.ap_paths.specs.Limits.{part}
use Rattle.ap_examine.proofs.search.search.Goals as goal

pub returns-clause-outs : goal.returns-clause-outs
returns-clause-outs g c =
    let q = query_of c.args.query in
    let e = c.in_ok-asked.ensures.asked in
    c.in_ok-outs.ensures q (ap (λ (r : NominalProgram). slice_get r.queries 0) e) ∙ ap (λ (r : NominalProgram). map without_path (part c.args.limit (query_outs r.clauses c.args.depth q))) e
