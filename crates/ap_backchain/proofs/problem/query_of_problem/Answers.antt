use Rattle.std.proofs.Common.{◌≡◌, ◌-◌, ◌<◌, List, length, get_or, map, ap, ◌∙◌, arith}
use Rattle.std.proofs.lemmas.List.{length-map}
use Rattle.ap_defs.specs.Goals.{program_of, query_of}
use Rattle.ap_defs.specs.Types.{signature_of}
use Rattle.ap_defs.specs.declared.goals.Program.{Program}
use Rattle.ap_defs.specs.declared.goals.Query.{Query}
use Rattle.ap_defs.specs.declared.terms.Term.{Term}
use Rattle.ap_search.proofs.TypedBelowLemmas.{typed_query_below}
use Rattle.ap_turns.proofs.MachineStepLemmas.{typed_query_here}
use Rattle.ap_backchain.proofs.problem.query_of_problem.Goals as goal

pub returns-clause-typed : goal.returns-clause-typed
returns-clause-typed c =
    let qs = c.args.p.now.program.now.queries in
    let found = c.index-queries-p.result in
    let same : c.items-queries.result.now ≡ qs = c.items-queries.ensures ∙ ap (λ (p : Program Term). p.queries) c.program.ensures.same in
    let count : length (map query_of qs) ≡ length qs = length-map qs query_of in
    let here : c.args.p.now.query - 1 < length qs = omega (arith, count, c.requires.0, c.requires.1) in
    let is : found ≡ get_or qs (c.args.p.now.query - 1) found = c.index-queries-p.is ∙ ap (λ (us : List (Query Term)). get_or us (c.args.p.now.query - 1) found) same in
    typed_query_here (signature_of c.args.p.now.program.now.signature) qs (c.args.p.now.query - 1) found here is c.program.ensures.restricted.typed.1

pub returns-clause-below : goal.returns-clause-below
returns-clause-below c = typed_query_below (program_of c.args.p.now.program.now) (query_of c.index-queries-p.result) (returns-clause-typed c)
