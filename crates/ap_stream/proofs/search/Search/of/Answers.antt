use Rattle.std.proofs.Common.{◌≡◌, ◌-◌, map, ap, ◌∙◌, subst}
use Rattle.std.specs.Prelude.{slice_get}
use Rattle.ap_defs.specs.Answers.{query_outs}
use Rattle.ap_defs.specs.Goals.{NominalQuery, program_in, query_of}
use Rattle.ap_defs.specs.Types.{locals_of}
use Rattle.ap_backchain.specs.Ends.{without_path}
use Rattle.ap_backchain.specs.Problems.{clauses_in, program_of_problem, queries_in}
use Rattle.ap_backchain.specs.Starts.{first_position}
use Rattle.ap_defs.specs.Lines.{query_lines}
use Rattle.ap_machine.specs.Asking.{answer_alone}
use Rattle.ap_machine.specs.Positions.{outs_from}
use Rattle.ap_program.specs.Typed.{IsTypedQuery, term_form}
use Rattle.ap_paths.specs.Limits.{part}
use Rattle.ap_stream.proofs.BeginningLemmas.{all_come, come_by}
use Rattle.ap_stream.proofs.RunLemmas.{asked_once}
use Rattle.ap_stream.proofs.ShownLemmas.{shown_suffices}
use Rattle.ap_stream.specs.Shown.{shown_locals}
use Rattle.ap_stream.proofs.search.Search.of.Goals as goal

pub returns-clause-outs : goal.returns-clause-outs
returns-clause-outs c = λ q asked.
    let p = c.args.p.now in
    let query = query_of c.query_of_problem-query.result.now in
    let same : query ≡ q = asked_once (slice_get (queries_in p) (p.query - 1)) query q c.query_of_problem-query.ensures.query asked in
    all_come p query c.args.limit (program_in c.clauses_of_problem-clauses.result.now) c.in_ok-machine.machine c.new.result
    c.clauses_of_problem-clauses.ensures.clauses c.in_ok-machine.ensures c.new.ensures.items (locals_of c.items.result.now) (ap locals_of c.items.ensures)
    c.clauses_of_problem-clauses.ensures.typed c.query_of_problem-query.ensures.typed
    ∙ ap (λ (x : NominalQuery). map without_path (part c.args.limit (query_outs (clauses_in p) p.depth x))) same

pub returns-clause-lines : goal.returns-clause-lines
returns-clause-lines c = λ q k asked.
    let p = c.args.p.now in
    let query = query_of c.query_of_problem-query.result.now in
    let same : query ≡ q = asked_once (slice_get (queries_in p) (p.query - 1)) query q c.query_of_problem-query.ensures.query asked in
    let typed = c.clauses_of_problem-clauses.ensures.typed in
    ap (query_lines (program_of_problem p) k (shown_locals q.locals))
    (come_by p query c.args.limit (program_in c.clauses_of_problem-clauses.result.now) c.in_ok-machine.machine c.new.result
    c.clauses_of_problem-clauses.ensures.clauses c.in_ok-machine.ensures c.new.ensures.items (answer_alone (shown_locals q.locals))
    ∙ ap (λ (x : NominalQuery). map without_path (part c.args.limit (outs_from (clauses_in p) (answer_alone (shown_locals q.locals)) (first_position p.depth x)))) same)
    ∙ shown_suffices (program_of_problem p) typed p.depth q (subst (λ (x : NominalQuery). IsTypedQuery term_form (program_of_problem p).signature x) same c.query_of_problem-query.ensures.typed) c.args.limit k
