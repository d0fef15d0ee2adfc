use Rattle.std.proofs.Common.{◌≡◌, ◌-◌, [], ◌∷◌, map, ap, sym, subst}
use Rattle.std.specs.Prelude.{Some, slice_get}
use Rattle.std.proofs.lemmas.Result.{IfOk-weaker}
use Rattle.ap_defs.specs.Answers.{NominalAnswer, derivation_in, found, outs_at}
use Rattle.ap_defs.specs.Derivations.{NominalDerivation}
use Rattle.ap_defs.specs.Goals.{NominalQuery, program_in, program_of, query_of}
use Rattle.ap_search.proofs.TypedBelowLemmas.{bounded_short, typed_fits}
use Rattle.ap_machine.specs.Machines.{position_of}
use Rattle.ap_backchain.specs.Problems.{clauses_in, queries_in}
use Rattle.ap_checks.specs.Checks.{Checks}
use Rattle.ap_checks.specs.Traces.{Traced, traced_query}
use Rattle.ap_derive.specs.Derived.{derived}
use Rattle.ap_derive.specs.Nodes.{selected_node, nodes_before}
use Rattle.ap_derive.specs.Solved.{rest_of}
use Rattle.ap_derive.proofs.DerivedLemmas.{answer_derived, derived_checks, path_derived, path_nodes, path_solved, typed_at}
use Rattle.ap_derive.proofs.derivations.derive_along.Goals as goal

pub select_along-requires-clause-clauses : goal.select_along-requires-clause-clauses
select_along-requires-clause-clauses c =
    let restricted = c.predicates-clauses.ensures.restricted in
    rw c.predicates-clauses.ensures.clauses
    (typed_fits (program_of c.args.p.now.program.now) restricted.typed, bounded_short (program_of c.args.p.now.program.now) restricted.bounded)

pub select_along-requires-clause-solved : goal.select_along-requires-clause-solved
select_along-requires-clause-solved c =
    let p = c.args.p.now in
    let q = query_of c.query_of_problem-query.result.now in
    let l = c.requires.leads q c.query_of_problem-query.ensures.query in
    let same_program : program_in c.predicates-clauses.result.now ≡ clauses_in p = ap program_in (c.predicates-clauses.ensures.clauses) in
    (_, path_solved (clauses_in p) p.depth q c.args.path.now l (program_in c.predicates-clauses.result.now) (position_of c.in_ok-machine.machine) same_program c.in_ok-machine.ensures)

pub assemble-requires : goal.assemble-requires
assemble-requires c =
    let p = c.args.p.now in
    let q = query_of c.query_of_problem-query.result.now in
    let l = c.requires.leads q c.query_of_problem-query.ensures.query in
    let same_program : program_in c.predicates-clauses.result.now ≡ clauses_in p = ap program_in (c.predicates-clauses.ensures.clauses) in
    let to = position_of c.select_along.new.machine in (
      l.traced.derivation,
      path_nodes (clauses_in p) p.depth q c.args.path.now l (program_in c.predicates-clauses.result.now) (position_of c.in_ok-machine.machine) same_program c.in_ok-machine.ensures
          to.state (map selected_node c.in_ok-nodes.nodes.items) (rest_of c.args.path.now to) c.in_ok-nodes.ensures,
    )

pub returns-clause-derivation : goal.returns-clause-derivation
returns-clause-derivation c =
    let p = c.args.p.now in
    let asked = c.query_of_problem-query.ensures.query in
    let same_program : program_in c.predicates-clauses.result.now ≡ clauses_in p = ap program_in (c.predicates-clauses.ensures.clauses) in
    let to = position_of c.select_along.new.machine in
    IfOk-weaker c.assemble.result (λ d. (e : NominalDerivation) → map selected_node c.in_ok-nodes.nodes.items ≡ nodes_before e [] → derived d ≡ derivation_in to.state e)
    (λ d. (q : NominalQuery) (r : Traced) → slice_get (queries_in p) (p.query - 1) ≡ Some q → traced_query (clauses_in p) p.depth q c.args.path.now ≡ Some r
    → derived d ≡ derivation_in r.state r.derivation)
    (λ d h. path_derived p c.args.path.now (query_of c.query_of_problem-query.result.now) asked (c.requires.leads (query_of c.query_of_problem-query.result.now) asked)
    (program_in c.predicates-clauses.result.now) (position_of c.in_ok-machine.machine) same_program c.in_ok-machine.ensures
    to.state (map selected_node c.in_ok-nodes.nodes.items) (rest_of c.args.path.now to) c.in_ok-nodes.ensures (derived d) h)
    c.assemble.ensures.derivation

pub returns-clause-checks : goal.returns-clause-checks
returns-clause-checks c =
    let p = c.args.p.now in
    let asked = c.query_of_problem-query.ensures.query in
    let same_program : program_in c.predicates-clauses.result.now ≡ clauses_in p = ap program_in (c.predicates-clauses.ensures.clauses) in
    let to = position_of c.select_along.new.machine in
    let program = program_of p.program.now in
    let typed = c.predicates-clauses.ensures.restricted.typed in
    IfOk-weaker c.assemble.result (λ d. (e : NominalDerivation) → map selected_node c.in_ok-nodes.nodes.items ≡ nodes_before e [] → derived d ≡ derivation_in to.state e)
    (λ d. (q : NominalQuery) (a : NominalAnswer) → slice_get (queries_in p) (p.query - 1) ≡ Some q → outs_at (clauses_in p) p.depth q c.args.path.now ≡ found c.args.path.now a ∷ []
    → Checks program q a (derived d))
    (λ d h q a k only.
    let at = answer_derived (clauses_in p) p.depth q c.args.path.now a only in
    let is = path_derived p c.args.path.now (query_of c.query_of_problem-query.result.now) asked (c.requires.leads (query_of c.query_of_problem-query.result.now) asked)
    (program_in c.predicates-clauses.result.now) (position_of c.in_ok-machine.machine) same_program c.in_ok-machine.ensures
    to.state (map selected_node c.in_ok-nodes.nodes.items) (rest_of c.args.path.now to) c.in_ok-nodes.ensures (derived d) h q at.0 k at.2 in
    subst (λ (e : NominalDerivation). Checks program q a e) (sym is)
    (derived_checks program typed p.depth q (typed_at program.signature (queries_in p) (p.query - 1) q k typed.1) c.args.path.now a (derivation_in at.0.state at.0.derivation) at.1 only))
    c.assemble.ensures.derivation

pub returns-clause-grown : goal.returns-clause-grown
returns-clause-grown c = c.assemble.ensures.grown
