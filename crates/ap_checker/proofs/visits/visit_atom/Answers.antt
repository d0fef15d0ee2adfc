use Rattle.std.proofs.Common.{◌≡◌, None, Some, suc, List, map, sym, refl, ap, ◌∙◌}
use Rattle.ap_defs.specs.declared.goals.Local.{Local}
use Rattle.ap_defs.specs.Derivations as derivations
use Rattle.ap_defs.specs.Goals as goals
use Rattle.ap_defs.specs.Goals.{clause_of, goal_of, program_of}
use Rattle.ap_defs.specs.Resolution.{kinds_of}
use Rattle.ap_defs.specs.Terms.{term_of}
use Rattle.ap_defs.specs.Types.{locals_of}
use Rattle.ap_checks.specs.Checks.{first_refusal, refusal}
use Rattle.ap_checks.specs.OpenEnvironments.{open_environment, put_in}
use Rattle.ap_shared.specs.SharedPlaces.{given_terms}
use Rattle.ap_shared.specs.SharedViews.{shared_answer, shared_derivation, shared_terms}
use Rattle.ap_judge.specs.declared.cited.CitedTerms.TheVariants as all
use Rattle.ap_judge.specs.declared.scope.Standing.TheVariants as code
use Rattle.ap_checker.specs.Rules.{node_refused}
use Rattle.ap_judge.specs.Scopes.{environment_of}
use Rattle.ap_checker.proofs.WalkLemmas.{atom_by, goes_brought}
use Rattle.ap_checker.proofs.visits.visit_atom.Goals as goal

pub returns-in-Some-rule-clause-visited : goal.returns-in-Some-rule-clause-visited
returns-in-Some-rule-clause-visited c = λ kinds table n.
    let p = program_of c.args.program.now in
    let used = c.args.used.now in
    let lines = shared_terms used.given.terms.now in
    let a = shared_answer table c.args.answer.now in
    let ts = given_terms used.given in
    let us = map term_of c.args.args.now in
    let vs = map (put_in (environment_of c.deref.result.now)) us in
    let e = environment_of c.args.walk.now.standing.items in
    let v : vs ≡ map (put_in e) us = ap (λ ss. map (put_in (environment_of ss)) us) c.deref.ensures.value in
    atom_by p a kinds n used.number c.args.pred used.names.now ts us vs (shared_derivation lines used.body.now) e (clause_of c.in-Some.clause.now) (Some c.in-Some-rule.rule) c.in-Some.ensures v
    (λ rest. c.in_ok-rule.ensures.rule table n rest ∙ ap (λ r. first_refusal (node_refused n r) rest) c.in-Some-rule.is)

pub returns-clause-visited : goal.returns-clause-visited
returns-clause-visited c = λ kinds table.
    let p = program_of c.args.program.now in
    let used = c.args.used.now in
    let lines = shared_terms used.given.terms.now in
    let a = shared_answer table c.args.answer.now in
    let clause = c.in-Some.clause.now in
    let ts = given_terms used.given in
    let us = map term_of c.args.args.now in
    let vs = map (put_in (environment_of c.deref.result.now)) us in
    let e = environment_of c.args.walk.now.standing.items in
    let v : vs ≡ map (put_in e) us = ap (λ ss. map (put_in (environment_of ss)) us) c.deref.ensures.value in
    let node = derivations.atom used.number used.names.now ts (shared_derivation lines used.body.now) in
    goes_brought p a kinds node (goals.atom c.args.pred us) c.args.walk.now c.put.new.self
    _ (code.Clause c.in_ok-own.own used.names (all.Lines used.given)) c.bring.new.self c.requires.marked c.in_ok-bring.ensures.standing c.bring.ensures.pending c.put.ensures.standing c.in_ok-put.ensures.pending
    (λ n.
    atom_by p a kinds n used.number c.args.pred used.names.now ts us vs (shared_derivation lines used.body.now) e (clause_of clause) None c.in-Some.ensures v
    (λ rest. c.in_ok-rule.ensures.rule table n rest ∙ ap (λ r. first_refusal (node_refused n r) rest) c.in_default-rule.is)
    ∙ ap (λ (ls : List Local). refusal p a (kinds_of (locals_of ls)) (suc n) (shared_derivation lines used.body.now) (goal_of clause.body) (open_environment (locals_of ls) used.names.now ts)) (sym c.items-locals.ensures)
    ∙ ap (λ (ls : List Local). refusal p a (kinds_of (locals_of c.items-locals.result.now)) (suc n) (shared_derivation lines used.body.now) (goal_of clause.body) (open_environment (locals_of ls) used.names.now ts)) (sym c.in_ok-own.ensures)) refl
