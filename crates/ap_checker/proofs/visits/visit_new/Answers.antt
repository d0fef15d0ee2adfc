use Rattle.std.proofs.Common.{◌≡◌, nat_eq, true, sym, refl, ap, ◌∙◌, arith}
use Rattle.std.proofs.lemmas.Bool.Decides.{nat_tests}
use Rattle.ap_shared.specs.SharedViews.{shared_answer}
use Rattle.ap_defs.specs.Derivations as derivations
use Rattle.ap_defs.specs.Goals as goals
use Rattle.ap_defs.specs.Goals.{goal_of}
use Rattle.ap_checks.specs.Checks.{is_new, refusal}
use Rattle.ap_judge.specs.declared.scope.Standing.TheVariants as code
use Rattle.ap_judge.specs.Scopes.{environment_of}
use Rattle.ap_checker.specs.Walks.{derivation_at, goal_at, kinds_at}
use Rattle.ap_checker.proofs.NodeLemmas.{test_goes_on}
use Rattle.ap_checker.proofs.WalkLemmas.{goes_brought}
use Rattle.ap_checker.proofs.visits.visit_new.Goals as goal

pub returns-clause-visited : goal.returns-clause-visited
returns-clause-visited c = λ p table.
    let below = c.args.below in
    let own = c.args.names.0 in
    let name = c.args.names.1 in
    let a = shared_answer table c.args.answer.now in
    let e = environment_of c.args.walk.now.standing.items in
    let node = derivations.new name (derivation_at below) in
    let sorts : nat_eq name.sort own.sort ≡ true = grind (arith, nat_tests, c.if-name-own.false) in
    let news : is_new a.conds name (goals.new own (goal_at below)) e ≡ true =
    ap (λ g. is_new a.conds name g e) (sym c.requires.goal) ∙ ap (λ ss. is_new a.conds name (goal_of c.args.goal.now) (environment_of ss)) (sym c.deref.ensures.value)
    ∙ sym c.in_ok-is_new.ensures ∙ c.if-not-branch.false in
    goes_brought p a (kinds_at below) node (goal_of c.args.goal.now) c.args.walk.now c.put.new.self
    below (code.Name own name) c.bring.new.self c.requires.marked c.in_ok-bring.ensures.standing c.bring.ensures.pending c.put.ensures.standing c.in_ok-put.ensures.pending
    (λ n. ap (λ g. refusal p a (kinds_at below) n node g e) c.requires.goal ∙ test_goes_on _ _ _ sorts ∙ test_goes_on _ _ _ news) refl
