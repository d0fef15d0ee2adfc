use Rattle.std.proofs.Common.{◌≡◌, List, true, map, sym, refl, ap, subst, ◌∙◌}
use Rattle.ap_defs.specs.declared.goals.Constructor.{Constructor}
use Rattle.ap_defs.specs.Answers.{kind_at, typed_var_of}
use Rattle.ap_defs.specs.Derivations as derivations
use Rattle.ap_defs.specs.Goals as goals
use Rattle.ap_defs.specs.Goals.{program_of}
use Rattle.ap_shared.specs.Shared.{shared_at}
use Rattle.ap_shared.specs.SharedViews.{shared_answer, shared_terms}
use Rattle.ap_defs.specs.Types.{constructor_of}
use Rattle.ap_checks.specs.TypeTests.{has_kind, type_beside}
use Rattle.ap_judge.specs.declared.cited.Cited.TheVariants as cited
use Rattle.ap_judge.specs.declared.scope.Standing.TheVariants as code
use Rattle.ap_judge.specs.Typings.{AreTypesKnown}
use Rattle.ap_checker.specs.Walks.{derivation_at, goal_at, kinds_at}
use Rattle.ap_checker.proofs.NodeLemmas.{test_goes_on}
use Rattle.ap_checker.proofs.WalkLemmas.{goes_brought}
use Rattle.ap_checker.proofs.visits.visit_exists.Goals as goal

pub term_fits-requires : goal.term_fits-requires
term_fits-requires c = subst (λ (cs : List Constructor). AreTypesKnown c.args.below.terms.now cs c.args.answer.now.vars c.args.typed.now) (sym c.items-constructors.ensures) c.requires.typed

pub returns-then-not-branch-clause-typed : goal.returns-then-not-branch-clause-typed
returns-then-not-branch-clause-typed c =
    subst (λ (cs : List Constructor). AreTypesKnown c.args.below.terms.now cs c.args.answer.now.vars c.term_fits.new.typed) c.items-constructors.ensures c.in_ok-term_fits.ensures.typed

pub returns-clause-typed : goal.returns-clause-typed
returns-clause-typed c = subst (λ (cs : List Constructor). AreTypesKnown c.args.below.terms.now cs c.args.answer.now.vars c.term_fits.new.typed) c.items-constructors.ensures c.in_ok-term_fits.ensures.typed

pub returns-clause-visited : goal.returns-clause-visited
returns-clause-visited c = λ table.
    let below = c.args.below in
    let lines = shared_terms below.terms.now in
    let fits : has_kind (map constructor_of c.args.program.now.signature.constructors) (type_beside (map typed_var_of c.args.answer.now.vars)) (kind_at (kinds_at below) c.args.x.num) (shared_at lines c.args.line) ≡ true =
    ap (λ cs. has_kind (map constructor_of cs) (type_beside (map typed_var_of c.args.answer.now.vars)) (kind_at (kinds_at below) c.args.x.num) (shared_at lines c.args.line)) (sym c.items-constructors.ensures)
    ∙ sym c.in_ok-term_fits.ensures.fits ∙ c.if-not-branch.false in
    goes_brought (program_of c.args.program.now) (shared_answer table c.args.answer.now) (kinds_at below) (derivations.exists (shared_at lines c.args.line) (derivation_at below)) (goals.exists c.args.x (goal_at below)) c.args.walk.now c.put.new.self
    below (code.Term c.args.x (cited.Line (record { terms = below.terms; line = c.args.line }))) c.bring.new.self c.requires.marked c.in_ok-bring.ensures.standing c.bring.ensures.pending c.put.ensures.standing c.in_ok-put.ensures.pending
    (λ n. test_goes_on _ _ _ fits) refl
