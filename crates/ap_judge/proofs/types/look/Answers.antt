use Rattle.std.proofs.Common.{◌≡◌, map, sym, ap, ◌∙◌, rules}
use Rattle.ap_defs.specs.Answers.{typed_var_of}
use Rattle.ap_defs.specs.Terms.{unit}
use Rattle.ap_defs.specs.Types.{constructor_of}
use Rattle.ap_checks.specs.TypeTests.{is_typed, type_beside}
use Rattle.ap_shared.specs.Shared.{entry_term, shared_at}
use Rattle.ap_shared.specs.SharedViews.{shared_terms}
use Rattle.ap_judge.specs.Wanted.{expected_size, is_expected, want_of}
use Rattle.ap_judge.proofs.types.look.Goals as goal

pub returns-in_default : goal.returns-in_default
returns-in_default c =
    let cs = map constructor_of c.args.constructors.now in
    let vars = type_beside (map typed_var_of c.args.answer.now.vars) in
    c.leaf.ensures (is_expected (shared_terms c.args.terms.now) cs vars) (expected_size (shared_terms c.args.terms.now)) c.args.at (c.is_unit.ensures cs vars ∙ ap (λ t. is_typed cs vars t (want_of c.args.at.wanted)) (sym c.in_default.ensures.term))

pub returns-in-Unit-default : goal.returns-in-Unit-default
returns-in-Unit-default c =
    let ts = shared_terms c.args.terms.now in
    let cs = map constructor_of c.args.constructors.now in
    let vars = type_beside (map typed_var_of c.args.answer.now.vars) in
    let here : shared_at ts c.args.at.line ≡ unit = c.in-Some.ensures.term ∙ ap (entry_term ts) c.in-Unit-default.is-0 in
    c.leaf-in-Unit-default.ensures (is_expected ts cs vars) (expected_size ts) c.args.at (c.is_unit-in-Unit-default.ensures cs vars ∙ ap (λ t. is_typed cs vars t (want_of c.args.at.wanted)) (sym here))

pub returns-in-Name-One-Names : goal.returns-in-Name-One-Names
returns-in-Name-One-Names c =
    let ts = shared_terms c.args.terms.now in
    let cs = map constructor_of c.args.constructors.now in
    let vars = type_beside (map typed_var_of c.args.answer.now.vars) in
    c.leaf-in-Name-One-Names.ensures (is_expected ts cs vars) (expected_size ts) c.args.at (search rules)

pub returns-in_ok-has_type_beside-in-Susp-One : goal.returns-in_ok-has_type_beside-in-Susp-One
returns-in_ok-has_type_beside-in-Susp-One c =
    let ts = shared_terms c.args.terms.now in
    let cs = map constructor_of c.args.constructors.now in
    let vars = type_beside (map typed_var_of c.args.answer.now.vars) in
    c.leaf-in-Susp-One.ensures (is_expected ts cs vars) (expected_size ts) c.args.at (search rules)
