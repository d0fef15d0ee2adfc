use Rattle.std.proofs.Common.{◌≡◌, ◌<◌, false, subst, arith}
use Rattle.std.proofs.lemmas.Bool.Decides.{nat_tests}
use Rattle.ap_defs.specs.Freshness.{var_eq}
use Rattle.ap_store.proofs.OccurrenceLemmas.{apart_not_ground, apart_not_like}
use Rattle.ap_store.specs.Views.{bindings_of}
use Rattle.ap_unify.proofs.PartLemmas.{carried_drop, free_absent, left_older, one_variable, right_older}
use Rattle.ap_rules.proofs.WorkLemmas.{if_ok}
use Rattle.ap_unify.proofs.parts.variables.Goals as goal
use Rattle.ap_unify.specs.Parts.{IsRuleFor, parts_equation, rule_of}
use Rattle.ap_equations.specs.Plain.{plain_term}

pub bind_part-requires-clause-absent : goal.bind_part-requires-clause-absent
bind_part-requires-clause-absent c =
    let l : c.args.x.num < c.args.y.num = c.if-x-y-2.true in
    let e : var_eq c.args.y c.args.x ≡ false = grind (arith, nat_tests, l) in
    free_absent (bindings_of c.args.store.now) c.args.y c.args.x (plain_term c.args.pair.left) c.requires.left c.requires.left_unbound e

pub bind_part-requires-else-x-y-2-clause-absent : goal.bind_part-requires-else-x-y-2-clause-absent
bind_part-requires-else-x-y-2-clause-absent c =
    let l : c.args.y.num < c.args.x.num = omega (arith, c.if-x-y.false, c.if-x-y-2.false) in
    let e : var_eq c.args.x c.args.y ≡ false = grind (arith, nat_tests, l) in
    free_absent (bindings_of c.args.store.now) c.args.x c.args.y (plain_term c.args.pair.right) c.requires.right c.requires.right_unbound e

pub bind_part-requires-clause-no_vars : goal.bind_part-requires-clause-no_vars
bind_part-requires-clause-no_vars c = λ h. absurd (apart_not_ground h)

pub bind_part-requires-clause-like : goal.bind_part-requires-clause-like
bind_part-requires-clause-like c = λ w h. absurd (apart_not_like w h)

pub bind_part-requires-else-x-y-2-clause-no_vars : goal.bind_part-requires-else-x-y-2-clause-no_vars
bind_part-requires-else-x-y-2-clause-no_vars c = λ h. absurd (apart_not_ground h)

pub bind_part-requires-else-x-y-2-clause-like : goal.bind_part-requires-else-x-y-2-clause-like
bind_part-requires-else-x-y-2-clause-like c = λ w h. absurd (apart_not_like w h)

pub returns-then-x-y-clause-turn : goal.returns-then-x-y-clause-turn
returns-then-x-y-clause-turn c =
    let s = bindings_of c.args.store.now in
    λ f. carried_drop s (rule_of parts_equation s c.args.pair)
    (one_variable s c.args.x c.args.y (plain_term c.args.pair.left) (plain_term c.args.pair.right) c.requires.left c.requires.right c.requires.left_unbound c.requires.right_unbound c.if-x-y.true)

pub returns-then-x-y-2-clause-turn : goal.returns-then-x-y-2-clause-turn
returns-then-x-y-2-clause-turn c =
    let s = bindings_of c.args.store.now in
    if_ok c.bind_part.result
    (λ turn h. λ f. subst (IsRuleFor parts_equation turn f s (bindings_of c.bind_part.new.store))
    (left_older s c.args.x c.args.y (plain_term c.args.pair.left) (plain_term c.args.pair.right) c.requires.left c.requires.right c.requires.left_unbound c.requires.right_unbound c.if-x-y-2.true) (h f))
    c.bind_part.ensures.turn

pub returns-else-x-y-2-clause-turn : goal.returns-else-x-y-2-clause-turn
returns-else-x-y-2-clause-turn c =
    let s = bindings_of c.args.store.now in
    let l : c.args.y.num < c.args.x.num = omega (arith, c.if-x-y.false, c.if-x-y-2.false) in
    if_ok c.bind_part-else-x-y-2.result
    (λ turn h. λ f. subst (IsRuleFor parts_equation turn f s (bindings_of c.bind_part-else-x-y-2.new.store))
    (right_older s c.args.x c.args.y (plain_term c.args.pair.left) (plain_term c.args.pair.right) c.requires.left c.requires.right c.requires.left_unbound c.requires.right_unbound l) (h f))
    c.bind_part-else-x-y-2.ensures.turn
