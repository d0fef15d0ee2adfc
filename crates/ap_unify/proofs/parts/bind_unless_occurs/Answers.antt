use Rattle.std.proofs.Common.{[], ap, map, subst, sym, ◌∙◌}
use Rattle.ap_defs.specs.Substitution.{occurs, under}
use Rattle.ap_defs.specs.Terms.{NominalTerm, susp}
use Rattle.ap_defs.specs.Unification.{Rule, apply_rule}
use Rattle.ap_store.proofs.OccurrenceLemmas.{ground_not_like}
use Rattle.ap_store.specs.Likes.{HaveSameVars}
use Rattle.ap_store.specs.Marks.{HasNoVars}
use Rattle.ap_store.specs.Views.{bindings_of}
use Rattle.ap_unify.proofs.PartLemmas.{bind_if_absent, clash_if_occurs}
use Rattle.ap_rules.proofs.WorkLemmas.{if_ok}
use Rattle.ap_unify.proofs.parts.bind_unless_occurs.Goals as goal
use Rattle.ap_unify.specs.Parts.{IsRuleFor, parts_equation}
use Rattle.ap_equations.specs.Plain.{plain_term}
use Rattle.ap_rules.specs.Runs.{equation_under, problem_under}

pub bind_part-requires-clause-absent : goal.bind_part-requires-clause-absent
bind_part-requires-clause-absent c = c.requires.mark c.if-p.true c.args.x

pub returns-then-p-clause-turn : goal.returns-then-p-clause-turn
returns-then-p-clause-turn c =
    let s = bindings_of c.args.store.now in
    let t = under s (plain_term c.args.p) in
    let e = c.requires.mark c.if-p.true c.args.x in
    if_ok c.bind_part.result (λ turn h. λ f. subst (IsRuleFor parts_equation turn f s (bindings_of c.bind_part.new.store)) (sym (bind_if_absent c.args.x t e)) (h f)) c.bind_part.ensures.turn

pub returns-then-occurs-clause-turn : goal.returns-then-occurs-clause-turn
returns-then-occurs-clause-turn c = λ f es ps.
    let s = bindings_of c.args.store.now in
    let t = under s (plain_term c.args.p) in
    let e = ap (λ (u : NominalTerm). occurs c.args.x (under s u)) (sym c.closure-c.ensures) ∙ sym c.in_ok-found.ensures.found ∙ sym c.occurs-2.ensures ∙ c.if-occurs.true in
    ap (λ (r : Rule). apply_rule r (map (equation_under s) es) (map (problem_under s) ps) s) (sym (clash_if_occurs c.args.x t e))

pub bind_part-requires-2-clause-absent : goal.bind_part-requires-2-clause-absent
bind_part-requires-2-clause-absent c =
    ap (λ (u : NominalTerm). occurs c.args.x (under (bindings_of c.args.store.now) u)) (sym c.closure-c.ensures) ∙ sym c.in_ok-found.ensures.found ∙ sym c.occurs-2.ensures ∙ c.if-occurs.false

pub bind_part-requires-2-clause-no_vars : goal.bind_part-requires-2-clause-no_vars
bind_part-requires-2-clause-no_vars c =
    λ h. subst (λ (u : NominalTerm). HasNoVars (under (bindings_of c.args.store.now) u)) c.closure-c.ensures (c.in_ok-found.ensures.no_vars h)

pub bind_part-requires-2-clause-like : goal.bind_part-requires-2-clause-like
bind_part-requires-2-clause-like c =
    let s = bindings_of c.args.store.now in
    λ w h. subst (λ (u : NominalTerm). HaveSameVars (under s u) (under s (susp [] w))) c.closure-c.ensures (c.in_ok-found.ensures.like w h)

pub bind_part-requires-clause-no_vars : goal.bind_part-requires-clause-no_vars
bind_part-requires-clause-no_vars c = λ h. c.requires.mark c.if-p.true

pub bind_part-requires-clause-like : goal.bind_part-requires-clause-like
bind_part-requires-clause-like c = λ w h. absurd (ground_not_like w h)

pub returns-clause-turn : goal.returns-clause-turn
returns-clause-turn c =
    let s = bindings_of c.args.store.now in
    let t = under s (plain_term c.args.p) in
    let e = ap (λ (u : NominalTerm). occurs c.args.x (under s u)) (sym c.closure-c.ensures) ∙ sym c.in_ok-found.ensures.found ∙ sym c.occurs-2.ensures ∙ c.if-occurs.false in
    if_ok c.bind_part-2.result (λ turn h. λ f. subst (IsRuleFor parts_equation turn f s (bindings_of c.bind_part-2.new.store)) (sym (bind_if_absent c.args.x t e)) (h f)) c.bind_part-2.ensures.turn
