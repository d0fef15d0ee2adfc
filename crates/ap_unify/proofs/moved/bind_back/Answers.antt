use Rattle.std.proofs.Common.{◌≡◌, true, false, ap, map, refl, sym, ◌∙◌}
use Rattle.ap_defs.specs.Permutations.{inverse}
use Rattle.ap_defs.specs.Substitution.{occurs, under}
use Rattle.ap_defs.specs.Terms.{act_term}
use Rattle.ap_defs.specs.Unification.{Rule, apply_rule, bind}
use Rattle.ap_equations.specs.Plain.{plain_term}
use Rattle.ap_perm.specs.Closures.{closure_term}
use Rattle.ap_rules.proofs.MoveLemmas.{moved_under}
use Rattle.ap_rules.specs.Runs.{equation_under, problem_under}
use Rattle.ap_search.proofs.NumberLemmas.{inverse_below}
use Rattle.ap_store.specs.Views.{bindings_of, present}
use Rattle.ap_unify.proofs.MovedLemmas.{bind_where_absent, clash_where_occurs, moved_below, moved_ground, moved_occurs}
use Rattle.ap_unify.proofs.PartLemmas.{carried_bind}
use Rattle.ap_unify.proofs.moved.bind_back.Goals as goal
use Rattle.ap_unify.specs.Moved.{waiting}

-- the variable occurs there
pub returns-then-occurs-clause-turn : goal.returns-then-occurs-clause-turn
returns-then-occurs-clause-turn c = λ m f es ps.
    let s = bindings_of c.args.store.now in
    let p = waiting c.args.side.now in
    let t = plain_term c.args.p in
    let u = under s (act_term p t) in
    let e : occurs c.args.x u ≡ true = moved_occurs p t (act_term p t) refl s c.args.x ∙ sym c.in_ok-found.ensures.found ∙ sym c.occurs.ensures ∙ c.if-occurs.true in
    ap (λ (r : Rule). apply_rule r (map (equation_under s) es) (map (problem_under s) ps) s) (sym (clash_where_occurs c.args.x u (act_term (inverse (waiting c.args.back.now)) u) e))

-- or not
pub bind_var-requires-clause-below : goal.bind_var-requires-clause-below
bind_var-requires-clause-below c =
    let n = (present c.args.store.now).next in
    let q = waiting c.args.back.now in
    moved_below (inverse q) (act_term (waiting c.args.side.now) (plain_term c.args.p)) (closure_term c.in_ok-c.c) c.in_ok-c.ensures n (inverse_below n q c.requires.swaps) c.requires.below

pub bind_var-requires-clause-absent : goal.bind_var-requires-clause-absent
bind_var-requires-clause-absent c =
    let s = bindings_of c.args.store.now in
    let p = waiting c.args.side.now in
    let t = plain_term c.args.p in
    let u = act_term p t in
    moved_occurs (inverse (waiting c.args.back.now)) u (closure_term c.in_ok-c.c) c.in_ok-c.ensures s c.args.x
    ∙ moved_occurs p t u refl s c.args.x ∙ sym c.in_ok-found.ensures.found ∙ sym c.occurs.ensures ∙ c.if-occurs.false

pub bind_var-requires-clause-no_vars : goal.bind_var-requires-clause-no_vars
bind_var-requires-clause-no_vars c = λ h.
    let s = bindings_of c.args.store.now in
    let p = waiting c.args.side.now in
    let t = plain_term c.args.p in
    let u = act_term p t in
    moved_ground (inverse (waiting c.args.back.now)) u (closure_term c.in_ok-c.c) c.in_ok-c.ensures s
    (moved_ground p t u refl s (c.in_ok-found.ensures.no_vars (c.is_ground.ensures.0 h)))

pub returns-clause-turn : goal.returns-clause-turn
returns-clause-turn c = λ m f es ps.
    let s = bindings_of c.args.store.now in
    let q = waiting c.args.back.now in
    let p = waiting c.args.side.now in
    let t = plain_term c.args.p in
    let u = act_term p t in
    let v = act_term (inverse q) (under s u) in
    let d = under s (closure_term c.in_ok-c.c) in
    let k : d ≡ v = moved_under s (inverse q) u (closure_term c.in_ok-c.c) c.in_ok-c.ensures in
    let e : occurs c.args.x (under s u) ≡ false = moved_occurs p t u refl s c.args.x ∙ sym c.in_ok-found.ensures.found ∙ sym c.occurs.ensures ∙ c.if-occurs.false in
    carried_bind s (bindings_of c.bind_var.new.store) c.args.x d c.requires.unbound c.in_ok-bind_var.ensures.bindings es ps
    ∙ ap (λ (r : Rule). apply_rule r (map (equation_under s) es) (map (problem_under s) ps) s) (ap (bind c.args.x) k ∙ sym (bind_where_absent c.args.x (under s u) v e))
