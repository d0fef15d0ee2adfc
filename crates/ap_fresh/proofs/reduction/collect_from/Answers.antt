use Rattle.std.proofs.Common.{rules, map, ◌≡◌, true, false, sym, ap, ap₂, ◌∙◌, List, [], ◌∷◌, ◌++◌, append_assoc, append-nil, arith, inl, refl, subst}
use Rattle.ap_defs.specs.Freshness.{both, reduce as by_rules}
use Rattle.ap_defs.specs.Permutations.{act_name, inverse, name_eq}
use Rattle.ap_defs.specs.Renaming.{rename_name, rename_swap, rename_term, rename_var}
use Rattle.ap_defs.specs.Terms.{abs, app, pair, susp, term_of}
use Rattle.ap_fresh.specs.Reduction.{pending_term}
use Rattle.ap_fresh.specs.Sought.{was_sought}
use Rattle.ap_fresh.specs.declared.pending.Pending.{Pending}
use Rattle.ap_perm.specs.Lookups.{carried_out}
use Rattle.ap_fresh.proofs.ListingLemmas.{IsPutting, all_put, cond_put, first_put, others_put, out_put, refuted_put, sought_again, sought_put}
use Rattle.ap_fresh.proofs.PendingLemmas.{IsToldBelow, all_one, behind, bound_fewer, bound_same, fewer, fewer_part, in_var_same, in_var_visits, inner_of, inner_visits, problem_of, visits_below}
use Rattle.ap_fresh.proofs.SetLemmas.{tells}
use Rattle.ap_fresh.proofs.StepLemmas.{abs_problem, app_problem, binder_problem, name_problem, name_refuted, pair_problem, problem, unbound_problem, unit_problem}
use Rattle.ap_defs.specs.declared.terms.Name.{Name}
use Rattle.ap_perm.proofs.VisitLemmas.{visits, visits_abs, visits_app, visits_pair, visits_some}
use Rattle.ap_fresh.proofs.reduction.collect_from.Goals as goal

pub collecting-init : goal.collecting-init
collecting-init g c =
    first_put (g.L.Look.bound c.args.look.now) (g.L.Look.rank c.args.look.now) (g.met.L.Look.ranked c.args.look.now) c.args.conds.now.items (was_sought c.new-sought.result) c.push.new.self.items c.args.first
    (c.in_ok-push.ensures.items ∙ ap (λ (xs : List Pending). xs ++ c.args.first ∷ []) c.new-left.ensures.items) c.new-sought.ensures

pub collecting-smaller-in-Unit : goal.collecting-smaller-in-Unit
collecting-smaller-in-Unit g c = fewer (g.L.Look.bound c.args.look.now) (g.L.Look.rank c.args.look.now) (g.met.L.Look.ranked c.args.look.now) c.pop.new.self.items [] c.pop.new.self.items c.collecting.left.items c.in-Some.p c.in-Some.ensures.items (sym (append-nil c.pop.new.self.items)) (visits_some (g.L.Look.bound c.args.look.now) (g.L.Look.rank c.args.look.now) (g.met.L.Look.ranked c.args.look.now) (pending_term c.in-Some.p))

pub collecting-preserved-in-Unit : goal.collecting-preserved-in-Unit
collecting-preserved-in-Unit g c =
    others_put (g.L.Look.bound c.args.look.now) (g.L.Look.rank c.args.look.now) (g.met.L.Look.ranked c.args.look.now) c.args.conds.now.items (by_rules c.args.first.name (carried_out (g.L.Look.bound c.args.look.now) (g.L.Look.rank c.args.look.now) (pending_term c.args.first))) (was_sought c.collecting.sought) c.pop.new.self.items [] c.pop.new.self.items c.collecting.left.items c.in-Some.p c.in-Some.ensures.items (sym (append-nil c.pop.new.self.items)) c.collecting.conds.items c.collecting.invariant
    (unit_problem (g.L.Look.bound c.args.look.now) (g.L.Look.rank c.args.look.now) (g.met.L.Look.ranked c.args.look.now) c.in-Some.p.name (pending_term c.in-Some.p) (ap (λ z. rename_term c.in-Some.p.base (term_of z)) c.in-Unit.is)) tt

pub returns-then-eq-clause-refuted : goal.returns-then-eq-clause-refuted
unfolding name_eq
returns-then-eq-clause-refuted g c =
    let e : name_eq c.in-Some.p.name (rename_name c.in-Some.p.base c.in-Name.b) ≡ true = search rules in
    λ h. refuted_put (g.L.Look.bound c.args.look.now) (g.L.Look.rank c.args.look.now) (g.met.L.Look.ranked c.args.look.now) c.args.conds.now.items (by_rules c.args.first.name (carried_out (g.L.Look.bound c.args.look.now) (g.L.Look.rank c.args.look.now) (pending_term c.args.first))) (was_sought c.collecting.sought) c.pop.new.self.items [] c.pop.new.self.items c.collecting.left.items c.in-Some.p c.in-Some.ensures.items (sym (append-nil c.pop.new.self.items)) c.collecting.conds.items c.collecting.invariant
    (name_refuted (g.L.Look.bound c.args.look.now) (g.L.Look.rank c.args.look.now) (g.met.L.Look.ranked c.args.look.now) c.in-Some.p.name (rename_name c.in-Some.p.base c.in-Name.b) (pending_term c.in-Some.p) (ap (λ z. rename_term c.in-Some.p.base (term_of z)) c.in-Name.is) e)

pub collecting-smaller-else-eq : goal.collecting-smaller-else-eq
collecting-smaller-else-eq g c = fewer (g.L.Look.bound c.args.look.now) (g.L.Look.rank c.args.look.now) (g.met.L.Look.ranked c.args.look.now) c.pop.new.self.items [] c.pop.new.self.items c.collecting.left.items c.in-Some.p c.in-Some.ensures.items (sym (append-nil c.pop.new.self.items)) (visits_some (g.L.Look.bound c.args.look.now) (g.L.Look.rank c.args.look.now) (g.met.L.Look.ranked c.args.look.now) (pending_term c.in-Some.p))

pub collecting-preserved-else-eq : goal.collecting-preserved-else-eq
unfolding name_eq
collecting-preserved-else-eq g c =
    let e : name_eq c.in-Some.p.name (rename_name c.in-Some.p.base c.in-Name.b) ≡ false = search rules in
    others_put (g.L.Look.bound c.args.look.now) (g.L.Look.rank c.args.look.now) (g.met.L.Look.ranked c.args.look.now) c.args.conds.now.items (by_rules c.args.first.name (carried_out (g.L.Look.bound c.args.look.now) (g.L.Look.rank c.args.look.now) (pending_term c.args.first))) (was_sought c.collecting.sought) c.pop.new.self.items [] c.pop.new.self.items c.collecting.left.items c.in-Some.p c.in-Some.ensures.items (sym (append-nil c.pop.new.self.items)) c.collecting.conds.items c.collecting.invariant
    (name_problem (g.L.Look.bound c.args.look.now) (g.L.Look.rank c.args.look.now) (g.met.L.Look.ranked c.args.look.now) c.in-Some.p.name (rename_name c.in-Some.p.base c.in-Name.b) (pending_term c.in-Some.p) (ap (λ z. rename_term c.in-Some.p.base (term_of z)) c.in-Name.is) e) tt

pub collecting-smaller-in_ok-push-in-Pair-2 : goal.collecting-smaller-in_ok-push-in-Pair-2
collecting-smaller-in_ok-push-in-Pair-2 g c =
    let e : (pending_term c.in-Some.p) ≡ pair (rename_term c.in-Some.p.base (term_of c.deref.result.now)) (rename_term c.in-Some.p.base (term_of c.deref-in-Pair.result.now)) =
    ap (λ z. rename_term c.in-Some.p.base (term_of z)) c.in-Pair.is
    ∙ ap₂ (λ u v. pair (rename_term c.in-Some.p.base (term_of u)) (rename_term c.in-Some.p.base (term_of v))) (sym c.deref.ensures) (sym c.deref-in-Pair.ensures) in
    let rest = c.push-in-Pair-2.new.self.items in
    let qs = c.innermost.result ∷ c.innermost-in-Pair.result ∷ [] in
    let f : rest ≡ c.pop.new.self.items ++ qs =
    c.in_ok-push-in-Pair-2.ensures.items ∙ ap (λ xs. xs ++ c.innermost-in-Pair.result ∷ []) c.in_ok-push-in-Pair.ensures.items ∙ append_assoc c.pop.new.self.items (c.innermost.result ∷ []) (c.innermost-in-Pair.result ∷ []) in
    let k = inner_visits (g.L.Look.bound c.args.look.now) (g.L.Look.rank c.args.look.now) (g.met.L.Look.ranked c.args.look.now) c.innermost.result c.in-Some.p.name (rename_term c.in-Some.p.base (term_of c.deref.result.now)) c.innermost.ensures.term in
    let l = inner_visits (g.L.Look.bound c.args.look.now) (g.L.Look.rank c.args.look.now) (g.met.L.Look.ranked c.args.look.now) c.innermost-in-Pair.result c.in-Some.p.name (rename_term c.in-Some.p.base (term_of c.deref-in-Pair.result.now)) c.innermost-in-Pair.ensures.term in
    let b = visits_pair (g.L.Look.bound c.args.look.now) (g.L.Look.rank c.args.look.now) (g.met.L.Look.ranked c.args.look.now) (rename_term c.in-Some.p.base (term_of c.deref.result.now)) (rename_term c.in-Some.p.base (term_of c.deref-in-Pair.result.now)) in
    let d : visits (g.L.Look.bound c.args.look.now) (g.L.Look.rank c.args.look.now) (pending_term c.in-Some.p) ≡ visits (g.L.Look.bound c.args.look.now) (g.L.Look.rank c.args.look.now) (pair (rename_term c.in-Some.p.base (term_of c.deref.result.now)) (rename_term c.in-Some.p.base (term_of c.deref-in-Pair.result.now))) = ap (visits (g.L.Look.bound c.args.look.now) (g.L.Look.rank c.args.look.now)) e in
    fewer (g.L.Look.bound c.args.look.now) (g.L.Look.rank c.args.look.now) (g.met.L.Look.ranked c.args.look.now) c.pop.new.self.items qs rest c.collecting.left.items c.in-Some.p c.in-Some.ensures.items f (omega (arith, k, l, b, d))

pub collecting-preserved-in_ok-push-in-Pair-2 : goal.collecting-preserved-in_ok-push-in-Pair-2
collecting-preserved-in_ok-push-in-Pair-2 g c =
    let e : (pending_term c.in-Some.p) ≡ pair (rename_term c.in-Some.p.base (term_of c.deref.result.now)) (rename_term c.in-Some.p.base (term_of c.deref-in-Pair.result.now)) =
    ap (λ z. rename_term c.in-Some.p.base (term_of z)) c.in-Pair.is
    ∙ ap₂ (λ u v. pair (rename_term c.in-Some.p.base (term_of u)) (rename_term c.in-Some.p.base (term_of v))) (sym c.deref.ensures) (sym c.deref-in-Pair.ensures) in
    let rest = c.push-in-Pair-2.new.self.items in
    let qs = c.innermost.result ∷ c.innermost-in-Pair.result ∷ [] in
    let f : rest ≡ c.pop.new.self.items ++ qs =
    c.in_ok-push-in-Pair-2.ensures.items ∙ ap (λ xs. xs ++ c.innermost-in-Pair.result ∷ []) c.in_ok-push-in-Pair.ensures.items ∙ append_assoc c.pop.new.self.items (c.innermost.result ∷ []) (c.innermost-in-Pair.result ∷ []) in
    let h : problem (g.L.Look.bound c.args.look.now) (g.L.Look.rank c.args.look.now) (g.met.L.Look.ranked c.args.look.now) c.in-Some.p.name (pending_term c.in-Some.p) ≡ both (problem_of (g.L.Look.bound c.args.look.now) (g.L.Look.rank c.args.look.now) (g.met.L.Look.ranked c.args.look.now) c.innermost.result) (problem_of (g.L.Look.bound c.args.look.now) (g.L.Look.rank c.args.look.now) (g.met.L.Look.ranked c.args.look.now) c.innermost-in-Pair.result) =
    pair_problem (g.L.Look.bound c.args.look.now) (g.L.Look.rank c.args.look.now) (g.met.L.Look.ranked c.args.look.now) c.in-Some.p.name (rename_term c.in-Some.p.base (term_of c.deref.result.now)) (rename_term c.in-Some.p.base (term_of c.deref-in-Pair.result.now)) (pending_term c.in-Some.p) e
    ∙ ap₂ both (inner_of (g.L.Look.bound c.args.look.now) (g.L.Look.rank c.args.look.now) (g.met.L.Look.ranked c.args.look.now) c.innermost.result c.in-Some.p.name (rename_term c.in-Some.p.base (term_of c.deref.result.now)) c.innermost.ensures.name c.innermost.ensures.term) (inner_of (g.L.Look.bound c.args.look.now) (g.L.Look.rank c.args.look.now) (g.met.L.Look.ranked c.args.look.now) c.innermost-in-Pair.result c.in-Some.p.name (rename_term c.in-Some.p.base (term_of c.deref-in-Pair.result.now)) c.innermost-in-Pair.ensures.name c.innermost-in-Pair.ensures.term) in
    let k = inner_visits (g.L.Look.bound c.args.look.now) (g.L.Look.rank c.args.look.now) (g.met.L.Look.ranked c.args.look.now) c.innermost.result c.in-Some.p.name (rename_term c.in-Some.p.base (term_of c.deref.result.now)) c.innermost.ensures.term in
    let l = inner_visits (g.L.Look.bound c.args.look.now) (g.L.Look.rank c.args.look.now) (g.met.L.Look.ranked c.args.look.now) c.innermost-in-Pair.result c.in-Some.p.name (rename_term c.in-Some.p.base (term_of c.deref-in-Pair.result.now)) c.innermost-in-Pair.ensures.term in
    let b = visits_pair (g.L.Look.bound c.args.look.now) (g.L.Look.rank c.args.look.now) (g.met.L.Look.ranked c.args.look.now) (rename_term c.in-Some.p.base (term_of c.deref.result.now)) (rename_term c.in-Some.p.base (term_of c.deref-in-Pair.result.now)) in
    let d : visits (g.L.Look.bound c.args.look.now) (g.L.Look.rank c.args.look.now) (pending_term c.in-Some.p) ≡ visits (g.L.Look.bound c.args.look.now) (g.L.Look.rank c.args.look.now) (pair (rename_term c.in-Some.p.base (term_of c.deref.result.now)) (rename_term c.in-Some.p.base (term_of c.deref-in-Pair.result.now))) = ap (visits (g.L.Look.bound c.args.look.now) (g.L.Look.rank c.args.look.now)) e in
    others_put (g.L.Look.bound c.args.look.now) (g.L.Look.rank c.args.look.now) (g.met.L.Look.ranked c.args.look.now) c.args.conds.now.items (by_rules c.args.first.name (carried_out (g.L.Look.bound c.args.look.now) (g.L.Look.rank c.args.look.now) (pending_term c.args.first))) (was_sought c.collecting.sought) c.pop.new.self.items qs rest c.collecting.left.items c.in-Some.p c.in-Some.ensures.items f c.collecting.conds.items c.collecting.invariant
    (h ∙ ap (both (problem_of (g.L.Look.bound c.args.look.now) (g.L.Look.rank c.args.look.now) (g.met.L.Look.ranked c.args.look.now) c.innermost.result)) (sym (all_one (g.L.Look.bound c.args.look.now) (g.L.Look.rank c.args.look.now) (g.met.L.Look.ranked c.args.look.now) c.innermost-in-Pair.result))) (omega (arith, k, l, b, d), (omega (arith, k, l, b, d), tt))

pub collecting-smaller-in_ok-push-in-App : goal.collecting-smaller-in_ok-push-in-App
collecting-smaller-in_ok-push-in-App g c =
    let e : (pending_term c.in-Some.p) ≡ app c.in-App.field-0 (rename_term c.in-Some.p.base (term_of c.deref-in-App.result.now)) =
    ap (λ z. rename_term c.in-Some.p.base (term_of z)) c.in-App.is ∙ ap (λ u. app c.in-App.field-0 (rename_term c.in-Some.p.base (term_of u))) (sym c.deref-in-App.ensures) in
    let w = c.innermost-in-App.result in
    let rest = c.push-in-App.new.self.items in
    let b = visits_app (g.L.Look.bound c.args.look.now) (g.L.Look.rank c.args.look.now) (g.met.L.Look.ranked c.args.look.now) c.in-App.field-0 (rename_term c.in-Some.p.base (term_of c.deref-in-App.result.now)) in
    let d : visits (g.L.Look.bound c.args.look.now) (g.L.Look.rank c.args.look.now) (pending_term c.in-Some.p) ≡ visits (g.L.Look.bound c.args.look.now) (g.L.Look.rank c.args.look.now) (app c.in-App.field-0 (rename_term c.in-Some.p.base (term_of c.deref-in-App.result.now))) = ap (visits (g.L.Look.bound c.args.look.now) (g.L.Look.rank c.args.look.now)) e in
    fewer_part (g.L.Look.bound c.args.look.now) (g.L.Look.rank c.args.look.now) (g.met.L.Look.ranked c.args.look.now) c.pop.new.self.items (w ∷ []) rest c.collecting.left.items c.in-Some.p c.in-Some.ensures.items c.in_ok-push-in-App.ensures.items w (pending_term w) refl refl
    (let k = inner_visits (g.L.Look.bound c.args.look.now) (g.L.Look.rank c.args.look.now) (g.met.L.Look.ranked c.args.look.now) w c.in-Some.p.name (rename_term c.in-Some.p.base (term_of c.deref-in-App.result.now)) c.innermost-in-App.ensures.term in omega (arith, k, b, d))

pub collecting-preserved-in_ok-push-in-App : goal.collecting-preserved-in_ok-push-in-App
collecting-preserved-in_ok-push-in-App g c =
    let e : (pending_term c.in-Some.p) ≡ app c.in-App.field-0 (rename_term c.in-Some.p.base (term_of c.deref-in-App.result.now)) =
    ap (λ z. rename_term c.in-Some.p.base (term_of z)) c.in-App.is ∙ ap (λ u. app c.in-App.field-0 (rename_term c.in-Some.p.base (term_of u))) (sym c.deref-in-App.ensures) in
    let w = c.innermost-in-App.result in
    let rest = c.push-in-App.new.self.items in
    let h : problem (g.L.Look.bound c.args.look.now) (g.L.Look.rank c.args.look.now) (g.met.L.Look.ranked c.args.look.now) c.in-Some.p.name (pending_term c.in-Some.p) ≡ problem_of (g.L.Look.bound c.args.look.now) (g.L.Look.rank c.args.look.now) (g.met.L.Look.ranked c.args.look.now) w = app_problem (g.L.Look.bound c.args.look.now) (g.L.Look.rank c.args.look.now) (g.met.L.Look.ranked c.args.look.now) c.in-Some.p.name c.in-App.field-0 (rename_term c.in-Some.p.base (term_of c.deref-in-App.result.now)) (pending_term c.in-Some.p) e ∙ inner_of (g.L.Look.bound c.args.look.now) (g.L.Look.rank c.args.look.now) (g.met.L.Look.ranked c.args.look.now) w c.in-Some.p.name (rename_term c.in-Some.p.base (term_of c.deref-in-App.result.now)) c.innermost-in-App.ensures.name c.innermost-in-App.ensures.term in
    let b = visits_app (g.L.Look.bound c.args.look.now) (g.L.Look.rank c.args.look.now) (g.met.L.Look.ranked c.args.look.now) c.in-App.field-0 (rename_term c.in-Some.p.base (term_of c.deref-in-App.result.now)) in
    let d : visits (g.L.Look.bound c.args.look.now) (g.L.Look.rank c.args.look.now) (pending_term c.in-Some.p) ≡ visits (g.L.Look.bound c.args.look.now) (g.L.Look.rank c.args.look.now) (app c.in-App.field-0 (rename_term c.in-Some.p.base (term_of c.deref-in-App.result.now))) = ap (visits (g.L.Look.bound c.args.look.now) (g.L.Look.rank c.args.look.now)) e in
    let k = inner_visits (g.L.Look.bound c.args.look.now) (g.L.Look.rank c.args.look.now) (g.met.L.Look.ranked c.args.look.now) w c.in-Some.p.name (rename_term c.in-Some.p.base (term_of c.deref-in-App.result.now)) c.innermost-in-App.ensures.term in
    others_put (g.L.Look.bound c.args.look.now) (g.L.Look.rank c.args.look.now) (g.met.L.Look.ranked c.args.look.now) c.args.conds.now.items (by_rules c.args.first.name (carried_out (g.L.Look.bound c.args.look.now) (g.L.Look.rank c.args.look.now) (pending_term c.args.first))) (was_sought c.collecting.sought) c.pop.new.self.items (w ∷ []) rest c.collecting.left.items c.in-Some.p c.in-Some.ensures.items c.in_ok-push-in-App.ensures.items c.collecting.conds.items c.collecting.invariant
    (h ∙ sym (all_one (g.L.Look.bound c.args.look.now) (g.L.Look.rank c.args.look.now) (g.met.L.Look.ranked c.args.look.now) w)) (omega (arith, k, b, d), tt)

pub collecting-smaller-in_ok-push-in-Abs : goal.collecting-smaller-in_ok-push-in-Abs
collecting-smaller-in_ok-push-in-Abs g c =
    let B : Name = record { sort = c.in-Abs.sort; num = c.in-Abs.num } in
    let e : (pending_term c.in-Some.p) ≡ abs (rename_name c.in-Some.p.base B) (rename_term c.in-Some.p.base (term_of c.deref-then-ne.result.now)) =
    ap (λ z. rename_term c.in-Some.p.base (term_of z)) c.in-Abs.is ∙ ap (λ u. abs (rename_name c.in-Some.p.base B) (rename_term c.in-Some.p.base (term_of u))) (sym c.deref-then-ne.ensures) in
    let w = c.innermost-then-ne.result in
    let rest = c.push-then-ne.new.self.items in
    let b = visits_abs (g.L.Look.bound c.args.look.now) (g.L.Look.rank c.args.look.now) (g.met.L.Look.ranked c.args.look.now) (rename_name c.in-Some.p.base B) (rename_term c.in-Some.p.base (term_of c.deref-then-ne.result.now)) in
    let d : visits (g.L.Look.bound c.args.look.now) (g.L.Look.rank c.args.look.now) (pending_term c.in-Some.p) ≡ visits (g.L.Look.bound c.args.look.now) (g.L.Look.rank c.args.look.now) (abs (rename_name c.in-Some.p.base B) (rename_term c.in-Some.p.base (term_of c.deref-then-ne.result.now))) = ap (visits (g.L.Look.bound c.args.look.now) (g.L.Look.rank c.args.look.now)) e in
    fewer_part (g.L.Look.bound c.args.look.now) (g.L.Look.rank c.args.look.now) (g.met.L.Look.ranked c.args.look.now) c.pop.new.self.items (w ∷ []) rest c.collecting.left.items c.in-Some.p c.in-Some.ensures.items c.in_ok-push-in-Abs.ensures.items w (pending_term w) refl refl
    (let k = inner_visits (g.L.Look.bound c.args.look.now) (g.L.Look.rank c.args.look.now) (g.met.L.Look.ranked c.args.look.now) w c.in-Some.p.name (rename_term c.in-Some.p.base (term_of c.deref-then-ne.result.now)) c.innermost-then-ne.ensures.term in omega (arith, k, b, d))

pub collecting-preserved-in_ok-push-in-Abs : goal.collecting-preserved-in_ok-push-in-Abs
unfolding name_eq
collecting-preserved-in_ok-push-in-Abs g c =
    let B : Name = record { sort = c.in-Abs.sort; num = c.in-Abs.num } in
    let i : name_eq c.in-Some.p.name (rename_name c.in-Some.p.base B) ≡ false = search rules in
    let e : (pending_term c.in-Some.p) ≡ abs (rename_name c.in-Some.p.base B) (rename_term c.in-Some.p.base (term_of c.deref-then-ne.result.now)) =
    ap (λ z. rename_term c.in-Some.p.base (term_of z)) c.in-Abs.is ∙ ap (λ u. abs (rename_name c.in-Some.p.base B) (rename_term c.in-Some.p.base (term_of u))) (sym c.deref-then-ne.ensures) in
    let w = c.innermost-then-ne.result in
    let rest = c.push-then-ne.new.self.items in
    let h : problem (g.L.Look.bound c.args.look.now) (g.L.Look.rank c.args.look.now) (g.met.L.Look.ranked c.args.look.now) c.in-Some.p.name (pending_term c.in-Some.p) ≡ problem_of (g.L.Look.bound c.args.look.now) (g.L.Look.rank c.args.look.now) (g.met.L.Look.ranked c.args.look.now) w = abs_problem (g.L.Look.bound c.args.look.now) (g.L.Look.rank c.args.look.now) (g.met.L.Look.ranked c.args.look.now) c.in-Some.p.name (rename_name c.in-Some.p.base B) (rename_term c.in-Some.p.base (term_of c.deref-then-ne.result.now)) (pending_term c.in-Some.p) e i ∙ inner_of (g.L.Look.bound c.args.look.now) (g.L.Look.rank c.args.look.now) (g.met.L.Look.ranked c.args.look.now) w c.in-Some.p.name (rename_term c.in-Some.p.base (term_of c.deref-then-ne.result.now)) c.innermost-then-ne.ensures.name c.innermost-then-ne.ensures.term in
    let b = visits_abs (g.L.Look.bound c.args.look.now) (g.L.Look.rank c.args.look.now) (g.met.L.Look.ranked c.args.look.now) (rename_name c.in-Some.p.base B) (rename_term c.in-Some.p.base (term_of c.deref-then-ne.result.now)) in
    let d : visits (g.L.Look.bound c.args.look.now) (g.L.Look.rank c.args.look.now) (pending_term c.in-Some.p) ≡ visits (g.L.Look.bound c.args.look.now) (g.L.Look.rank c.args.look.now) (abs (rename_name c.in-Some.p.base B) (rename_term c.in-Some.p.base (term_of c.deref-then-ne.result.now))) = ap (visits (g.L.Look.bound c.args.look.now) (g.L.Look.rank c.args.look.now)) e in
    let k = inner_visits (g.L.Look.bound c.args.look.now) (g.L.Look.rank c.args.look.now) (g.met.L.Look.ranked c.args.look.now) w c.in-Some.p.name (rename_term c.in-Some.p.base (term_of c.deref-then-ne.result.now)) c.innermost-then-ne.ensures.term in
    others_put (g.L.Look.bound c.args.look.now) (g.L.Look.rank c.args.look.now) (g.met.L.Look.ranked c.args.look.now) c.args.conds.now.items (by_rules c.args.first.name (carried_out (g.L.Look.bound c.args.look.now) (g.L.Look.rank c.args.look.now) (pending_term c.args.first))) (was_sought c.collecting.sought) c.pop.new.self.items (w ∷ []) rest c.collecting.left.items c.in-Some.p c.in-Some.ensures.items c.in_ok-push-in-Abs.ensures.items c.collecting.conds.items c.collecting.invariant
    (h ∙ sym (all_one (g.L.Look.bound c.args.look.now) (g.L.Look.rank c.args.look.now) (g.met.L.Look.ranked c.args.look.now) w)) (omega (arith, k, b, d), tt)

pub collecting-smaller-else-ne : goal.collecting-smaller-else-ne
collecting-smaller-else-ne g c = fewer (g.L.Look.bound c.args.look.now) (g.L.Look.rank c.args.look.now) (g.met.L.Look.ranked c.args.look.now) c.pop.new.self.items [] c.pop.new.self.items c.collecting.left.items c.in-Some.p c.in-Some.ensures.items (sym (append-nil c.pop.new.self.items)) (visits_some (g.L.Look.bound c.args.look.now) (g.L.Look.rank c.args.look.now) (g.met.L.Look.ranked c.args.look.now) (pending_term c.in-Some.p))

pub collecting-preserved-else-ne : goal.collecting-preserved-else-ne
unfolding name_eq
collecting-preserved-else-ne g c =
    let B : Name = record { sort = c.in-Abs.sort; num = c.in-Abs.num } in
    let e : name_eq c.in-Some.p.name (rename_name c.in-Some.p.base B) ≡ true = search rules in
    others_put (g.L.Look.bound c.args.look.now) (g.L.Look.rank c.args.look.now) (g.met.L.Look.ranked c.args.look.now) c.args.conds.now.items (by_rules c.args.first.name (carried_out (g.L.Look.bound c.args.look.now) (g.L.Look.rank c.args.look.now) (pending_term c.args.first))) (was_sought c.collecting.sought) c.pop.new.self.items [] c.pop.new.self.items c.collecting.left.items c.in-Some.p c.in-Some.ensures.items (sym (append-nil c.pop.new.self.items)) c.collecting.conds.items c.collecting.invariant
    (binder_problem (g.L.Look.bound c.args.look.now) (g.L.Look.rank c.args.look.now) (g.met.L.Look.ranked c.args.look.now) c.in-Some.p.name (rename_name c.in-Some.p.base B) (rename_term c.in-Some.p.base (term_of c.in-Abs.body.value)) (pending_term c.in-Some.p) (ap (λ z. rename_term c.in-Some.p.base (term_of z)) c.in-Abs.is) e) tt

pub collecting-smaller-in_ok-push-in-None : goal.collecting-smaller-in_ok-push-in-None
collecting-smaller-in_ok-push-in-None g c = fewer (g.L.Look.bound c.args.look.now) (g.L.Look.rank c.args.look.now) (g.met.L.Look.ranked c.args.look.now) c.pop.new.self.items [] c.pop.new.self.items c.collecting.left.items c.in-Some.p c.in-Some.ensures.items (sym (append-nil c.pop.new.self.items)) (visits_some (g.L.Look.bound c.args.look.now) (g.L.Look.rank c.args.look.now) (g.met.L.Look.ranked c.args.look.now) (pending_term c.in-Some.p))

pub collecting-preserved-in_ok-push-in-None : goal.collecting-preserved-in_ok-push-in-None
collecting-preserved-in_ok-push-in-None g c =
    let q = map (rename_swap c.in-Some.p.base) c.in-Susp.swaps in
    let n : c.at_variable-there.result.name ≡ act_name (inverse q) c.in-Some.p.name =
    c.at_variable-there.ensures.name ∙ ap (λ r. act_name (inverse (map (rename_swap c.in-Some.p.base) r)) c.in-Some.p.name) c.items.ensures in
    let h = in_var_same (g.L.Look.bound c.args.look.now) (g.L.Look.rank c.args.look.now) (g.met.L.Look.ranked c.args.look.now) c.in-Some.p q (rename_var c.in-Some.p.base c.in-Susp.x) c.at_variable-there.result (ap (λ z. rename_term c.in-Some.p.base (term_of z)) c.in-Susp.is) n c.at_variable-there.ensures.var in
    cond_put (g.L.Look.bound c.args.look.now) (g.L.Look.rank c.args.look.now) (g.met.L.Look.ranked c.args.look.now) c.args.conds.now.items (by_rules c.args.first.name (carried_out (g.L.Look.bound c.args.look.now) (g.L.Look.rank c.args.look.now) (pending_term c.args.first))) (was_sought c.collecting.sought) c.pop.new.self.items [] c.pop.new.self.items c.collecting.left.items c.in-Some.p c.in-Some.ensures.items (sym (append-nil c.pop.new.self.items)) c.collecting.conds.items c.collecting.invariant refl c.at_variable-there.result c.push-in-None.new.self.items
    (h ∙ unbound_problem (g.L.Look.bound c.args.look.now) (g.L.Look.rank c.args.look.now) (g.met.L.Look.ranked c.args.look.now) c.at_variable-there.result.name [] c.at_variable-there.result.var (susp [] c.at_variable-there.result.var) refl c.in-None.ensures)
    c.in_ok-push-in-None.ensures.items

pub collecting-smaller : goal.collecting-smaller
collecting-smaller g c = fewer (g.L.Look.bound c.args.look.now) (g.L.Look.rank c.args.look.now) (g.met.L.Look.ranked c.args.look.now) c.pop.new.self.items [] c.pop.new.self.items c.collecting.left.items c.in-Some.p c.in-Some.ensures.items (sym (append-nil c.pop.new.self.items)) (visits_some (g.L.Look.bound c.args.look.now) (g.L.Look.rank c.args.look.now) (g.met.L.Look.ranked c.args.look.now) (pending_term c.in-Some.p))

-- the name was sought in the variable
pub collecting-preserved : goal.collecting-preserved
collecting-preserved g c =
    let q = map (rename_swap c.in-Some.p.base) c.in-Susp.swaps in
    let n : c.at_variable-there.result.name ≡ act_name (inverse q) c.in-Some.p.name =
    c.at_variable-there.ensures.name ∙ ap (λ r. act_name (inverse (map (rename_swap c.in-Some.p.base) r)) c.in-Some.p.name) c.items.ensures in
    let h = in_var_same (g.L.Look.bound c.args.look.now) (g.L.Look.rank c.args.look.now) (g.met.L.Look.ranked c.args.look.now) c.in-Some.p q (rename_var c.in-Some.p.base c.in-Susp.x) c.at_variable-there.result (ap (λ z. rename_term c.in-Some.p.base (term_of z)) c.in-Susp.is) n c.at_variable-there.ensures.var in
    let l = in_var_visits (g.L.Look.bound c.args.look.now) (g.L.Look.rank c.args.look.now) (g.met.L.Look.ranked c.args.look.now) c.in-Some.p q (rename_var c.in-Some.p.base c.in-Susp.x) c.at_variable-there.result (ap (λ z. rename_term c.in-Some.p.base (term_of z)) c.in-Susp.is) n c.at_variable-there.ensures.var in
    let i : was_sought c.collecting.sought c.at_variable-there.result ≡ true = sym c.in_ok-seek-in-Some-look.ensures.before ∙ c.if-not-branch.false in
    sought_again (g.L.Look.bound c.args.look.now) (g.L.Look.rank c.args.look.now) (g.met.L.Look.ranked c.args.look.now) c.args.conds.now.items (by_rules c.args.first.name (carried_out (g.L.Look.bound c.args.look.now) (g.L.Look.rank c.args.look.now) (pending_term c.args.first))) (was_sought c.collecting.sought) (was_sought c.seek.new.sought) c.pop.new.self.items c.collecting.conds.items c.at_variable-there.result c.in_ok-seek-in-Some-look.ensures.sought i
    (out_put (g.L.Look.bound c.args.look.now) (g.L.Look.rank c.args.look.now) (g.met.L.Look.ranked c.args.look.now) c.args.conds.now.items (by_rules c.args.first.name (carried_out (g.L.Look.bound c.args.look.now) (g.L.Look.rank c.args.look.now) (pending_term c.args.first))) (was_sought c.collecting.sought) c.pop.new.self.items [] c.pop.new.self.items c.collecting.left.items c.in-Some.p c.in-Some.ensures.items (sym (append-nil c.pop.new.self.items)) c.collecting.conds.items c.collecting.invariant refl c.at_variable-there.result i h l)

pub collecting-smaller-in_ok-push-in-Some-look : goal.collecting-smaller-in_ok-push-in-Some-look
collecting-smaller-in_ok-push-in-Some-look g c =
    let q = map (rename_swap c.in-Some.p.base) c.in-Susp.swaps in
    let n : c.at_variable-there.result.name ≡ act_name (inverse q) c.in-Some.p.name =
    c.at_variable-there.ensures.name ∙ ap (λ r. act_name (inverse (map (rename_swap c.in-Some.p.base) r)) c.in-Some.p.name) c.items.ensures in
    let h = in_var_same (g.L.Look.bound c.args.look.now) (g.L.Look.rank c.args.look.now) (g.met.L.Look.ranked c.args.look.now) c.in-Some.p q (rename_var c.in-Some.p.base c.in-Susp.x) c.at_variable-there.result (ap (λ z. rename_term c.in-Some.p.base (term_of z)) c.in-Susp.is) n c.at_variable-there.ensures.var in
    let l = in_var_visits (g.L.Look.bound c.args.look.now) (g.L.Look.rank c.args.look.now) (g.met.L.Look.ranked c.args.look.now) c.in-Some.p q (rename_var c.in-Some.p.base c.in-Susp.x) c.at_variable-there.result (ap (λ z. rename_term c.in-Some.p.base (term_of z)) c.in-Susp.is) n c.at_variable-there.ensures.var in
    let d = c.in-Some-look.c in
    let w = c.bound.result in
    let k = bound_fewer (g.L.Look.bound c.args.look.now) (g.L.Look.rank c.args.look.now) (g.met.L.Look.ranked c.args.look.now) c.at_variable-there.result w d.swaps.now (rename_term d.base (term_of d.term.now)) c.in-Some-look.ensures c.bound.ensures.term in
    fewer_part (g.L.Look.bound c.args.look.now) (g.L.Look.rank c.args.look.now) (g.met.L.Look.ranked c.args.look.now) c.pop.new.self.items (w ∷ []) _ c.collecting.left.items c.in-Some.p c.in-Some.ensures.items c.in_ok-push-in-Some-look.ensures.items w (pending_term w) refl refl (omega (arith, k, l))

-- it is sought there now
pub collecting-preserved-in_ok-push-in-Some-look : goal.collecting-preserved-in_ok-push-in-Some-look
collecting-preserved-in_ok-push-in-Some-look g c =
    let q = map (rename_swap c.in-Some.p.base) c.in-Susp.swaps in
    let n : c.at_variable-there.result.name ≡ act_name (inverse q) c.in-Some.p.name =
    c.at_variable-there.ensures.name ∙ ap (λ r. act_name (inverse (map (rename_swap c.in-Some.p.base) r)) c.in-Some.p.name) c.items.ensures in
    let h = in_var_same (g.L.Look.bound c.args.look.now) (g.L.Look.rank c.args.look.now) (g.met.L.Look.ranked c.args.look.now) c.in-Some.p q (rename_var c.in-Some.p.base c.in-Susp.x) c.at_variable-there.result (ap (λ z. rename_term c.in-Some.p.base (term_of z)) c.in-Susp.is) n c.at_variable-there.ensures.var in
    let l = in_var_visits (g.L.Look.bound c.args.look.now) (g.L.Look.rank c.args.look.now) (g.met.L.Look.ranked c.args.look.now) c.in-Some.p q (rename_var c.in-Some.p.base c.in-Susp.x) c.at_variable-there.result (ap (λ z. rename_term c.in-Some.p.base (term_of z)) c.in-Susp.is) n c.at_variable-there.ensures.var in
    let d = c.in-Some-look.c in
    let w = c.bound.result in
    let k = bound_fewer (g.L.Look.bound c.args.look.now) (g.L.Look.rank c.args.look.now) (g.met.L.Look.ranked c.args.look.now) c.at_variable-there.result w d.swaps.now (rename_term d.base (term_of d.term.now)) c.in-Some-look.ensures c.bound.ensures.term in
    let m = bound_same (g.L.Look.bound c.args.look.now) (g.L.Look.rank c.args.look.now) (g.met.L.Look.ranked c.args.look.now) c.at_variable-there.result w d.swaps.now (rename_term d.base (term_of d.term.now)) c.in-Some-look.ensures c.bound.ensures.term c.bound.ensures.name in
    sought_put (g.L.Look.bound c.args.look.now) (g.L.Look.rank c.args.look.now) (g.met.L.Look.ranked c.args.look.now) c.args.conds.now.items (by_rules c.args.first.name (carried_out (g.L.Look.bound c.args.look.now) (g.L.Look.rank c.args.look.now) (pending_term c.args.first))) (was_sought c.collecting.sought) (was_sought c.seek.new.sought) _ c.collecting.conds.items c.at_variable-there.result c.in_ok-seek-in-Some-look.ensures.sought
    (λ o t. subst (IsToldBelow (g.L.Look.bound c.args.look.now) (g.L.Look.rank c.args.look.now) (g.met.L.Look.ranked c.args.look.now) o (visits_below (g.L.Look.bound c.args.look.now) (g.L.Look.rank c.args.look.now) (g.met.L.Look.ranked c.args.look.now) c.at_variable-there.result)) (sym c.in_ok-push-in-Some-look.ensures.items)
    (behind (g.L.Look.bound c.args.look.now) (g.L.Look.rank c.args.look.now) (g.met.L.Look.ranked c.args.look.now) o (visits_below (g.L.Look.bound c.args.look.now) (g.L.Look.rank c.args.look.now) (g.met.L.Look.ranked c.args.look.now) c.at_variable-there.result) c.pop.new.self.items (w ∷ []) (inl (k, ap (λ y. tells y o) (sym m) ∙ t))))
    (others_put (g.L.Look.bound c.args.look.now) (g.L.Look.rank c.args.look.now) (g.met.L.Look.ranked c.args.look.now) c.args.conds.now.items (by_rules c.args.first.name (carried_out (g.L.Look.bound c.args.look.now) (g.L.Look.rank c.args.look.now) (pending_term c.args.first))) (was_sought c.collecting.sought) c.pop.new.self.items (w ∷ []) _ c.collecting.left.items c.in-Some.p c.in-Some.ensures.items c.in_ok-push-in-Some-look.ensures.items c.collecting.conds.items c.collecting.invariant (h ∙ m ∙ sym (all_one (g.L.Look.bound c.args.look.now) (g.L.Look.rank c.args.look.now) (g.met.L.Look.ranked c.args.look.now) w)) (omega (arith, k, l), tt))

-- all was taken
pub returns-clause-behind : goal.returns-clause-behind
returns-clause-behind g c =
    let none : c.collecting.left.items ≡ [] = search rules in
    all_put (g.L.Look.bound c.args.look.now) (g.L.Look.rank c.args.look.now) (g.met.L.Look.ranked c.args.look.now) c.args.conds.now.items (by_rules c.args.first.name (carried_out (g.L.Look.bound c.args.look.now) (g.L.Look.rank c.args.look.now) (pending_term c.args.first))) (was_sought c.collecting.sought) c.collecting.conds.items
    (subst (λ (ps : List Pending). IsPutting (g.L.Look.bound c.args.look.now) (g.L.Look.rank c.args.look.now) (g.met.L.Look.ranked c.args.look.now) c.args.conds.now.items (by_rules c.args.first.name (carried_out (g.L.Look.bound c.args.look.now) (g.L.Look.rank c.args.look.now) (pending_term c.args.first))) (was_sought c.collecting.sought) ps c.collecting.conds.items) none c.collecting.invariant)
