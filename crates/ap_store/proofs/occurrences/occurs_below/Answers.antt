use Rattle.std.proofs.Common.{◌≡◌, ◌<◌, ◌+◌, ◌||◌, [], true, false, true≢false, refl, sym, ap, ◌∙◌, subst, arith}
use Rattle.std.specs.Prelude.{None}
use Rattle.std.proofs.lemmas.List.{append-nil, nil_from_length}
use Rattle.ap_defs.specs.Substitution.{occurs, under}
use Rattle.ap_defs.specs.Terms.{NominalTerm, pair}
use Rattle.ap_theory.proofs.BooleanLemmas.{or_assoc}
use Rattle.ap_theory.proofs.TermLemmas.{same_number}
use Rattle.ap_defs.specs.declared.terms.Var.{Var}
use Rattle.ap_store.specs.Founds.{IsOnce, IsPartStep, bare_term, does_occur, occurs_in}
use Rattle.ap_store.specs.Views.{bindings_of, raw_bound}
use Rattle.ap_store.specs.declared.occurrences.Once.TheVariants as onces
use Rattle.ap_store.specs.declared.occurrences.Step.TheVariants as steps
use Rattle.ap_store.proofs.FollowLemmas.{both_less, bound_less, bound_occurs, unbound_occurs, visits_in}
use Rattle.ap_store.proofs.OccurrenceLemmas.{not_found, occurs_not_like, shut_if_ground, without_like}
use Rattle.ap_store.proofs.PassedLemmas.{IsSpent, inner_less, inner_occurs, left_below, left_inner, left_pair, next_all, next_left, none_spent, nothing_here, other_apart, spent_apart}
use Rattle.ap_store.proofs.WaitingLemmas.{occurs_in_any, one_waits, some_visits, visits_in_all, visits_last}
use Rattle.ap_store.proofs.occurrences.occurs_below.Goals as goal
use Rattle.ap_store.proofs.occurrences.occurs_below.Goals.{In-Some, in-Leaf, in-Variable+in-Nothing, in-Variable+in-Unbound+else-x-y}

pub seeking-smaller-in-Inner : goal.seeking-smaller-in-Inner
seeking-smaller-in-Inner c =
    let s = c.args.store.now in
    let t = bare_term c.seeking.here in
    let l = inner_less s t (bare_term c.in-Inner.inner) (subst (IsPartStep t) c.in-Inner.is c.step_of.ensures) in
    omega (arith, l)

pub seeking-preserved-in-Inner : goal.seeking-preserved-in-Inner
seeking-preserved-in-Inner c =
    let s = c.args.store.now in
    let t = bare_term c.seeking.here in
    let u = bare_term c.in-Inner.inner in
    let ws = c.seeking.waiting.items in
    let k = subst (IsPartStep t) c.in-Inner.is c.step_of.ensures in
    record {
      all = λ y g. ap (λ o. o || occurs_in_any s y ws) (sym (inner_occurs (bindings_of s) y t u k)) ∙ c.seeking.invariant.all y g;
      passed = λ y g. left_inner s y c.seeking.passed.marks.items t u ws k (c.seeking.invariant.passed y g);
    }

pub seeking-smaller-in-Both : goal.seeking-smaller-in-Both
seeking-smaller-in-Both c =
    let s = c.args.store.now in
    let t = bare_term c.seeking.here in
    let left = bare_term c.in-Both.left in
    let right = bare_term c.in-Both.right in
    let e : t ≡ pair left right = subst (IsPartStep t) c.in-Both.is c.step_of.ensures in
    let all : visits_in_all s c.push.new.self.items ≡ visits_in_all s c.seeking.waiting.items + visits_in s right =
    ap (visits_in_all s) c.in_ok-push-in-Both.ensures.items ∙ visits_last s c.seeking.waiting.items c.in-Both.right in
    let k = both_less s left right in
    let m : visits_in s t ≡ visits_in s (pair left right) = ap (visits_in s) e in
    omega (arith, all, k, m)

pub seeking-preserved-in-Both : goal.seeking-preserved-in-Both
seeking-preserved-in-Both c =
    let s = c.args.store.now in
    let t = bare_term c.seeking.here in
    let left = bare_term c.in-Both.left in
    let right = bare_term c.in-Both.right in
    let ws = c.seeking.waiting.items in
    let more = c.push.new.self.items in
    let e : t ≡ pair left right = subst (IsPartStep t) c.in-Both.is c.step_of.ensures in
    let has = λ (y : Var) (u : NominalTerm). occurs y (under (bindings_of s) u) in
    record {
      all = λ y g. ap (λ o. has y left || o) (one_waits s y ws more c.in-Both.right c.in_ok-push-in-Both.ensures.items)
          ∙ sym (or_assoc (has y left) (has y right) (occurs_in_any s y ws)) ∙ ap (λ u. has y u || occurs_in_any s y ws) (sym e) ∙ c.seeking.invariant.all y g;
      passed = λ y g. left_pair s y c.seeking.passed.marks.items left right t ws more c.in-Both.right e refl c.in_ok-push-in-Both.ensures.items (c.seeking.invariant.passed y g);
    }

pub seeking-smaller-in-Below : goal.seeking-smaller-in-Below
seeking-smaller-in-Below c =
    let s = c.args.store.now in
    let t = bare_term c.seeking.here in
    let z = c.in-Variable.y in
    let d = c.in-Below.b in
    let v : IsPartStep t (steps.Variable z) = subst (IsPartStep t) c.in-Variable.is c.step_of.ensures in
    let k : IsOnce s z c.seeking.passed (onces.Below d) = subst (IsOnce s z c.seeking.passed) c.in-Below.is c.seen_once.ensures in
    let l : visits_in s (bare_term d) < visits_in s t = subst (λ w. visits_in s (bare_term d) < visits_in s w) (sym v.1) (bound_less s v.0 z k.0 (bare_term d) k.1) in
    omega (arith, l)

pub seeking-preserved-in-Below : goal.seeking-preserved-in-Below
seeking-preserved-in-Below c =
    let s = c.args.store.now in
    let t = bare_term c.seeking.here in
    let z = c.in-Variable.y in
    let d = c.in-Below.b in
    let ws = c.seeking.waiting.items in
    let v : IsPartStep t (steps.Variable z) = subst (IsPartStep t) c.in-Variable.is c.step_of.ensures in
    let k : IsOnce s z c.seeking.passed (onces.Below d) = subst (IsOnce s z c.seeking.passed) c.in-Below.is c.seen_once.ensures in
    let e : (y : Var) → occurs y (under (bindings_of s) t) ≡ occurs_in s y d = λ y. ap (λ w. occurs y (under (bindings_of s) w)) v.1 ∙ bound_occurs s y z v.0 k.0 (bare_term d) k.1 in
    record {
      all = λ y g. ap (λ o. o || occurs_in_any s y ws) (sym (e y)) ∙ c.seeking.invariant.all y g;
      passed = λ y g. left_below s y c.seeking.passed.marks.items c.pass.new.passed.marks.items v.0 k.0 z t (bare_term d) ws v.1 k.1 c.in_ok-pass-in-Below.ensures (c.seeking.invariant.passed y g);
    }

pub returns-then-x-y-clause-found : goal.returns-then-x-y-clause-found
returns-then-x-y-clause-found c =
    let s = c.args.store.now in
    let x = c.args.x in
    let t = bare_term c.seeking.here in
    let z = c.in-Variable.y in
    let v : IsPartStep t (steps.Variable z) = subst (IsPartStep t) c.in-Variable.is c.step_of.ensures in
    let none : raw_bound s z ≡ None = subst (IsOnce s z c.seeking.passed) c.in-Unbound.is c.seen_once.ensures in
    let here : occurs x (under (bindings_of s) t) ≡ true =
    ap (λ w. occurs x (under (bindings_of s) w)) v.1 ∙ unbound_occurs s x z v.0 none ∙ same_number x.num z.num c.if-x-y.true in
    sym (ap (λ o. o || occurs_in_any s x c.seeking.waiting.items) here) ∙ c.seeking.invariant.all x (λ o. refl)

pub returns-then-x-y-clause-no_vars : goal.returns-then-x-y-clause-no_vars
returns-then-x-y-clause-no_vars c = λ e. absurd (true≢false (ap does_occur e))

pub returns-then-x-y-clause-like : goal.returns-then-x-y-clause-like
returns-then-x-y-clause-like c = λ w e. occurs_not_like w e

pub returns-in_default-clause-like : goal.returns-in_default-clause-like
returns-in_default-clause-like c = λ w e. without_like c.match-step_of.is_open c.was_long.result w (sym c.without.ensures ∙ e)

pub returns-in_default-clause-found : goal.returns-in_default-clause-found
returns-in_default-clause-found c =
    let s = c.args.store.now in
    let x = c.args.x in
    let t = bare_term c.seeking.here in
    let ws = c.seeking.waiting.items in
    let none : ws ≡ [] = c.in_default.ensures.items ∙ append-nil c.pop.new.self.items ∙ nil_from_length c.pop.new.self.items (let l = c.pop.new.self.ok.0 in let h = c.in_default.ensures.cases in omega (arith, l, h.1)) in
    let spent : IsSpent s x t ws = elim c.match-step_of.branch [
      | in-Variable+in-Unbound+else-x-y w ↦
          let v : IsPartStep t (steps.Variable w.in-Variable.y) = subst (IsPartStep t) w.in-Variable.is c.step_of.ensures in
          spent_apart s x t ws (other_apart s t v.0 w.in-Variable.y x v.1 (subst (IsOnce s w.in-Variable.y c.seeking.passed) w.in-Unbound.is w.seen_once.ensures) w.if-x-y.false)
      | in-Variable+in-Nothing w ↦
          let v : IsPartStep t (steps.Variable w.in-Variable.y) = subst (IsPartStep t) w.in-Variable.is c.step_of.ensures in
          nothing_here s c.seeking.passed t v.0 w.in-Variable.y x ws v.1 (subst (IsOnce s w.in-Variable.y c.seeking.passed) w.in-Nothing.is w.seen_once.ensures) (c.seeking.invariant.passed x (λ o. refl))
      | in-Leaf w ↦ let k : IsPartStep t steps.Leaf = subst (IsPartStep t) w.in-Leaf.is c.step_of.ensures in spent_apart s x t ws (k (bindings_of s) x)
    ] in
    ap does_occur c.without.ensures ∙ not_found c.match-step_of.is_open c.was_long.result ∙ none_spent s x t ws none spent ∙ c.seeking.invariant.all x (λ o. refl)

pub returns-in_default-clause-no_vars : goal.returns-in_default-clause-no_vars
returns-in_default-clause-no_vars c =
    let s = c.args.store.now in
    let t = bare_term c.seeking.here in
    let ws = c.seeking.waiting.items in
    let none : ws ≡ [] = c.in_default.ensures.items ∙ append-nil c.pop.new.self.items ∙ nil_from_length c.pop.new.self.items (let l = c.pop.new.self.ok.0 in let h = c.in_default.ensures.cases in omega (arith, l, h.1)) in
    λ e y. let shut : c.match-step_of.is_open ≡ false = shut_if_ground c.match-step_of.is_open c.was_long.result (sym c.without.ensures ∙ e) in
    sym (elim c.match-step_of.branch [
      | in-Variable+in-Unbound+else-x-y w ↦ absurd (true≢false (sym w.is_open-is ∙ shut))
      | in-Variable+in-Nothing w ↦
          let g = λ (o : c.seeking.is_open ≡ true). absurd (true≢false (sym o ∙ sym w.is_open-is ∙ shut)) in
          let v : IsPartStep t (steps.Variable w.in-Variable.y) = subst (IsPartStep t) w.in-Variable.is c.step_of.ensures in
          none_spent s y t ws none
          (nothing_here s c.seeking.passed t v.0 w.in-Variable.y y ws v.1 (subst (IsOnce s w.in-Variable.y c.seeking.passed) w.in-Nothing.is w.seen_once.ensures) (c.seeking.invariant.passed y g))
          ∙ c.seeking.invariant.all y g
      | in-Leaf w ↦
          let g = λ (o : c.seeking.is_open ≡ true). absurd (true≢false (sym o ∙ sym w.is_open-is ∙ shut)) in
          let k : IsPartStep t steps.Leaf = subst (IsPartStep t) w.in-Leaf.is c.step_of.ensures in
          none_spent s y t ws none (spent_apart s y t ws (k (bindings_of s) y)) ∙ c.seeking.invariant.all y g
    ])

pub seeking-smaller : goal.seeking-smaller
seeking-smaller c =
    let s = c.args.store.now in
    let all : visits_in_all s c.seeking.waiting.items ≡ visits_in_all s c.pop.new.self.items + visits_in s (bare_term c.in-Some.next) =
    ap (visits_in_all s) c.in-Some.ensures.items ∙ visits_last s c.pop.new.self.items c.in-Some.next in
    let k = some_visits s (bare_term c.seeking.here) in
    omega (arith, all, k)

-- what was kept before this part of the variables of which it is kept behind it, and that this part is spent
held : (c : In-Some) (y : Var) → (c.match-step_of.is_open ≡ true → y ≡ c.args.x) → (c.seeking.is_open ≡ true → y ≡ c.args.x) × IsSpent c.args.store.now y (bare_term c.seeking.here) c.seeking.waiting.items
held c y g =
    let s = c.args.store.now in
    let x = c.args.x in
    let t = bare_term c.seeking.here in
    let ws = c.seeking.waiting.items in
    elim c.match-step_of.branch [
      | in-Variable+in-Unbound+else-x-y w ↦
          let same : y ≡ x = g w.is_open-is in
          let v : IsPartStep t (steps.Variable w.in-Variable.y) = subst (IsPartStep t) w.in-Variable.is c.step_of.ensures in
          let seen = subst (IsOnce s w.in-Variable.y c.seeking.passed) w.in-Unbound.is w.seen_once.ensures in
          ((λ o. same), spent_apart s y t ws (ap (λ z. occurs z (under (bindings_of s) t)) same ∙ other_apart s t v.0 w.in-Variable.y x v.1 seen w.if-x-y.false))
      | in-Variable+in-Nothing w ↦
          let k = λ (o : c.seeking.is_open ≡ true). g (w.is_open-is ∙ o) in
          let v : IsPartStep t (steps.Variable w.in-Variable.y) = subst (IsPartStep t) w.in-Variable.is c.step_of.ensures in
          let seen = subst (IsOnce s w.in-Variable.y c.seeking.passed) w.in-Nothing.is w.seen_once.ensures in
          (k, nothing_here s c.seeking.passed t v.0 w.in-Variable.y y ws v.1 seen (c.seeking.invariant.passed y k))
      | in-Leaf w ↦
          let k : IsPartStep t steps.Leaf = subst (IsPartStep t) w.in-Leaf.is c.step_of.ensures in
          ((λ o. g (w.is_open-is ∙ o)), spent_apart s y t ws (k (bindings_of s) y))
    ]

pub seeking-preserved : goal.seeking-preserved
seeking-preserved c =
    let s = c.args.store.now in
    let t = bare_term c.seeking.here in
    let ws = c.seeking.waiting.items in
    let more = c.pop.new.self.items in
    record {
      all = λ y g. let h = held c y g in next_all s y t more ws c.in-Some.next c.in-Some.ensures.items h.1 ∙ c.seeking.invariant.all y h.0;
      passed = λ y g. let h = held c y g in next_left s y c.seeking.passed.marks.items t more ws c.in-Some.next c.in-Some.ensures.items h.1 (c.seeking.invariant.passed y h.0);
    }
