use Rattle.std.proofs.Common.{[], inl, inr, refl, subst, sym, ◌∙◌}
use Rattle.std.proofs.lemmas.List.{append-nil}
use Rattle.ap_defs.specs.Unification.{failed, next}
use Rattle.ap_store.specs.Views.{bindings_of, present, versions}
use Rattle.ap_unify.proofs.ReachLemmas.{leads_less, then_reaches}
use Rattle.ap_rules.proofs.WorkLemmas.{go_on_on, go_same, goes_on_on}
use Rattle.ap_unify.proofs.runs.run.Goals as goal
use Rattle.ap_unify.specs.Parts.{LeadsTo}
use Rattle.ap_unify.specs.Solved.{AreSolvedAfter}
use Rattle.ap_rules.specs.Work.{ArePairsBelow, progress_if, work_stage}

pub rewriting-init : goal.rewriting-init
rewriting-init c =
    let a = present c.args.store.now in
    let w = c.args.work.now in
    record {
      leads = λ p h. h;
      pairs = c.requires;
      settled = c.new-settled.ensures a.bindings;
      solved = c.new-solved.ensures.solved (work_stage a.bindings w);
      goes_on = go_same a w w (λ h. h) refl;
      past = ([], sym (append-nil (versions c.args.store.now)));
      kinds = refl;
    }

pub returns-then-not-branch-clause-reached : goal.returns-then-not-branch-clause-reached
returns-then-not-branch-clause-reached c =
    let before = work_stage (bindings_of c.rewriting.store) c.rewriting.work in
    let s = work_stage (bindings_of c.advance.new.store) c.advance.new.work in
    let e : LeadsTo before failed = subst (λ b. LeadsTo before (progress_if b s)) c.if-not-branch.true c.in_ok-advance.ensures.stage in
    c.rewriting.invariant.leads failed (inr e)

pub rewriting-smaller : goal.rewriting-smaller
rewriting-smaller c =
    let before = work_stage (bindings_of c.rewriting.store) c.rewriting.work in
    let s = work_stage (bindings_of c.advance.new.store) c.advance.new.work in
    let e : LeadsTo before (next s) = subst (λ b. LeadsTo before (progress_if b s)) c.if-not-branch.false c.in_ok-advance.ensures.stage in
    leads_less before s e

pub rewriting-preserved : goal.rewriting-preserved
rewriting-preserved c =
    let a = present c.args.store.now in
    let b = present c.rewriting.store in
    let d = present c.advance.new.store in
    let before = work_stage b.bindings c.rewriting.work in
    let s = work_stage d.bindings c.advance.new.work in
    let e : LeadsTo before (next s) = subst (λ v. LeadsTo before (progress_if v s)) c.if-not-branch.false c.in_ok-advance.ensures.stage in
    record {
      leads = λ p h. c.rewriting.invariant.leads p (inr (then_reaches before s p e h));
      pairs = subst (λ n. ArePairsBelow n c.advance.new.work.equations.items) (sym c.in_ok-advance.ensures.goes_on.next) (c.in_ok-advance.ensures.goes_on.pairs c.rewriting.invariant.pairs);
      settled = c.in_ok-advance.ensures.settled;
      solved = subst (λ v. AreSolvedAfter (progress_if v s) c.advance.new.solved) c.if-not-branch.false c.in_ok-advance.ensures.solved;
      goes_on = go_on_on a b d c.args.work.now c.rewriting.work c.advance.new.work c.rewriting.invariant.goes_on c.in_ok-advance.ensures.goes_on;
      past = goes_on_on (versions c.args.store.now) (versions c.rewriting.store) (versions c.advance.new.store) c.rewriting.invariant.past c.advance.ensures.past;
      kinds = c.advance.ensures.kinds ∙ c.rewriting.invariant.kinds;
    }

pub returns-clause-reached : goal.returns-clause-reached
returns-clause-reached c =
    let before = work_stage (bindings_of c.rewriting.store) c.rewriting.work in
    c.rewriting.invariant.leads (next before) (inl refl)
