use Rattle.std.proofs.Common.{◌≡◌, ◌<◌, ◌++◌, ◌∷◌, [], ap, ◌∙◌, inl, inr, subst, ⊎_elim, arith}
use Rattle.crossbeam_deque.specs.Handles.{view, taken, stealer_flavor}
use Rattle.ap_tools.specs.declared.deques.hand.Hand.{Hand}
use Rattle.ap_tools.specs.Ends.{ThiefView}
use Rattle.ap_tools.specs.Rule.{PermitsFew}
use Rattle.ap_tools.proofs.Moves.{robs, finds_few}
use Rattle.ap_tools.proofs.Outcomes.{on_success, on_empty, on_retry}
use Rattle.ap_tools.proofs.deques.thief.Thief.steal.Goals as goal
use Rattle.ap_tools.proofs.deques.thief.Thief.steal.Goals.{in-Success, in-Empty, in-Retry}

pub steal_as-requires-clause-takes : goal.steal_as-requires-clause-takes
steal_as-requires-clause-takes g c = let t = c.self.inside in let one : (view t.pass).parts ≡ 1 = ap (λ (v : Hand). v.parts) c.self.invariant.2 in robs t.pass.id (view t.pass) (omega arith)

pub steal_as-requires-clause-empty : goal.steal_as-requires-clause-empty
steal_as-requires-clause-empty g c = let t = c.self.inside in finds_few (stealer_flavor t.stealer) t.pass.id (view t.pass) c.self.invariant.0 c.self.invariant.2

pub returns-clause-stole : goal.returns-clause-stole
returns-clause-stole g c =
    let stolen = ap (λ (t : ThiefView). t.stolen) c.self.view_is in
    let known = ap (λ (t : ThiefView). t.known) c.self.view_is in
    let rule = c.steal_as.ensures.rule in
    elim c.match-steal_as.branch [
      | in-Success w ↦ rw w.result-is (ap (λ (v : Hand). v.stolen) (on_success _ _ _ _ _ rule w.in-Success.is) ∙ ap (λ ps. ps ++ w.in-Success.path ∷ []) stolen)
      | in-Empty w ↦ rw w.result-is (
          let h = on_empty _ _ _ _ rule w.in-Empty.is in
          (ap (λ (v : Hand). v.stolen) h.0 ∙ stolen, subst PermitsFew stolen h.1))
      | in-Retry w ↦ rw w.result-is (
          let h = on_retry _ _ _ _ rule w.in-Retry.is in
          (ap (λ (v : Hand). v.stolen) h.0 ∙ stolen, ⊎_elim (λ l. inl (subst (λ k. k < taken c.steal_as.new.pass) known l)) (λ f. inr (subst PermitsFew stolen f)) h.1))
    ]
