use Rattle.std.proofs.Common.{ℕ, List, [], ◌∷◌, length, length-append, reverse, ap, ◌∙◌, sym, subst, arith}
use Rattle.std.proofs.lemmas.List.{append-nil, nil_from_length}
use Rattle.ap_machine.specs.Machines.{track_of}
use Rattle.ap_backchain.specs.ChoicePoints.{ArePoints, IsFitRest, positions_pending}
use Rattle.ap_backchain.specs.declared.points.ChoicePoint.{ChoicePoint}
use Rattle.ap_backchain.proofs.RunLemmas.{latest_points, pending_back, points_back}
use Rattle.ap_backchain.proofs.ways.resume.Goals as goal

pub go_back-requires-clause-within : goal.go_back-requires-clause-within
go_back-requires-clause-within c = (latest_points c.resuming.machine c.pop.new.self c.resuming.points c.in-Some.field-0 c.in-Some.ensures.items c.resuming.invariant.points).0.within

pub go_back-requires-clause-waiting : goal.go_back-requires-clause-waiting
go_back-requires-clause-waiting c = (latest_points c.resuming.machine c.pop.new.self c.resuming.points c.in-Some.field-0 c.in-Some.ensures.items c.resuming.invariant.points).0.waiting

pub go_on_by-requires-clause-rest : goal.go_on_by-requires-clause-rest
go_on_by-requires-clause-rest c =
    subst (λ (n : ℕ). IsFitRest n c.in-Some.field-0.rest) (sym c.go_back.ensures.next)
    (latest_points c.resuming.machine c.pop.new.self c.resuming.points c.in-Some.field-0 c.in-Some.ensures.items c.resuming.invariant.points).0.rest

pub go_on_by-requires-clause-points : goal.go_on_by-requires-clause-points
go_on_by-requires-clause-points c =
    points_back c.resuming.machine c.pop.new.self c.resuming.points c.in-Some.field-0 c.in-Some.ensures.items c.go_back.new.self c.go_back.ensures.track c.resuming.invariant.points

pub returns-then-branch-clause-left : goal.returns-then-branch-clause-left
returns-then-branch-clause-left c =
    let gone = rw c.if-branch.true at c.in_ok-go_on_by.ensures.left in
    gone
    ∙ pending_back c.resuming.machine c.pop.new.self c.resuming.points c.in-Some.field-0 c.in-Some.ensures.items c.go_back.new.self c.go_back.ensures.track c.go_back.ensures.position
    ∙ c.resuming.invariant.left

pub resuming-preserved : goal.resuming-preserved
resuming-preserved c =
    let stayed = rw c.if-branch.false at c.in_ok-go_on_by.ensures.left in
    record {
      points = c.in_ok-go_on_by.ensures.points;
      left =
          stayed
          ∙ pending_back c.resuming.machine c.pop.new.self c.resuming.points c.in-Some.field-0 c.in-Some.ensures.items c.go_back.new.self c.go_back.ensures.track c.go_back.ensures.position
          ∙ c.resuming.invariant.left;
    }

pub resuming-smaller : goal.resuming-smaller
resuming-smaller c =
    let same = ap (λ (ps : List ChoicePoint). length ps) (c.in_ok-go_on_by.ensures.none c.if-branch.false) in
    let more = ap (λ (ps : List ChoicePoint). length ps) c.in-Some.ensures.items in
    let sum = length-append c.pop.new.self.items (c.in-Some.field-0 ∷ []) in
    omega (arith, same, more, sum)

pub returns-clause-left : goal.returns-clause-left
returns-clause-left c =
    let none = c.in_default.ensures.items ∙ append-nil c.pop.new.self.items in
    sym (ap (λ (ps : List ChoicePoint). positions_pending (track_of c.resuming.machine) (reverse ps)) none) ∙ c.resuming.invariant.left

pub returns-clause-none : goal.returns-clause-none
returns-clause-none c = λ e. nil_from_length c.pop.new.self.items (let l = c.pop.new.self.ok.0 in let h = c.in_default.ensures.cases in omega (arith, l, h.1))

pub returns-clause-points : goal.returns-clause-points
returns-clause-points c =
    let none = c.in_default.ensures.items ∙ append-nil c.pop.new.self.items in
    subst (λ (ps : List ChoicePoint). ArePoints (track_of c.resuming.machine) (reverse ps)) none c.resuming.invariant.points
