use Rattle.std.proofs.Common.{◌≡◌, true, [], map, ap, ◌∙◌, sym, refl, arith}
use Rattle.std.specs.Prelude.{reverse}
use Rattle.ap_defs.specs.Answers.{outs_of}
use Rattle.ap_defs.specs.Goals.{program_in}
use Rattle.ap_paths.specs.declared.limits.Limit.TheVariants as limits
use Rattle.ap_backchain.specs.Ends.{kept_out}
use Rattle.ap_machine.specs.Machines.{position_of, track_of}
use Rattle.ap_backchain.specs.ChoicePoints.{positions_pending}
use Rattle.ap_machine.specs.Positions.{outs_from, turned}
use Rattle.ap_backchain.specs.Searches.{ended_outs, positions_followed, pending_positions, positions_with}
use Rattle.ap_backchain.specs.Wanted.{wanted_after}
use Rattle.ap_backchain.proofs.CountLemmas.{too_many, turn_chooses}
use Rattle.ap_backchain.proofs.SearchLemmas.{turn_keeps, turn_lessens}
use Rattle.ap_backchain.proofs.WantedLemmas.{nothing_left}
use Rattle.ap_machine.specs.Asking.{answering_of}
use Rattle.ap_backchain.proofs.counted.outputs_by_choices.Goals as goal

-- a choice more than may be made
pub returns-in_default-clause-many : goal.returns-in_default-clause-many
returns-in_default-clause-many c =
    λ none.
    let p = position_of c.searching.machine in
    let ps = pending_positions c.searching.machine c.searching.points in
    let more = too_many (program_in c.args.clauses.now) (answering_of c.args.asked.now) p ps (c.in_default.ensures.none refl).1 in
    let nothing = (c.in_default.ensures.none refl).0 in
    let count = c.searching.invariant.count in
    omega (arith, more, nothing, count)

pub returns-then-not-branch-clause-outs : goal.returns-then-not-branch-clause-outs
returns-then-not-branch-clause-outs c =
    let program = program_in c.args.clauses.now in
    let answering = answering_of c.args.asked.now in
    let kept = kept_out c.args.paths in
    let p = position_of c.searching.machine in
    let ps = pending_positions c.searching.machine c.searching.points in
    let all = map kept (outs_from program answering (position_of c.args.first)) in
    let left : [] ≡ positions_followed (turned program answering p) ps =
    sym (ap (λ qs. positions_pending (track_of c.go_on.new.machine) (reverse qs)) (c.in_ok-go_on.ensures.none c.if-not-branch.true))
    ∙ ap (λ b. positions_with b c.go_on.new.machine c.go_on.new.points) (sym c.if-not-branch.true)
    ∙ c.in_ok-go_on.ensures.left in
    nothing_left limits.All kept (outs_of c.go_on.new.outs.items) all
    (turn_keeps program answering kept limits.All limits.All p ps [] (outs_of c.searching.outs.items) (outs_of c.go_on.new.outs.items) all
    tt left refl c.in_ok-go_on.ensures.outs c.searching.invariant.all)

pub returns-then-not-branch-clause-few : goal.returns-then-not-branch-clause-few
returns-then-not-branch-clause-few c =
    let program = program_in c.args.clauses.now in
    let answering = answering_of c.args.asked.now in
    let p = position_of c.searching.machine in
    let ps = pending_positions c.searching.machine c.searching.points in
    let left : [] ≡ positions_followed (turned program answering p) ps =
    sym (ap (λ qs. positions_pending (track_of c.go_on.new.machine) (reverse qs)) (c.in_ok-go_on.ensures.none c.if-not-branch.true))
    ∙ ap (λ b. positions_with b c.go_on.new.machine c.go_on.new.points) (sym c.if-not-branch.true)
    ∙ c.in_ok-go_on.ensures.left in
    let made = turn_chooses program answering p ps [] left in
    let fewer = c.in-Some.ensures.some in
    let count = c.searching.invariant.count in
    omega (arith, made, fewer, count)

pub searching-smaller : goal.searching-smaller
searching-smaller c =
    turn_lessens (program_in c.args.clauses.now) (answering_of c.args.asked.now) (kept_out c.args.paths) (position_of c.searching.machine) (pending_positions c.searching.machine c.searching.points)
    (positions_with true c.go_on.new.machine c.go_on.new.points)
    (ap (λ b. positions_with b c.go_on.new.machine c.go_on.new.points) (sym c.if-not-branch.false) ∙ c.in_ok-go_on.ensures.left)

pub searching-preserved : goal.searching-preserved
searching-preserved c =
    let program = program_in c.args.clauses.now in
    let answering = answering_of c.args.asked.now in
    let kept = kept_out c.args.paths in
    let p = position_of c.searching.machine in
    let ps = pending_positions c.searching.machine c.searching.points in
    let qs = positions_with true c.go_on.new.machine c.go_on.new.points in
    let left : qs ≡ positions_followed (turned program answering p) ps =
    ap (λ b. positions_with b c.go_on.new.machine c.go_on.new.points) (sym c.if-not-branch.false) ∙ c.in_ok-go_on.ensures.left in
    record {
      all = turn_keeps program answering kept limits.All limits.All p ps qs (outs_of c.searching.outs.items) (outs_of c.go_on.new.outs.items)
          (map kept (outs_from program answering (position_of c.args.first))) tt left refl c.in_ok-go_on.ensures.outs c.searching.invariant.all;
      points = c.in_ok-go_on.ensures.points;
      wanted = c.in_ok-go_on.ensures.wanted ∙ ap (λ l. wanted_after l (ended_outs (turned program answering p))) c.searching.invariant.wanted;
      count = (let made = turn_chooses program answering p ps qs left in let fewer = c.in-Some.ensures.some in let count = c.searching.invariant.count in omega (arith, made, fewer, count));
    }
