use Rattle.std.proofs.Common.{◌≡◌, true, [], map, refl, ap, ◌∙◌, sym, arith}
use Rattle.std.specs.Prelude.{reverse}
use Rattle.ap_defs.specs.Answers.{outs_of}
use Rattle.ap_defs.specs.Goals.{program_in}
use Rattle.ap_paths.specs.Limits.{part}
use Rattle.ap_backchain.specs.Ends.{kept_out}
use Rattle.ap_machine.specs.Machines.{position_of, track_of}
use Rattle.ap_backchain.specs.ChoicePoints.{positions_pending}
use Rattle.ap_machine.specs.Positions.{outs_from, outs_from_each, turned}
use Rattle.ap_backchain.specs.Searches.{positions_followed, pending_positions, positions_with}
use Rattle.ap_backchain.proofs.SearchLemmas.{turn_keeps, turn_lessens}
use Rattle.ap_backchain.proofs.WantedLemmas.{nothing_left, nothing_wanted}
use Rattle.ap_machine.specs.Asking.{answering_of}
use Rattle.ap_backchain.proofs.run.outputs_soon.Goals as goal

pub returns-then-not-branch-clause-outs : goal.returns-then-not-branch-clause-outs
returns-then-not-branch-clause-outs c =
    let program = program_in c.args.clauses.now in
    let answering = answering_of c.args.asked.now in
    let kept = kept_out c.args.paths in
    let p = position_of c.searching.machine in
    let ps = pending_positions c.searching.machine c.searching.points in
    let all = map kept (part c.args.limit (outs_from program answering (position_of c.args.first))) in
    let left : [] ≡ positions_followed (turned program answering p) ps =
    sym (ap (λ qs. positions_pending (track_of c.go_on.new.machine) (reverse qs)) (c.in_ok-go_on.ensures.none c.if-not-branch.true))
    ∙ ap (λ b. positions_with b c.go_on.new.machine c.go_on.new.points) (sym c.if-not-branch.true)
    ∙ c.in_ok-go_on.ensures.left in
    nothing_left c.go_on.new.wanted kept (outs_of c.go_on.new.outs.items) all
    (turn_keeps program answering kept c.searching.wanted c.go_on.new.wanted p ps [] (outs_of c.searching.outs.items) (outs_of c.go_on.new.outs.items) all
    (c.is_wanting.ensures.yes c.searching-test.true) left c.in_ok-go_on.ensures.wanted c.in_ok-go_on.ensures.outs c.searching.invariant.all)

pub searching-preserved : goal.searching-preserved
searching-preserved c =
    let program = program_in c.args.clauses.now in
    let answering = answering_of c.args.asked.now in
    let kept = kept_out c.args.paths in
    record {
      all = turn_keeps program answering kept c.searching.wanted c.go_on.new.wanted (position_of c.searching.machine) (pending_positions c.searching.machine c.searching.points)
          (positions_with true c.go_on.new.machine c.go_on.new.points)
          (outs_of c.searching.outs.items) (outs_of c.go_on.new.outs.items) (map kept (part c.args.limit (outs_from program answering (position_of c.args.first))))
          (c.is_wanting.ensures.yes c.searching-test.true)
          (ap (λ b. positions_with b c.go_on.new.machine c.go_on.new.points) (sym c.if-not-branch.false) ∙ c.in_ok-go_on.ensures.left)
          c.in_ok-go_on.ensures.wanted c.in_ok-go_on.ensures.outs c.searching.invariant.all;
      points = c.in_ok-go_on.ensures.points;
      count =
          (let fewer = turn_lessens program answering kept (position_of c.searching.machine) (pending_positions c.searching.machine c.searching.points) (positions_with true c.go_on.new.machine c.go_on.new.points)
          (ap (λ b. positions_with b c.go_on.new.machine c.go_on.new.points) (sym c.if-not-branch.false) ∙ c.in_ok-go_on.ensures.left) in
          let count = c.searching.invariant.count in
          let more = c.saturating_add-turns.ensures in
          omega (arith, fewer, count, more));
    }

-- no more answers are wanted
pub returns-clause-outs : goal.returns-clause-outs
returns-clause-outs c =
    let program = program_in c.args.clauses.now in
    let answering = answering_of c.args.asked.now in
    let kept = kept_out c.args.paths in
    nothing_wanted c.searching.wanted kept (outs_of c.searching.outs.items)
    (outs_from_each program answering (positions_with true c.searching.machine c.searching.points))
    (map kept (part c.args.limit (outs_from program answering (position_of c.args.first))))
    (c.is_wanting.ensures.no c.searching-test.false) c.searching.invariant.all

-- what is left takes one turn at least
pub returns-then-is_wide-clause-many : goal.returns-then-is_wide-clause-many
returns-then-is_wide-clause-many c =
    λ none.
    let program = program_in c.args.clauses.now in
    let answering = answering_of c.args.asked.now in
    let p = position_of c.searching.machine in
    let ps = pending_positions c.searching.machine c.searching.points in
    let some = turn_lessens program answering (kept_out c.args.paths) p ps (positions_followed (turned program answering p) ps) refl in
    let made = c.is_wide.ensures.few c.if-is_wide.true in
    let count = c.searching.invariant.count in
    omega (arith, some, made, count)

pub searching-smaller : goal.searching-smaller
searching-smaller c =
    turn_lessens (program_in c.args.clauses.now) (answering_of c.args.asked.now) (kept_out c.args.paths) (position_of c.searching.machine) (pending_positions c.searching.machine c.searching.points)
    (positions_with true c.go_on.new.machine c.go_on.new.points)
    (ap (λ b. positions_with b c.go_on.new.machine c.go_on.new.points) (sym c.if-not-branch.false) ∙ c.in_ok-go_on.ensures.left)
