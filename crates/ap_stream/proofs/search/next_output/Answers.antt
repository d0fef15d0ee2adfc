use Rattle.std.proofs.Common.{◌≡◌, true, [], refl, ap, ◌∙◌, sym}
use Rattle.std.specs.Prelude.{reverse}
use Rattle.ap_defs.specs.Goals.{program_in}
use Rattle.ap_machine.specs.Asking.{answering_of}
use Rattle.ap_backchain.specs.Ends.{without_path}
use Rattle.ap_machine.specs.Machines.{position_of, track_of}
use Rattle.ap_backchain.specs.ChoicePoints.{positions_pending}
use Rattle.ap_machine.specs.Positions.{turned}
use Rattle.ap_backchain.specs.Searches.{positions_followed, pending_positions, positions_with}
use Rattle.ap_backchain.proofs.SearchLemmas.{turn_lessens}
use Rattle.ap_stream.specs.Coming.{outs_coming}
use Rattle.ap_stream.proofs.ComingLemmas.{few_added, none_at_end, none_given, one_at_end, one_given}
use Rattle.ap_stream.proofs.search.next_output.Goals as goal

pub returns-then-not-branch-clause-none : goal.returns-then-not-branch-clause-none
returns-then-not-branch-clause-none c = λ e.
    let program = program_in c.args.clauses.now in
    let answering = answering_of c.args.asked.now in
    let p = position_of c.searching.machine in
    let ps = pending_positions c.searching.machine c.searching.points in
    let left : [] ≡ positions_followed (turned program answering p) ps =
    sym (ap (λ qs. positions_pending (track_of c.go_on.new.machine) (reverse qs)) (c.in_ok-go_on.ensures.none c.if-not-branch.true))
    ∙ ap (λ b. positions_with b c.go_on.new.machine c.go_on.new.points) (sym c.if-not-branch.true)
    ∙ c.in_ok-go_on.ensures.left in
    none_at_end program answering without_path c.searching.wanted c.go_on.new.wanted p ps [] c.searching.outs.items c.go_on.new.outs.items
    (outs_coming program answering c.args.wanted.now c.args.machine.now c.args.points.now) c.searching.invariant.none
    (c.is_wanting.ensures.yes c.searching-test.true) left c.in_ok-go_on.ensures.wanted c.in_ok-go_on.ensures.outs c.searching.invariant.coming
    refl (c.taken.ensures.none e)

pub taken-requires-in-searching : goal.taken-requires-in-searching
taken-requires-in-searching c =
    let program = program_in c.args.clauses.now in
    let answering = answering_of c.args.asked.now in
    few_added program answering without_path c.searching.wanted c.go_on.new.wanted (position_of c.searching.machine) (pending_positions c.searching.machine c.searching.points)
    (positions_with true c.go_on.new.machine c.go_on.new.points) c.searching.outs.items c.go_on.new.outs.items
    (outs_coming program answering c.args.wanted.now c.args.machine.now c.args.points.now) c.searching.invariant.none
    (c.is_wanting.ensures.yes c.searching-test.true)
    (ap (λ b. positions_with b c.go_on.new.machine c.go_on.new.points) (sym c.if-not-branch.false) ∙ c.in_ok-go_on.ensures.left)
    c.in_ok-go_on.ensures.wanted c.in_ok-go_on.ensures.outs c.searching.invariant.coming

pub searching-smaller : goal.searching-smaller
searching-smaller c =
    turn_lessens (program_in c.args.clauses.now) (answering_of c.args.asked.now) without_path (position_of c.searching.machine) (pending_positions c.searching.machine c.searching.points)
    (positions_with true c.go_on.new.machine c.go_on.new.points)
    (ap (λ b. positions_with b c.go_on.new.machine c.go_on.new.points) (sym c.if-not-branch.false) ∙ c.in_ok-go_on.ensures.left)

pub searching-preserved : goal.searching-preserved
searching-preserved c =
    let program = program_in c.args.clauses.now in
    let answering = answering_of c.args.asked.now in
    record {
      coming = none_given program answering without_path c.searching.wanted c.go_on.new.wanted (position_of c.searching.machine) (pending_positions c.searching.machine c.searching.points)
          (positions_with true c.go_on.new.machine c.go_on.new.points) c.searching.outs.items c.go_on.new.outs.items
          (outs_coming program answering c.args.wanted.now c.args.machine.now c.args.points.now) c.searching.invariant.none
          (c.is_wanting.ensures.yes c.searching-test.true)
          (ap (λ b. positions_with b c.go_on.new.machine c.go_on.new.points) (sym c.if-not-branch.false) ∙ c.in_ok-go_on.ensures.left)
          c.in_ok-go_on.ensures.wanted c.in_ok-go_on.ensures.outs c.searching.invariant.coming (c.in_default.ensures.none refl);
      none = c.in_default.ensures.taken;
      points = c.in_ok-go_on.ensures.points;
    }

pub taken-requires : goal.taken-requires
taken-requires c =
    let program = program_in c.args.clauses.now in
    let answering = answering_of c.args.asked.now in
    let p = position_of c.searching.machine in
    let ps = pending_positions c.searching.machine c.searching.points in
    let left : [] ≡ positions_followed (turned program answering p) ps =
    sym (ap (λ qs. positions_pending (track_of c.go_on.new.machine) (reverse qs)) (c.in_ok-go_on.ensures.none c.if-not-branch.true))
    ∙ ap (λ b. positions_with b c.go_on.new.machine c.go_on.new.points) (sym c.if-not-branch.true)
    ∙ c.in_ok-go_on.ensures.left in
    few_added program answering without_path c.searching.wanted c.go_on.new.wanted p ps [] c.searching.outs.items c.go_on.new.outs.items
    (outs_coming program answering c.args.wanted.now c.args.machine.now c.args.points.now) c.searching.invariant.none
    (c.is_wanting.ensures.yes c.searching-test.true) left c.in_ok-go_on.ensures.wanted c.in_ok-go_on.ensures.outs c.searching.invariant.coming

pub returns-then-not-branch-clause-some : goal.returns-then-not-branch-clause-some
returns-then-not-branch-clause-some c =
    let program = program_in c.args.clauses.now in
    let answering = answering_of c.args.asked.now in
    let p = position_of c.searching.machine in
    let ps = pending_positions c.searching.machine c.searching.points in
    let left : [] ≡ positions_followed (turned program answering p) ps =
    sym (ap (λ qs. positions_pending (track_of c.go_on.new.machine) (reverse qs)) (c.in_ok-go_on.ensures.none c.if-not-branch.true))
    ∙ ap (λ b. positions_with b c.go_on.new.machine c.go_on.new.points) (sym c.if-not-branch.true)
    ∙ c.in_ok-go_on.ensures.left in
    one_at_end program answering without_path c.searching.wanted c.go_on.new.wanted p ps [] c.searching.outs.items c.go_on.new.outs.items
    (outs_coming program answering c.args.wanted.now c.args.machine.now c.args.points.now) c.searching.invariant.none
    (c.is_wanting.ensures.yes c.searching-test.true) left c.in_ok-go_on.ensures.wanted c.in_ok-go_on.ensures.outs c.searching.invariant.coming
    refl c.taken.result c.taken.ensures.some

pub returns-in-Some-clause-some : goal.returns-in-Some-clause-some
returns-in-Some-clause-some c =
    let program = program_in c.args.clauses.now in
    let answering = answering_of c.args.asked.now in
    one_given program answering without_path c.searching.wanted c.go_on.new.wanted (position_of c.searching.machine) (pending_positions c.searching.machine c.searching.points)
    (positions_with true c.go_on.new.machine c.go_on.new.points) c.searching.outs.items c.go_on.new.outs.items
    (outs_coming program answering c.args.wanted.now c.args.machine.now c.args.points.now) c.searching.invariant.none
    (c.is_wanting.ensures.yes c.searching-test.true)
    (ap (λ b. positions_with b c.go_on.new.machine c.go_on.new.points) (sym c.if-not-branch.false) ∙ c.in_ok-go_on.ensures.left)
    c.in_ok-go_on.ensures.wanted c.in_ok-go_on.ensures.outs c.searching.invariant.coming c.in-Some.out c.in-Some.ensures.some
