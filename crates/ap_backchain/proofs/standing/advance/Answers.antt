use Rattle.std.proofs.Common.{sym, ap, ◌∙◌}
use Rattle.ap_defs.specs.Answers.{out_of}
use Rattle.ap_defs.specs.Goals.{program_in}
use Rattle.ap_defs.specs.Types.{locals_of}
use Rattle.ap_machine.specs.Machines.{position_of}
use Rattle.ap_turns.specs.Ends.{end_out}
use Rattle.ap_turns.specs.Turned.{turned_of}
use Rattle.ap_machine.specs.Positions.{ends}
use Rattle.ap_turns.specs.declared.turns.Turn.{Turn}
use Rattle.ap_backchain.proofs.BranchLemmas.{ended_marks, ended_path, failed_marks, went_fewer, went_marks, went_path}
use Rattle.ap_machine.specs.Unbound.{answer_by_unbound}
use Rattle.ap_backchain.proofs.standing.advance.Goals as goal

pub advancing-smaller : goal.advancing-smaller
advancing-smaller c =
    let r = position_of c.take_turn.new.machine in
    went_fewer (program_in c.args.clauses.now) (answer_by_unbound (locals_of c.args.locals.now)) (position_of c.advancing.here) c.in-None.ensures r
    (sym (ap (λ (t : Turn). turned_of t r) c.in-Goes.is) ∙ c.in_ok-end-in-None.ensures.turned)

pub advancing-preserved : goal.advancing-preserved
advancing-preserved c =
    let program = program_in c.args.clauses.now in let answering = answer_by_unbound (locals_of c.args.locals.now) in
    let r = position_of c.take_turn.new.machine in
    let e = sym (ap (λ (t : Turn). turned_of t r) c.in-Goes.is) ∙ c.in_ok-end-in-None.ensures.turned in
    record {
      marks = went_marks program answering (position_of c.advancing.here) c.in-None.ensures r e ∙ c.advancing.invariant.marks;
      path = went_path program answering (position_of c.advancing.here) c.in-None.ensures r e ∙ c.advancing.invariant.path;
    }

pub returns-in-Fails-clause-choosing : goal.returns-in-Fails-clause-choosing
returns-in-Fails-clause-choosing c = c.failed_at.ensures.choosing (program_in c.args.clauses.now)

pub returns-in-Ends-clause-marks : goal.returns-in-Ends-clause-marks
returns-in-Ends-clause-marks c =
    let program = program_in c.args.clauses.now in let answering = answer_by_unbound (locals_of c.args.locals.now) in
    let r = position_of c.take_turn.new.machine in
    let e = ap ends (c.out_at.ensures ∙ ap (λ ps. end_out ps.items c.in-Ends.end) c.into_path.ensures) ∙ sym (ap (λ (t : Turn). turned_of t r) c.in-Ends.is) ∙ c.in_ok-end-in-None.ensures.turned in
    ended_marks program answering (position_of c.advancing.here) c.in-None.ensures (out_of c.out_at.result) e ∙ c.advancing.invariant.marks

pub returns-in-Ends-clause-path : goal.returns-in-Ends-clause-path
returns-in-Ends-clause-path c =
    let program = program_in c.args.clauses.now in let answering = answer_by_unbound (locals_of c.args.locals.now) in
    let r = position_of c.take_turn.new.machine in
    let e = ap ends (c.out_at.ensures ∙ ap (λ ps. end_out ps.items c.in-Ends.end) c.into_path.ensures) ∙ sym (ap (λ (t : Turn). turned_of t r) c.in-Ends.is) ∙ c.in_ok-end-in-None.ensures.turned in
    ended_path program answering (position_of c.advancing.here) c.in-None.ensures (out_of c.out_at.result) e ∙ c.advancing.invariant.path

pub returns-in-Fails-clause-marks : goal.returns-in-Fails-clause-marks
returns-in-Fails-clause-marks c =
    let program = program_in c.args.clauses.now in let answering = answer_by_unbound (locals_of c.args.locals.now) in
    let r = position_of c.take_turn.new.machine in
    let e = sym (ap (λ (t : Turn). turned_of t r) c.in-Fails.is) ∙ c.in_ok-end-in-None.ensures.turned in
    c.failed_at.ensures.marks program answering ∙ failed_marks program answering (position_of c.advancing.here) c.in-None.ensures e ∙ c.advancing.invariant.marks
