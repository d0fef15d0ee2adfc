use Rattle.std.proofs.Common.{refl, sym, ap, ◌∙◌}
use Rattle.ap_defs.specs.Goals.{goal_of, program_in}
use Rattle.ap_defs.specs.Renaming.{rename_goal}
use Rattle.ap_machine.specs.Machines.{position_of}
use Rattle.ap_turns.specs.Turned.{turned_of}
use Rattle.ap_turns.specs.declared.turns.Turn.{Turn}
use Rattle.ap_derive.proofs.SolvedLemmas.{goes_on, not_solved, settled_none}
use Rattle.ap_derive.proofs.selecting.settle.Goals as goal

pub turn_of_goal-requires-clause-settled : goal.turn_of_goal-requires-clause-settled
turn_of_goal-requires-clause-settled c =
    settled_none (program_in c.args.clauses.now) c.args.frame.depth (rename_goal c.args.frame.base (goal_of c.args.frame.goal.now)) c.requires.settled.0 c.requires.settled.1

pub returns : goal.returns
returns c =
    let q = position_of c.turn_of_goal.new.machine in
    λ path n e.
    goes_on (program_in c.args.clauses.now) path c.args.frame.depth (rename_goal c.args.frame.base (goal_of c.args.frame.goal.now)) (position_of c.args.machine.now) n e q
    (sym (ap (λ (t : Turn). turned_of t q) c.in-Goes.is) ∙ c.in_ok-turn_of_goal.ensures.turned)

pub unreachable-requires : goal.unreachable-requires
unreachable-requires c =
    let q = position_of c.turn_of_goal.new.machine in
    not_solved (program_in c.args.clauses.now) c.requires.solved.0 c.args.frame.depth (rename_goal c.args.frame.base (goal_of c.args.frame.goal.now)) (position_of c.args.machine.now) c.requires.settled.0 c.requires.settled.1 _ refl
    (sym (ap (λ (t : Turn). turned_of t q) c.in-Fails.is) ∙ c.in_ok-turn_of_goal.ensures.turned) c.requires.solved.1

pub unreachable-requires-in-Ends : goal.unreachable-requires-in-Ends
unreachable-requires-in-Ends c =
    let q = position_of c.turn_of_goal.new.machine in
    not_solved (program_in c.args.clauses.now) c.requires.solved.0 c.args.frame.depth (rename_goal c.args.frame.base (goal_of c.args.frame.goal.now)) (position_of c.args.machine.now) c.requires.settled.0 c.requires.settled.1 _ refl
    (sym (ap (λ (t : Turn). turned_of t q) c.in-Ends.is) ∙ c.in_ok-turn_of_goal.ensures.turned) c.requires.solved.1
