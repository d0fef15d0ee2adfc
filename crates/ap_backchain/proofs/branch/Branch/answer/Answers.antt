use Rattle.std.proofs.Common.{ap, ◌∙◌}
use Rattle.ap_turns.specs.declared.standing.Standing.TheVariants as standings
use Rattle.ap_backchain.proofs.AnsweringLemmas.{answer_stands, answering}
use Rattle.ap_backchain.proofs.branch.Branch.answer.Goals as goal

pub unreachable-requires-in-Choosing : goal.unreachable-requires-in-Choosing
unreachable-requires-in-Choosing c = answering c.args.p.now c.args.self.now _ c.requires.query c.requires.of c.requires.answer c.in-Choosing.is

pub unreachable-requires-in-Failed : goal.unreachable-requires-in-Failed
unreachable-requires-in-Failed c = answering c.args.p.now c.args.self.now _ c.requires.query c.requires.of c.requires.answer c.in-Failed.is

pub unreachable-requires : goal.unreachable-requires
unreachable-requires c = answering c.args.p.now c.args.self.now _ c.requires.query c.requires.of c.requires.answer (c.in-Ended.is ∙ ap standings.Ended c.in-Cut.is)

pub unreachable-requires-in-Stuck : goal.unreachable-requires-in-Stuck
unreachable-requires-in-Stuck c = answering c.args.p.now c.args.self.now _ c.requires.query c.requires.of c.requires.answer (c.in-Ended.is ∙ ap standings.Ended c.in-Stuck.is)

pub returns : goal.returns
returns c =
    answer_stands c.args.p.now c.args.self.now c.in-Found.field-0 c.in-Found.answer c.copy_answer.result c.requires.of (c.in-Ended.is ∙ ap standings.Ended c.in-Found.is) c.copy_answer.ensures
