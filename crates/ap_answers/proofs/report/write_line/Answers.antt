use Rattle.std.proofs.Common.{refl}
use Rattle.ap_defs.specs.Types.{locals_of}
use Rattle.ap_defs.specs.Goals.{program_of}
use Rattle.ap_defs.specs.Answers.{outs_of}
use Rattle.ap_defs.specs.Lines.{line_text}
use Rattle.ap_answers.proofs.LineLemmas.{cuts_line, found_line, stuck_line}
use Rattle.ap_answers.proofs.report.write_line.Goals as goal

pub returns-in_ok-write_cuts-in-Cut : goal.returns-in_ok-write_cuts-in-Cut
returns-in_ok-write_cuts-in-Cut c =
    cuts_line (line_text (program_of c.args.program.now) (locals_of c.args.locals.now)) (outs_of c.args.outs.now) c.args.outs.now c.index-outs-0.result c.in-Cut.field-0 c.leading_cuts-count.result
    c.args.out.now.items c.write_cuts.new.out.items refl c.requires.some c.index-outs-0.is c.in-Cut.is c.leading_cuts-count.ensures c.in_ok-write_cuts-in-Cut.ensures

pub returns-in_ok-write_stuck-in-Stuck : goal.returns-in_ok-write_stuck-in-Stuck
returns-in_ok-write_stuck-in-Stuck c =
    stuck_line (line_text (program_of c.args.program.now) (locals_of c.args.locals.now)) (outs_of c.args.outs.now) c.args.outs.now c.index-outs-0.result c.in-Stuck.field-0 c.leading_stuck-count.result
    c.args.out.now.items c.write_stuck.new.out.items refl c.requires.some c.index-outs-0.is c.in-Stuck.is c.leading_stuck-count.ensures c.in_ok-write_stuck-in-Stuck.ensures

pub returns-in_ok-push-in-Found : goal.returns-in_ok-push-in-Found
returns-in_ok-push-in-Found c =
    found_line (line_text (program_of c.args.program.now) (locals_of c.args.locals.now)) (outs_of c.args.outs.now) c.args.outs.now c.index-outs-0.result c.in-Found.field-0 c.in-Found.answer
    c.args.out.now.items c.write_answer.new.out.items c.push.new.self.items refl c.requires.some c.index-outs-0.is c.in-Found.is c.in_ok-write_answer-in-Found.ensures c.in_ok-push-in-Found.ensures.items
