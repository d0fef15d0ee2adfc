use Rattle.std.proofs.Common.{subst, sym}
use Rattle.ap_defs.specs.Answers.{answer_of, out_of}
use Rattle.ap_defs.specs.Goals.{program_of, query_of}
use Rattle.ap_defs.specs.declared.paths.Out.{Out}
use Rattle.ap_examine.specs.Exams.{instance_of}
use Rattle.ap_examine.specs.Steps.{exam_after, exam_next}
use Rattle.ap_examine.specs.Views.{IsExam}
use Rattle.ap_examine.proofs.answers.examine_out.Goals as goal

pub returns-in_ok-judged-in-Found-clause-exam : goal.returns-in_ok-judged-in-Found-clause-exam
returns-in_ok-judged-in-Found-clause-exam g c =
    let p = program_of c.args.program in
    let q = query_of c.args.query.now in
    let i = instance_of p c.args.depth q (answer_of c.in-Found.answer) in
    let x = c.after_verdict.result in
    let h = c.after_verdict.ensures i c.in_ok-judged-in-Found.ensures.stated in
    subst (λ (o : Out). IsExam x (exam_next p c.args.depth q c.args.tally (out_of o))) (sym c.in-Found.is)
    (subst (λ v. IsExam x (exam_after v c.args.tally i)) c.in_ok-judged-in-Found.ensures.verdict h)
