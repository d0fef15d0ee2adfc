use Rattle.std.proofs.Common.{◌∙◌, ◌++◌, subst, ap}
use Rattle.std.proofs.lemmas.Result.{on_ok_weaker}
use Rattle.ap_defs.specs.Goals.{program_of}
use Rattle.ap_defs.specs.Types.{locals_of}
use Rattle.ap_examine.specs.Views.{IsExam}
use Rattle.ap_examine.specs.declared.exam.Exam.{Exam}
use Rattle.ap_examine.proofs.LineLemmas.{counter_written}
use Rattle.ap_examine.proofs.lines.write_exam.Goals as goal

pub returns-in-Counter : goal.returns-in-Counter
returns-in-Counter c =
    on_ok_weaker c.write_counter.result
    (λ written e is. written ∙ ap (λ t. c.args.out.now.items ++ t) (counter_written (program_of c.args.program.now) (locals_of c.args.locals.now) c.args.number c.in-Counter._number c.in-Counter.answer e (subst (λ (x : Exam). IsExam x e) c.in-Counter.is is)))
    c.write_counter.ensures
