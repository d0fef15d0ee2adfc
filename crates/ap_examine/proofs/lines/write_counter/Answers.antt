use Rattle.std.proofs.Common.{◌∙◌, ◌++◌, [], ◌∷◌, ap}
use Rattle.std.specs.Prelude.{codes}
use Rattle.std.proofs.lemmas.List.{append_assoc}
use Rattle.std.proofs.lemmas.Result.{on_ok_weaker}
use Rattle.ap_defs.specs.Answers.{answer_of}
use Rattle.ap_defs.specs.Goals.{program_of}
use Rattle.ap_defs.specs.Lines.{answer_text}
use Rattle.ap_defs.specs.Types.{locals_of}
use Rattle.ap_examine.specs.Reports.{property_line}
use Rattle.ap_examine.proofs.lines.write_counter.Goals as goal

pub returns : goal.returns
returns c =
    let out = c.args.out.now.items in
    let text = answer_text (program_of c.args.program.now) (locals_of c.args.locals.now) (answer_of c.args.answer.now) in
    let line = property_line c.args.number (codes "counterexample") in
    on_ok_weaker c.write_line.result
    (λ written.
    written
    ∙ ap (λ l. l ++ line) (c.in_ok-push.ensures.items ∙ ap (λ l. l ++ 10 ∷ []) c.in_ok-write_answer.ensures)
    ∙ append_assoc (out ++ text) (10 ∷ []) line ∙ append_assoc out text (10 ∷ [] ++ line))
    c.write_line.ensures
