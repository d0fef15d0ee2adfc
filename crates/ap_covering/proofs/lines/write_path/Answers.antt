use Rattle.std.proofs.Common.{◌++◌, ap, ◌∙◌}
use Rattle.std.proofs.lemmas.Result.{IfOk-weaker}
use Rattle.ap_covering.specs.CoverLines.{path_text}
use Rattle.ap_covering.proofs.LineLemmas.{path_written}
use Rattle.ap_covering.proofs.lines.write_path.Goals as goal

pub returns : goal.returns
returns c =
    IfOk-weaker c.write_choices.result _ _
    (λ _ written. path_written c.choices.result.now c.args.out.now.items c.write_number.new.out.items c.write_choices.new.out.items c.in-len1-up.len_at_least c.in_ok-write_number.ensures written
    ∙ ap (λ l. c.args.out.now.items ++ path_text l) c.choices.ensures)
    c.write_choices.ensures
