use Rattle.std.proofs.Common.{◌≡◌, ◌∙◌, rules}
use Rattle.std.proofs.iter.runs.Made.{chains}
use Rattle.std.specs.List.{count_by}
use Rattle.ap_defs.specs.Answers.{out_of}
use Rattle.ap_defs.specs.Lines.{is_found}
use Rattle.ap_answers.proofs.LineLemmas.{counted}
use Rattle.ap_answers.proofs.report.count_answers.Goals as goal

pub returns : goal.returns
returns c =
    let here : c.count.result ≡ count_by (λ o. is_found (out_of o)) c.args.outs.now = search (rules, chains) in
    here ∙ counted is_found c.args.outs.now
