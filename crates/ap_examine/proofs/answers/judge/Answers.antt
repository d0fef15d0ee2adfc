use Rattle.std.proofs.Common.{◌∙◌, List, ap}
use Rattle.ap_defs.specs.Answers.{answer_of, outs_of, query_outs}
use Rattle.ap_defs.specs.Goals.{program_of, query_of}
use Rattle.ap_defs.specs.declared.paths.Out.{Out}
use Rattle.ap_paths.specs.Limits.{part}
use Rattle.ap_paths.specs.declared.limits.Limit.TheVariants as limits
use Rattle.ap_property.specs.PutIn.{query_put_in}
use Rattle.ap_property.specs.Stated.{stated}
use Rattle.ap_property.specs.Verdicts.{verdict_of_outs}
use Rattle.ap_examine.proofs.PathLemmas.{verdict_without}
use Rattle.ap_examine.proofs.VerdictLemmas.{first_verdict}
use Rattle.ap_examine.proofs.answers.judge.Goals as goal

pub returns-clause-verdict : goal.returns-clause-verdict
returns-clause-verdict g c =
    let css = (program_of c.args.program).clauses in
    let depth = c.args.depth in
    let q = query_of c.args.query.now in
    let a = answer_of c.args.answer.now in
    c.verdict_of.ensures
    ∙ ap (λ (os : List Out). verdict_of_outs (outs_of os)) c.deref.ensures.value
    ∙ ap verdict_of_outs c.in_ok-searched.ensures.outs
    ∙ verdict_without (part (limits.First 1) (query_outs css depth (query_of c.in_ok-posed.posed.query)))
    ∙ first_verdict (query_outs css depth (query_of c.in_ok-posed.posed.query))
    ∙ ap (λ r. verdict_of_outs (query_outs css depth r)) c.in_ok-posed.ensures.query
    ∙ ap (λ cs. verdict_of_outs (query_outs css depth (query_put_in q (stated cs q.locals a)))) c.requires.constructors
