use Rattle.std.proofs.Common.{◌∙◌}
use Rattle.std.proofs.lemmas.Result.{IfOk-weaker}
use Rattle.ap_defs.specs.Answers.{outs_of}
use Rattle.ap_derive.specs.Tables.{counts_of}
use Rattle.ap_query_proofs.proofs.PathLemmas.{all_lead, uses_there}
use Rattle.ap_query_proofs.proofs.counting.uses_of_query.Goals as goal

pub uses_at-requires-clause-lead : goal.uses_at-requires-clause-lead
uses_at-requires-clause-lead g c κs within =
    all_lead c.args.p.now c.requires.query (outs_of c.in_ok-outs.outs.items) c.deref.result.now c.in_ok-outs.ensures (c.deref.ensures.value ∙ c.in_ok-paths.ensures)

pub returns : goal.returns
returns g c =
    IfOk-weaker c.uses_at.result _ _
    (λ t is q asked.
    uses_there c.args.p.now c.requires.query q asked (counts_of t) (outs_of c.in_ok-outs.outs.items) c.deref.result.now (c.in_ok-outs.ensures q asked)
    (c.deref.ensures.value ∙ c.in_ok-paths.ensures) (is q asked))
    c.uses_at.ensures
