use Rattle.std.proofs.Common.{ap₂, ◌∙◌}
use Rattle.ap_defs.specs.Answers.{NominalAnswer}
use Rattle.ap_defs.specs.Derivations.{NominalDerivation}
use Rattle.ap_bundle.specs.Bundles.{NominalProved}
use Rattle.ap_shared.specs.SharedViews.{shared_terms}
use Rattle.ap_shared.proofs.SharingLemmas.{answer_grown}
use Rattle.ap_query_proofs.proofs.proving.prove_answer.Goals as goal

pub returns : goal.returns
returns c = λ q t asked leads.
    let ts = shared_terms c.share_answer.new.table in
    let us = shared_terms c.in_ok-found.found.terms in
    let a = answer_grown ts us c.in_ok-answer.answer c.in_ok-found.ensures.grown c.in_ok-answer.ensures.below ∙ c.in_ok-answer.ensures.answer in
    let d = c.in_ok-found.ensures.derivation q t asked leads in
    rw c.in_ok-terms.ensures.ok (ap₂ (λ (b : NominalAnswer) (e : NominalDerivation). record { query = c.args.p.now.query; answer = b; derivation = e }) a d)
