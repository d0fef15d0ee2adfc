use Rattle.std.proofs.Common.{ap₂, ap, sym, ◌∙◌}
use Rattle.ap_defs.specs.Answers.{NominalAnswer}
use Rattle.ap_defs.specs.Derivations.{NominalDerivation}
use Rattle.ap_shared.specs.SharedViews.{shared_terms}
use Rattle.ap_shared.proofs.SharingLemmas.{answer_grown}
use Rattle.ap_shared.proofs.sharing.shared.Goals as goal

pub returns : goal.returns
returns c =
    let ts = shared_terms c.share_answer.new.table in
    let us = shared_terms c.share_derivation.new.table in
    let a = answer_grown ts us c.in_ok-answer.answer c.in_ok-derivation.ensures.grown c.in_ok-answer.ensures.below ∙ c.in_ok-answer.ensures.answer in
    let d = c.in_ok-derivation.ensures.derivation in
    rw c.in_ok-new.ensures.ok (ap₂ (λ (b : NominalAnswer) (e : NominalDerivation). record { query = c.args.proved.now.query; answer = b; derivation = e }) a d)
