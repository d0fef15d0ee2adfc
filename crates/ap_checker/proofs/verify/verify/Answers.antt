use Rattle.std.proofs.Common.{◌≡◌, false, Some, sym, ap, ◌∙◌}
use Rattle.ap_shared.specs.SharedViews.{shared_answer, shared_derivation, shared_terms}
use Rattle.ap_defs.specs.Goals.{program_of, query_of}
use Rattle.ap_checks.specs.Checks.{is_answer, no, on_query, query_at, verdict_on}
use Rattle.ap_checker.proofs.AnswerLemmas.{answer_refused}
use Rattle.ap_checker.proofs.verify.verify.Goals as goal

pub returns-then-not-branch : goal.returns-then-not-branch
returns-then-not-branch c =
    let p = program_of c.args.program.now in
    let q = query_of c.in-Some.query.now in
    let ts = shared_terms c.args.terms.now in
    let a = shared_answer ts c.args.answer.now in
    let d = shared_derivation ts c.args.derivation.now in
    let same = c.program-program.ensures.same in
    let told = rw c.in-Some-2.is at c.in_ok-indexed.ensures in
    let asked : query_at p.queries c.args.query ≡ Some q = rw same at c.in-Some.ensures in
    let refused : is_answer p q a ≡ false =
    ap (λ r. is_answer (program_of r) q a) (sym same) ∙ ap (λ b. is_answer (program_of c.program-program.result.now) q (shared_answer ts b)) (sym told.1)
    ∙ sym c.in_ok-answer_fits.ensures.fits ∙ c.if-not-branch.true in
    ap (no 0) c.number-rule.ensures ∙ answer_refused p q a d refused ∙ sym (ap (λ o. on_query o (λ r. verdict_on p r a d)) asked)
