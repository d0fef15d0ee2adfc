use Rattle.std.proofs.Common.{◌++◌, ◌∙◌, ap, map, subst, sym}
use Rattle.ap_defs.specs.Answers.{answer_of, out_of}
use Rattle.ap_defs.specs.declared.paths.Out.{Out}
use Rattle.ap_backchain.specs.Problems.{clauses_in}
use Rattle.ap_checks.specs.Traces.{traced_query}
use Rattle.ap_shared.specs.SharedViews.{shared_proved}
use Rattle.ap_query_proofs.specs.ProvedPaths.{IsLed, proof_at}
use Rattle.ap_query_proofs.proofs.ProvedOutLemmas.{added, one_proof}
use Rattle.ap_query_proofs.proofs.proving.prove_out.Goals as goal

pub returns-in_ok-push-in-Found : goal.returns-in_ok-push-in-Found
returns-in_ok-push-in-Found c = λ q asked.
    let p = c.args.p.now in
    let a = answer_of c.in-Found.answer in
    let led = subst (λ (o : Out). IsLed (clauses_in p) p.depth q (out_of o)) c.in-Found.is (c.requires.led q asked) in
    let proof = one_proof (clauses_in p) p.depth q p.query c.in-Found.path a (shared_proved c.in_ok-proved-in-Found.proved) led (λ r t.
    c.in_ok-proved-in-Found.ensures q r asked (ap (traced_query (clauses_in p) p.depth q) c.choices.ensures ∙ t)) in
    added c.args.all.now.items c.push.new.self.items c.in_ok-proved-in-Found.proved _ c.in_ok-push-in-Found.ensures.items proof
    ∙ ap (λ (o : Out). map shared_proved c.args.all.now.items ++ proof_at (clauses_in p) p.depth p.query q (out_of o)) (sym c.in-Found.is)
