use Rattle.std.proofs.Common.{◌++◌, map, ap, sym, ◌∙◌, subst}
use Rattle.std.specs.Prelude.{Err, Ok, OnOk, Result, flat_map}
use Rattle.std.specs.List.{AllByRecursion}
use Rattle.ap_backchain.specs.Problems.{clauses_in}
use Rattle.ap_shared.specs.SharedViews.{shared_proved}
use Rattle.ap_query_proofs.specs.ProvedPaths.{IsLed, proof_at}
use Rattle.ap_query_proofs.proofs.ProvedOutLemmas.{outs_led, outs_proofs}
use Rattle.ap_query_proofs.proofs.proving.prove_query.Goals as goal

pub prove_outs-requires-clause-led : goal.prove_outs-requires-clause-led
prove_outs-requires-clause-led g c = λ q asked.
    subst (λ (os : _). AllByRecursion (IsLed (clauses_in c.args.p.now) c.args.p.now.depth q) os) (sym (c.in_ok-outs.ensures q asked)) (outs_led (clauses_in c.args.p.now) c.args.p.now.depth q c.args.limit)

-- what is known of a success, by what more is known of it
weaker : {A E : Type 0} (P Q : Type 0) (r : Result A E) → (P → Q) → OnOk r P → OnOk r Q
weaker P Q (Ok x) f p = f p
weaker P Q (Err e) f p = p

pub returns : goal.returns
returns g c =
    let p = c.args.p.now in
    let old = map shared_proved c.args.all.now.items in
    let new = map shared_proved c.prove_outs.new.all.items in
    weaker _ _ c.prove_outs.result
    (λ h q asked.
    h q asked ∙ ap (λ os. old ++ flat_map (proof_at (clauses_in p) p.depth p.query q) os) (c.in_ok-outs.ensures q asked)
    ∙ ap (λ xs. old ++ xs) (outs_proofs (clauses_in p) p.depth q p.query c.args.limit))
    c.prove_outs.ensures
