use Rattle.std.proofs.Common.{◌≡◌, ◌+◌, ◌++◌, map, rules, subst}
use Rattle.ap_defs.specs.Goals.{program_of}
use Rattle.ap_shared.specs.SharedViews.{shared_proved}
use Rattle.ap_verdicts.specs.Proofs.{query_proofs, wanted_proofs}
use Rattle.ap_program_proofs.proofs.ProgramLemmas.{one_more}
use Rattle.ap_program_proofs.proofs.proving.prove_program.Goals as goal

pub loop-place-preserved : goal.loop-place-preserved
loop-place-preserved g c =
    let p = program_of c.args.program.now in
    let place = c.loop-place.place in
    let old = map shared_proved c.loop-place.all.items in
    let new = map shared_proved c.prove_query.new.all.items in
    one_more p c.args.depth c.args.limit place old new (search rules)
    (λ q found. subst (λ d. new ≡ old ++ wanted_proofs c.args.limit (query_proofs p.clauses d (place + 1) q)) c.get.ensures.number (c.in_ok-prove_query.ensures q found))
    c.loop-place.invariant
