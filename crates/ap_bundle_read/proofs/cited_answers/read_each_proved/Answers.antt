use Rattle.std.proofs.Common.{◌-◌, ◌+◌, ◌∷◌, [], map, arith, sym, ap, ◌∙◌}
use Rattle.std.proofs.lemmas.List.{map-append}
use Rattle.std.proofs.lemmas.Result.{err_from_is_err_and}
use Rattle.ap_bundle.specs.Reading.{read_proved}
use Rattle.ap_bundle.specs.TableForms.{read_cited}
use Rattle.ap_shared.specs.SharedViews.{shared_proved, shared_terms}
use Rattle.ap_bundle_read.specs.Outcomes.{place_of}
use Rattle.ap_bundle_read.proofs.RepeatLemmas.{repeated_on, repeated_ends, repeated_fails, fails_on}
use Rattle.ap_bundle_read.proofs.cited_answers.read_each_proved.Goals as goal

pub returns-in_err-proved : goal.returns-in_err-proved
returns-in_err-proved c =
    let p = err_from_is_err_and c.from_residual.result c.from_residual.ensures.1 in
    rw (p.1, p.2) (fails_on c.in_err-proved.field-0.0 _ _ (λ w got. sym c.loop.invariant ∙ repeated_fails (read_proved (read_cited (shared_terms c.args.table.now.value))) (c.args.count - c.loop.counter) (c.args.count - (c.loop.counter + 1)) (map shared_proved c.loop.all.items) (place_of c.loop.place) w (omega arith) got) c.in_err-proved.ensures)

pub loop-preserved : goal.loop-preserved
loop-preserved c =
    let items = ap (map shared_proved) c.in_ok-push.ensures.items ∙ map-append shared_proved c.loop.all.items (c.in_ok-proved.proved ∷ []) in
    let next = repeated_on (read_proved (read_cited (shared_terms c.args.table.now.value))) (c.args.count - c.loop.counter) (c.args.count - (c.loop.counter + 1)) (map shared_proved c.loop.all.items) (place_of c.loop.place) (place_of c.in_ok-proved.rest) (shared_proved c.in_ok-proved.proved) (omega arith) c.in_ok-proved.ensures in
    rw items (next ∙ c.loop.invariant)

pub returns : goal.returns
returns c = sym c.loop.invariant ∙ repeated_ends (read_proved (read_cited (shared_terms c.args.table.now.value))) (c.args.count - c.loop.counter) (map shared_proved c.loop.all.items) (place_of c.loop.place) (omega arith)
