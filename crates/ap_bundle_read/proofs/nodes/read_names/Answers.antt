use Rattle.std.proofs.Common.{◌-◌, ◌+◌, arith, sym, ◌∙◌}
use Rattle.std.proofs.lemmas.Result.{err_from_is_err_and}
use Rattle.ap_bundle.specs.Reading.{read_name}
use Rattle.ap_bundle_read.specs.Outcomes.{place_of}
use Rattle.ap_bundle_read.proofs.RepeatLemmas.{repeated_on, repeated_ends, repeated_fails, fails_on}
use Rattle.ap_bundle_read.proofs.nodes.read_names.Goals as goal

pub returns-in_err-name : goal.returns-in_err-name
returns-in_err-name c =
    let p = err_from_is_err_and c.from_residual-in_err-name.result c.from_residual-in_err-name.ensures.1 in
    rw (p.1, p.2) (fails_on c.in_err-name.field-0.0 _ _ (λ w got. sym c.loop.invariant ∙ repeated_fails read_name (c.args.count - c.loop.counter) (c.args.count - (c.loop.counter + 1)) c.loop.names.items (place_of c.loop.place) w (omega arith) got) c.in_err-name.ensures)

pub loop-preserved : goal.loop-preserved
loop-preserved c =
    let items = c.in_ok-push.ensures.items in
    let next = repeated_on read_name (c.args.count - c.loop.counter) (c.args.count - (c.loop.counter + 1)) c.loop.names.items (place_of c.loop.place) (place_of c.in_ok-name.rest) c.in_ok-name.name (omega arith) c.in_ok-name.ensures in
    rw items (next ∙ c.loop.invariant)

pub returns : goal.returns
returns c = sym c.loop.invariant ∙ repeated_ends read_name (c.args.count - c.loop.counter) c.loop.names.items (place_of c.loop.place) (omega arith)
