use Rattle.std.proofs.Common.{◌-◌, ◌+◌, arith, sym, ◌∙◌}
use Rattle.std.proofs.lemmas.Result.{err_from_is_err_and}
use Rattle.ap_bundle.specs.declared.faults.BundleKind.TheVariants.{Term}
use Rattle.ap_bundle.specs.LineForms.{cond_form}
use Rattle.ap_bundle.specs.Readers.{read_form}
use Rattle.ap_bundle_read.specs.Outcomes.{place_of}
use Rattle.ap_bundle_read.proofs.RepeatLemmas.{repeated_on, repeated_ends, repeated_fails, fails_on}
use Rattle.ap_bundle_read.proofs.answers.read_each_cond.Goals as goal

pub returns-in_err-cond : goal.returns-in_err-cond
returns-in_err-cond c =
    let p = err_from_is_err_and c.from_residual.result c.from_residual.ensures.1 in
    rw (p.1, p.2) (fails_on c.in_err-cond.field-0.0 _ _ (λ w got. sym c.loop.invariant ∙ repeated_fails (read_form Term cond_form) (c.args.count - c.loop.counter) (c.args.count - (c.loop.counter + 1)) c.loop.conds.items (place_of c.loop.place) w (omega arith) got) c.in_err-cond.ensures)

pub loop-preserved : goal.loop-preserved
loop-preserved c =
    let items = c.in_ok-push.ensures.items in
    let next = repeated_on (read_form Term cond_form) (c.args.count - c.loop.counter) (c.args.count - (c.loop.counter + 1)) c.loop.conds.items (place_of c.loop.place) (place_of c.in_ok-cond.rest) c.in_ok-cond.cond (omega arith) c.in_ok-cond.ensures in
    rw items (next ∙ c.loop.invariant)

pub returns : goal.returns
returns c = sym c.loop.invariant ∙ repeated_ends (read_form Term cond_form) (c.args.count - c.loop.counter) c.loop.conds.items (place_of c.loop.place) (omega arith)
