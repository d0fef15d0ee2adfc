use Rattle.std.proofs.Common.{◌-◌, ◌+◌, arith, sym, ap, ◌∙◌}
use Rattle.std.proofs.lemmas.Result.{err_from_is_err_and}
use Rattle.ap_bundle.specs.TableForms.{read_entries}
use Rattle.ap_bundle_read.specs.Outcomes.{place_of}
use Rattle.ap_shared.specs.Shared.{entry_term}
use Rattle.ap_shared.specs.SharedViews.{shared_terms}
use Rattle.ap_bundle_read.proofs.LoopLemmas.{entries_on, entries_fail, entries_end}
use Rattle.ap_bundle_read.proofs.RepeatLemmas.{fails_on}
use Rattle.ap_bundle_read.proofs.table.entries.read_entries.Goals as goal

pub returns-in_err-entry : goal.returns-in_err-entry
returns-in_err-entry c =
    let p = err_from_is_err_and c.from_residual.result c.from_residual.ensures.1 in
    record { value = rw (p.1, p.2) (fails_on c.in_err-entry.field-0.0 _ _ (λ w got. sym c.loop.invariant ∙ entries_fail (c.args.count - c.loop.counter) (c.args.count - (c.loop.counter + 1)) (shared_terms c.loop.table) (place_of c.loop.place) w (omega arith) got) c.in_err-entry.ensures.value) }

pub loop-preserved : goal.loop-preserved
loop-preserved c =
    let k = c.args.count - (c.loop.counter + 1) in
    let next = entries_on (c.args.count - c.loop.counter) k (shared_terms c.loop.table) (place_of c.loop.place) (place_of c.in_ok-entry.rest) (entry_term (shared_terms c.loop.table) c.in_ok-entry.entry) (omega arith) c.in_ok-entry.ensures.value in
    ap (λ z. read_entries k z (place_of c.in_ok-entry.rest)) c.in_ok-add.ensures.terms ∙ next ∙ c.loop.invariant

pub returns : goal.returns
returns c = record { value = sym c.loop.invariant ∙ entries_end (c.args.count - c.loop.counter) (shared_terms c.loop.table) (place_of c.loop.place) (omega arith) }
