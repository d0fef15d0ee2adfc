use Rattle.std.proofs.Common.{◌-◌, ◌+◌, ◌∷◌, [], map, arith, sym, ap, ◌∙◌}
use Rattle.std.proofs.lemmas.List.{map-append}
use Rattle.std.proofs.lemmas.Result.{err_from_is_err_and}
use Rattle.ap_bundle.specs.TableForms.{read_cited}
use Rattle.ap_shared.specs.Shared.{shared_at}
use Rattle.ap_shared.specs.SharedViews.{shared_terms}
use Rattle.ap_bundle_read.specs.Outcomes.{place_of}
use Rattle.ap_bundle_read.proofs.RepeatLemmas.{repeated_on, repeated_ends, repeated_fails, fails_on}
use Rattle.ap_bundle_read.proofs.cited_nodes.read_lines.Goals as goal

pub returns-in_err-line : goal.returns-in_err-line
returns-in_err-line c =
    let p = err_from_is_err_and c.from_residual-in_err-line.result c.from_residual-in_err-line.ensures.1 in
    rw (p.1, p.2) (fails_on c.in_err-line.field-0.0 _ _ (λ w got. sym c.loop.invariant ∙ repeated_fails (read_cited (shared_terms c.args.table.now)) (c.args.count - c.loop.counter) (c.args.count - (c.loop.counter + 1)) (map (shared_at (shared_terms c.args.table.now)) c.loop.all.items) (place_of c.loop.place) w (omega arith) got) c.in_err-line.ensures)

pub loop-preserved : goal.loop-preserved
loop-preserved c =
    let items = ap (map (shared_at (shared_terms c.args.table.now))) c.in_ok-push.ensures.items ∙ map-append (shared_at (shared_terms c.args.table.now)) c.loop.all.items (c.in_ok-line.line ∷ []) in
    let next = repeated_on (read_cited (shared_terms c.args.table.now)) (c.args.count - c.loop.counter) (c.args.count - (c.loop.counter + 1)) (map (shared_at (shared_terms c.args.table.now)) c.loop.all.items) (place_of c.loop.place) (place_of c.in_ok-line.rest) (shared_at (shared_terms c.args.table.now) c.in_ok-line.line) (omega arith) c.in_ok-line.ensures in
    rw items (next ∙ c.loop.invariant)

pub returns : goal.returns
returns c = sym c.loop.invariant ∙ repeated_ends (read_cited (shared_terms c.args.table.now)) (c.args.count - c.loop.counter) (map (shared_at (shared_terms c.args.table.now)) c.loop.all.items) (place_of c.loop.place) (omega arith)
