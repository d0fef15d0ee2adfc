use Rattle.std.proofs.Common.{◌-◌, ◌+◌, ◌∷◌, [], map, arith, sym, ap, ◌∙◌}
use Rattle.std.proofs.lemmas.List.{map-append}
use Rattle.std.proofs.lemmas.Result.{err_from_is_err_and}
use Rattle.ap_defs.specs.Terms.{term_of}
use Rattle.ap_bundle_read.specs.Tables.{reader_of}
use Rattle.ap_bundle_read.specs.Outcomes.{place_of}
use Rattle.ap_bundle_read.proofs.RepeatLemmas.{repeated_on, repeated_ends, repeated_fails, fails_on}
use Rattle.ap_bundle_read.proofs.nodes.read_terms.Goals as goal

pub returns-in_err-term : goal.returns-in_err-term
returns-in_err-term c =
    let p = err_from_is_err_and c.from_residual-in_err-term.result c.from_residual-in_err-term.ensures.1 in
    rw (p.1, p.2) (fails_on c.in_err-term.field-0.0 _ _ (λ w got. sym c.loop.invariant ∙ repeated_fails (reader_of c.args.terms.now) (c.args.count - c.loop.counter) (c.args.count - (c.loop.counter + 1)) (map term_of c.loop.all.items) (place_of c.loop.place) w (omega arith) got) c.in_err-term.ensures)

pub loop-preserved : goal.loop-preserved
loop-preserved c =
    let items = ap (map term_of) c.in_ok-push.ensures.items ∙ map-append term_of c.loop.all.items (c.in_ok-term.term ∷ []) in
    let next = repeated_on (reader_of c.args.terms.now) (c.args.count - c.loop.counter) (c.args.count - (c.loop.counter + 1)) (map term_of c.loop.all.items) (place_of c.loop.place) (place_of c.in_ok-term.rest) (term_of c.in_ok-term.term) (omega arith) c.in_ok-term.ensures in
    rw items (next ∙ c.loop.invariant)

pub returns : goal.returns
returns c = sym c.loop.invariant ∙ repeated_ends (reader_of c.args.terms.now) (c.args.count - c.loop.counter) (map term_of c.loop.all.items) (place_of c.loop.place) (omega arith)
