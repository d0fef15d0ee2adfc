use Rattle.std.proofs.Common.{◌-◌, ◌+◌, ◌∷◌, [], map, arith, sym, ap, ◌∙◌}
use Rattle.std.proofs.lemmas.List.{map-append}
use Rattle.std.proofs.lemmas.Result.{err_from_is_err_and}
use Rattle.ap_defs.specs.Answers.{typed_var_of}
use Rattle.ap_bundle.specs.declared.faults.BundleKind.TheVariants.{Term}
use Rattle.ap_bundle.specs.LineForms.{var_form}
use Rattle.ap_bundle.specs.Readers.{read_form}
use Rattle.ap_bundle_read.specs.Outcomes.{place_of}
use Rattle.ap_bundle_read.proofs.RepeatLemmas.{repeated_on, repeated_ends, repeated_fails, fails_on}
use Rattle.ap_bundle_read.proofs.answers.read_each_var.Goals as goal

pub returns-in_err-var : goal.returns-in_err-var
returns-in_err-var c =
    let p = err_from_is_err_and c.from_residual.result c.from_residual.ensures.1 in
    rw (p.1, p.2) (fails_on c.in_err-var.field-0.0 _ _ (λ w got. sym c.loop.invariant ∙ repeated_fails (read_form Term var_form) (c.args.count - c.loop.counter) (c.args.count - (c.loop.counter + 1)) (map typed_var_of c.loop.vars.items) (place_of c.loop.place) w (omega arith) got) c.in_err-var.ensures)

pub loop-preserved : goal.loop-preserved
loop-preserved c =
    let items = ap (map typed_var_of) c.in_ok-push.ensures.items ∙ map-append typed_var_of c.loop.vars.items (c.in_ok-var.var ∷ []) in
    let next = repeated_on (read_form Term var_form) (c.args.count - c.loop.counter) (c.args.count - (c.loop.counter + 1)) (map typed_var_of c.loop.vars.items) (place_of c.loop.place) (place_of c.in_ok-var.rest) (typed_var_of c.in_ok-var.var) (omega arith) c.in_ok-var.ensures in
    rw items (next ∙ c.loop.invariant)

pub returns : goal.returns
returns c = sym c.loop.invariant ∙ repeated_ends (read_form Term var_form) (c.args.count - c.loop.counter) (map typed_var_of c.loop.vars.items) (place_of c.loop.place) (omega arith)
