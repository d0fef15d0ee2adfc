use Rattle.std.proofs.Common.{◌+◌, ◌++◌, map, drop, sym, ap, ◌∙◌, arith}
use Rattle.ap_defs.specs.Lines.{shown_binds, var_texts}
use Rattle.ap_defs.specs.Terms.{term_of}
use Rattle.ap_defs.specs.Types.{locals_of}
use Rattle.ap_answers.specs.Bindings.{binds_of}
use Rattle.ap_answers.proofs.BindingLemmas.{texts_front}
use Rattle.ap_answers.proofs.bindings.shown_bindings.Goals as goal

pub loop-local-preserved : goal.loop-local-preserved
loop-local-preserved c =
    let i = c.loop-local.local-index in
    let ls = c.args.locals.now in
    c.in_ok-rest.ensures (var_texts (locals_of (drop (i + 1) ls)))
    ∙ ap (λ ws. binds_of c.loop-local.binds.items ++ shown_binds ws (map term_of c.loop-local.rest.now)) (sym (texts_front ls c.local-item.result i (omega arith) c.local-item.is))
    ∙ c.loop-local.invariant
