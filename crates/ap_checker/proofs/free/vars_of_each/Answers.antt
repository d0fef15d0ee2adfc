use Rattle.std.proofs.Common.{[], ◌++◌, ap, ◌∙◌, arith}
use Rattle.ap_defs.specs.Terms.{term_of}
use Rattle.ap_defs.specs.Unification.{vars_then}
use Rattle.ap_checker.proofs.FreeLemmas.{each_vars}
use Rattle.ap_checker.proofs.free.vars_of_each.Goals as goal

pub loop-t-preserved : goal.loop-t-preserved
loop-t-preserved c =
    each_vars c.args.terms.now c.loop-t.t-index c.t-item.result c.loop-t.vars.items c.add_vars.new.vars.items (omega arith)
    (c.in_ok-add_vars.ensures ∙ ap (λ u. c.loop-t.vars.items ++ vars_then (term_of u) []) c.t-item.is)
    ∙ c.loop-t.invariant
