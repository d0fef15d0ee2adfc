use Rattle.std.proofs.Common.{[], ◌++◌, ap, ◌∙◌, arith}
use Rattle.ap_defs.specs.Occurrences.{names_then}
use Rattle.ap_defs.specs.Terms.{term_of}
use Rattle.ap_checker.proofs.FreeLemmas.{each_names}
use Rattle.ap_checker.proofs.free.names_of_each.Goals as goal

pub loop-t-preserved : goal.loop-t-preserved
loop-t-preserved c =
    each_names c.args.terms.now c.loop-t.t-index c.t-item.result c.loop-t.names.items c.add_names.new.names.items (omega arith)
    (c.in_ok-add_names.ensures ∙ ap (λ u. c.loop-t.names.items ++ names_then (term_of u) []) c.t-item.is)
    ∙ c.loop-t.invariant
