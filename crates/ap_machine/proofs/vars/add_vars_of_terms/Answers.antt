use Rattle.std.proofs.Common.{◌<◌, ◌+◌, ◌++◌, [], length, drop, map, refl, ap, ◌∙◌, arith}
use Rattle.ap_defs.specs.Occurrences.{vars_of_terms}
use Rattle.ap_defs.specs.Terms.{term_of}
use Rattle.ap_defs.specs.Unification.{has_var, vars_then}
use Rattle.ap_search.proofs.RecordLemmas.{append_same_vars}
use Rattle.ap_machine.proofs.VarLemmas.{read_step}
use Rattle.ap_machine.proofs.vars.add_vars_of_terms.Goals as goal

pub adding-preserved : goal.adding-preserved
adding-preserved c =
    let h : c.adding.t-index < length c.args.terms.now = omega arith in
    let xs = c.adding.vars.items in
    let ys = c.add_vars_of.new.vars.items in
    let more = xs ++ vars_then (term_of c.t-item.result) [] in
    let rest = vars_of_terms (map term_of (drop (c.adding.t-index + 1) c.args.terms.now)) in
    λ y. append_same_vars ys more rest rest c.in_ok-add_vars_of.ensures (λ x. refl) y
    ∙ ap (has_var y) (read_step term_of c.args.terms.now c.adding.t-index c.t-item.result xs more h c.t-item.is refl)
    ∙ c.adding.invariant y
