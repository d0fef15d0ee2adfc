use Rattle.std.proofs.Common.{◌+◌, [], ◌∷◌, refl, sym, ap, ◌∙◌, add-one}
use Rattle.ap_defs.specs.declared.terms.Var.{Var}
use Rattle.ap_answers.specs.Occurring.{more_vars}
use Rattle.ap_answers.specs.VarSets.{vars_from}
use Rattle.ap_answers.proofs.VarSetLemmas.{more_at_end}
use Rattle.ap_answers.proofs.var_sets.table_of_run.Goals as goal

pub loop-i-preserved : goal.loop-i-preserved
loop-i-preserved c =
    let first = c.args.run.first in
    let x : Var = record { num = first + c.loop-i.i } in
    c.in_ok-add_var.ensures ∙ ap (λ ks. more_vars ks (x ∷ [])) c.loop-i.invariant ∙ more_at_end first c.loop-i.i x refl
    ∙ ap (vars_from first) (sym (add-one c.loop-i.i))
