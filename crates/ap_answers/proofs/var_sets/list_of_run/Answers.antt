use Rattle.std.proofs.Common.{◌+◌, ◌++◌, [], ◌∷◌, List, refl, sym, ap, ◌∙◌, add-one}
use Rattle.ap_defs.specs.declared.terms.Var.{Var}
use Rattle.ap_answers.specs.VarSets.{vars_from}
use Rattle.ap_answers.proofs.VarSetLemmas.{from_end}
use Rattle.ap_answers.proofs.var_sets.list_of_run.Goals as goal

pub loop-i-preserved : goal.loop-i-preserved
loop-i-preserved c =
    let first = c.args.run.first in
    let x : Var = record { num = first + c.loop-i.i } in
    c.in_ok-push.ensures.items ∙ ap (λ (xs : List Var). xs ++ x ∷ []) c.loop-i.invariant ∙ from_end first c.loop-i.i x refl
    ∙ ap (vars_from first) (sym (add-one c.loop-i.i))
