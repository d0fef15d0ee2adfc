use Rattle.std.proofs.Common.{List, [], ◌∷◌, map, refl}
use Rattle.ap_defs.specs.declared.terms.Cond.{Cond}
use Rattle.ap_steps.proofs.NameLemmas.{vars_next}
use Rattle.ap_steps.proofs.names.add_vars_in.Goals as goal

pub conds-preserved : goal.conds-preserved
conds-preserved c =
    vars_next (λ (cs : List Cond). map (λ (c : Cond). c.var) cs) (λ (c : Cond). c.var ∷ []) c.conds.rest.now c.in-Some.others.now c.in-Some.cond.now
    c.conds.vars.keys c.add_var.new.vars.keys _ (λ y ys. refl) c.in-Some.ensures.cases.0 c.in_ok-add_var.ensures c.conds.invariant
