use Rattle.std.proofs.Common.{List, [], ◌∷◌, map, refl}
use Rattle.ap_defs.specs.declared.terms.Cond.{Cond}
use Rattle.ap_steps.proofs.NameLemmas.{names_next}
use Rattle.ap_steps.proofs.names.add_names_in.Goals as goal

pub conds-preserved : goal.conds-preserved
conds-preserved c =
    names_next (λ (cs : List Cond). map (λ (c : Cond). c.name) cs) (λ (c : Cond). c.name ∷ []) c.conds.rest.now c.in-Some.others.now c.in-Some.cond.now
    c.conds.names.keys c.add_name.new.names.keys _ (λ y ys. refl) c.in-Some.ensures.cases.0 c.in_ok-add_name.ensures c.conds.invariant
