use Rattle.std.proofs.Common.{List, [], ◌∷◌, refl}
use Rattle.ap_defs.specs.declared.terms.Name.{Name}
use Rattle.ap_steps.proofs.NameLemmas.{names_next}
use Rattle.ap_steps.proofs.names.add_listed.Goals as goal

pub names-preserved : goal.names-preserved
names-preserved c =
    names_next (λ (as' : List Name). as') (λ (a : Name). a ∷ []) c.names.rest.now c.in-Some.others.now c.in-Some.name.now
    c.names.names.keys c.add_name.new.names.keys _ (λ y ys. refl) c.in-Some.ensures.cases.0 c.in_ok-add_name.ensures c.names.invariant
