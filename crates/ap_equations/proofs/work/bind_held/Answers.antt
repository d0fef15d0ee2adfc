use Rattle.std.proofs.Common.{◌≡◌, ◌∙◌, ap, subst, sym}
use Rattle.std.specs.Prelude.{OnOk}
use Rattle.ap_defs.specs.Renaming.{IsBelow}
use Rattle.ap_defs.specs.Substitution.{occurs, under}
use Rattle.ap_defs.specs.Terms.{NominalTerm}
use Rattle.ap_store.specs.Marks.{HasNoVars}
use Rattle.ap_store.specs.Triples.{with_binding}
use Rattle.ap_store.specs.Views.{bindings_of, present}
use Rattle.ap_equations.proofs.work.bind_held.Goals as goal

pub bind_var-requires-clause-below : goal.bind_var-requires-clause-below
bind_var-requires-clause-below c = subst (IsBelow (present c.args.store.now).next) (sym c.closure.ensures) c.requires.below

pub bind_var-requires-clause-absent : goal.bind_var-requires-clause-absent
bind_var-requires-clause-absent c = ap (λ (t : NominalTerm). occurs c.args.x (under (bindings_of c.args.store.now) t)) c.closure.ensures ∙ c.requires.absent

pub bind_var-requires-clause-no_vars : goal.bind_var-requires-clause-no_vars
bind_var-requires-clause-no_vars c = λ h. subst (λ (t : NominalTerm). HasNoVars (under (bindings_of c.args.store.now) t)) (sym c.closure.ensures) (c.requires.no_vars (c.is_ground.ensures.0 h))

pub returns-clause-bindings : goal.returns-clause-bindings
returns-clause-bindings c =
    let a = present c.args.store.now in
    subst (λ (t : NominalTerm). OnOk c.bind_var.result (bindings_of c.bind_var.new.store ≡ (with_binding c.args.x (under a.bindings t) a).bindings)) c.closure.ensures c.bind_var.ensures.bindings
