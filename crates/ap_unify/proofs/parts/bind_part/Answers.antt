use Rattle.ap_defs.specs.Substitution.{under}
use Rattle.ap_store.specs.Views.{bindings_of}
use Rattle.ap_unify.proofs.PartLemmas.{carried_bind}
use Rattle.ap_unify.proofs.parts.bind_part.Goals as goal
use Rattle.ap_equations.specs.Plain.{plain_term}

pub returns-clause-turn : goal.returns-clause-turn
returns-clause-turn c = λ f es ps.
    let s = bindings_of c.args.store.now in
    carried_bind s (bindings_of c.bind_plain.new.store) c.args.x (under s (plain_term c.args.p)) c.requires.unbound c.in_ok-bind_plain.ensures.bindings es ps
