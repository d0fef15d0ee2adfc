use Rattle.ap_equations.specs.Plain.{plain_term}
use Rattle.ap_store.specs.Views.{present}
use Rattle.ap_unify.proofs.MovedLemmas.{followed_below, susp_has_variable}
use Rattle.ap_unify.proofs.moved.head_within.Goals as goal

pub returns-in-Susp-clause-below : goal.returns-in-Susp-clause-below
returns-in-Susp-clause-below c = λ q h.
    followed_below (present c.args.store.now).next q (plain_term c.args.p) (plain_term c.headed.result.part)
    (susp_has_variable c.args.p.base c.args.p.term.now c.in-Susp.field-0 c.in-Susp.field-1 c.in-Susp.is) c.headed.ensures.below h
