use Rattle.std.proofs.Common.{ap, subst, sym, ◌∙◌}
use Rattle.std.specs.Prelude.{is_some, not}
use Rattle.ap_store.specs.Founds.{IsWhatIsFound}
use Rattle.ap_store.specs.Views.{raw_bound}
use Rattle.ap_machine.proofs.AnswerLemmas.{bound_tells}
use Rattle.ap_machine.proofs.unbound.is_unbound.Goals as goal

pub returns-in-Nothing : goal.returns-in-Nothing
returns-in-Nothing c =
    let s = c.args.store.now in
    let k = subst (IsWhatIsFound (raw_bound s c.args.x)) c.in-Nothing.is c.found.ensures.found in
    sym (ap not (bound_tells s c.args.x ∙ ap is_some k))

pub returns-in-Plain : goal.returns-in-Plain
returns-in-Plain c =
    let s = c.args.store.now in
    let k = subst (IsWhatIsFound (raw_bound s c.args.x)) c.in-Plain.is c.found.ensures.found in
    sym (ap not (bound_tells s c.args.x ∙ ap is_some k))

pub returns-in-Moved : goal.returns-in-Moved
returns-in-Moved c =
    let s = c.args.store.now in
    let k = subst (IsWhatIsFound (raw_bound s c.args.x)) c.in-Moved.is c.found.ensures.found in
    sym (ap not (bound_tells s c.args.x ∙ ap is_some k.1))

pub returns-in-Ground : goal.returns-in-Ground
returns-in-Ground c =
    let s = c.args.store.now in
    let k = subst (IsWhatIsFound (raw_bound s c.args.x)) c.in-Ground.is c.found.ensures.found in
    sym (ap not (bound_tells s c.args.x ∙ ap is_some k))
