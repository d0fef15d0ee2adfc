use Rattle.std.proofs.Common.{[], ap, subst, sym, ◌∙◌}
use Rattle.std.specs.Prelude.{Some}
use Rattle.ap_store.specs.Founds.{IsWhatIsFound, bare_term}
use Rattle.ap_store.specs.Views.{raw_bound}
use Rattle.ap_store.proofs.store.Store.bare.Goals as goal
use Rattle.ap_theory.proofs.TermLemmas.{act_term_none}

pub returns-in-Nothing : goal.returns-in-Nothing
returns-in-Nothing c = subst (IsWhatIsFound (raw_bound c.args.self.now c.args.x)) c.in-Nothing.is c.found.ensures.found

pub returns-in-Plain : goal.returns-in-Plain
returns-in-Plain c = ([], subst (IsWhatIsFound (raw_bound c.args.self.now c.args.x)) c.in-Plain.is c.found.ensures.found ∙ ap Some (sym (act_term_none (bare_term c.in-Plain.b))))

pub returns-in-Moved : goal.returns-in-Moved
returns-in-Moved c = subst (IsWhatIsFound (raw_bound c.args.self.now c.args.x)) c.in-Moved.is c.found.ensures.found

pub returns-in-Ground : goal.returns-in-Ground
returns-in-Ground c = ([], subst (IsWhatIsFound (raw_bound c.args.self.now c.args.x)) c.in-Ground.is c.found.ensures.found ∙ ap Some (sym (act_term_none (bare_term c.in-Ground.b))))
