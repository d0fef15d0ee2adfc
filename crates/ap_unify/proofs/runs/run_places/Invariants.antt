use Rattle.std.proofs.Common.{◌≡◌, [], drop}
use Rattle.ap_defs.specs.Unification.{ending}
use Rattle.ap_store.specs.Triples.{IsPrefixOf}
use Rattle.ap_store.specs.Views.{bindings_of, kinds, present, versions}
use Rattle.ap_unify.specs.Finishing.{EndsAs}
use Rattle.ap_unify.specs.Lists.{renamed_terms_in}
use Rattle.ap_rules.specs.Runs.{paired, stage_under}
use Rattle.ap_rules.specs.Work.{GoOn, problems_met}
use Rattle.ap_unify.proofs.runs.run_places.Given as goal

-- the equations of the later places are left
abbrev pub invariant-places : goal.invariant-places
invariant-places l = record {
  ending : EndsAs (stage_under (bindings_of l.initial.store) (paired (renamed_terms_in l.left) (renamed_terms_in l.right)) (problems_met l.initial.work))
      (ending (stage_under (bindings_of l.store) (paired (drop l.i (renamed_terms_in l.left)) (drop l.i (renamed_terms_in l.right))) (problems_met l.work)));
  none : l.work.equations.items ≡ [];
  goes_on : GoOn (present l.initial.store) l.initial.work (present l.store) l.work;
  past : IsPrefixOf (versions l.initial.store) (versions l.store);
  kinds : kinds l.store ≡ kinds l.initial.store;
}
