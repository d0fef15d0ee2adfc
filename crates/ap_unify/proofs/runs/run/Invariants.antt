use Rattle.std.proofs.Common.{◌≡◌}
use Rattle.ap_defs.specs.Unification.{Progress}
use Rattle.ap_store.specs.Triples.{IsPrefixOf}
use Rattle.ap_store.specs.Views.{bindings_of, kinds, present, versions}
use Rattle.ap_unify.proofs.FewerLemmas.{steps_to_end}
use Rattle.ap_unify.specs.Parts.{Reaches}
use Rattle.ap_rules.specs.Work.{ArePairsBelow, GoOn, work_stage}
use Rattle.ap_unify.specs.Settled.{AreSettled}
use Rattle.ap_unify.specs.Solved.{AreSolved}
use Rattle.ap_unify.proofs.runs.run.Given as goal

-- what the work reaches, the first one reaches
abbrev pub invariant-rewriting : goal.invariant-rewriting
invariant-rewriting l = record {
  leads : (p : Progress) → Reaches (work_stage (bindings_of l.store) l.work) p → Reaches (work_stage (bindings_of l.initial.store) l.initial.work) p;
  pairs : ArePairsBelow (present l.store).next l.work.equations.items;
  settled : AreSettled (bindings_of l.store) l.settled;
  solved : AreSolved (work_stage (bindings_of l.store) l.work) l.solved;
  goes_on : GoOn (present l.initial.store) l.initial.work (present l.store) l.work;
  past : IsPrefixOf (versions l.initial.store) (versions l.store);
  kinds : kinds l.store ≡ kinds l.initial.store;
}

abbrev pub decreases-rewriting : goal.decreases-rewriting
decreases-rewriting l = steps_to_end (work_stage (bindings_of l.store) l.work)
