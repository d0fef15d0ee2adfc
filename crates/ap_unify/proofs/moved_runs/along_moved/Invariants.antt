use Rattle.std.proofs.Common.{◌≡◌}
use Rattle.ap_defs.specs.Unification.{Progress}
use Rattle.ap_store.specs.Triples.{IsPrefixOf}
use Rattle.ap_store.specs.Views.{bindings_of, kinds, present, versions}
use Rattle.ap_unify.proofs.FewerLemmas.{steps_to_end}
use Rattle.ap_unify.specs.Moved.{moved_equation}
use Rattle.ap_unify.specs.Parts.{AreBelowBoth, AreMarksTrue, AreWaitingMarksTrue, IsWaitingBelow, LeadsTo, stage_of}
use Rattle.ap_unify.specs.Solved.{AreSolved}
use Rattle.ap_rules.specs.Work.{GoOn}
use Rattle.ap_unify.proofs.moved_runs.along_moved.Given as goal

-- what the stage leads to, the first one leads to
abbrev pub invariant-going : goal.invariant-going
invariant-going l = record {
  leads : (p : Progress) → LeadsTo (stage_of (moved_equation l.sides) (bindings_of l.store) l.front.ahead.next l.front.waiting l.work) p → LeadsTo (stage_of (moved_equation l.initial.sides) (bindings_of l.initial.store) l.initial.front.ahead.next l.initial.front.waiting l.initial.work) p;
  solved : AreSolved (stage_of (moved_equation l.sides) (bindings_of l.store) l.front.ahead.next l.front.waiting l.work) l.solved;
  pair_below : AreBelowBoth (moved_equation l.sides) (present l.store).next l.front.ahead.next;
  waiting_below : IsWaitingBelow (moved_equation l.sides) (present l.store).next l.front.waiting;
  pair_marks : AreMarksTrue (bindings_of l.store) l.front.ahead.next;
  waiting_marks : AreWaitingMarksTrue (bindings_of l.store) l.front.waiting;
  goes_on : GoOn (present l.initial.store) l.initial.work (present l.store) l.work;
  past : IsPrefixOf (versions l.initial.store) (versions l.store);
  kinds : kinds l.store ≡ kinds l.initial.store;
}

abbrev pub decreases-going : goal.decreases-going
decreases-going l = steps_to_end (stage_of (moved_equation l.sides) (bindings_of l.store) l.front.ahead.next l.front.waiting l.work)
