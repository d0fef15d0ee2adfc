use Rattle.std.proofs.Common.{◌≡◌, ◌+◌, ◌*◌, ◌≤◌}
use Rattle.ap_defs.specs.Canonical.{canonical_term}
use Rattle.ap_defs.specs.Renaming.{IsBelow, rename_term}
use Rattle.ap_defs.specs.Terms.{term_of}
use Rattle.ap_defs.specs.Unification.{size}
use Rattle.ap_machine.specs.Closed.{closed_within, plain_meaning, rounds_work}
use Rattle.ap_machine.proofs.along.go_along.Given as goal

-- what is left of the term, within what stands round it, is all
abbrev pub invariant-going : goal.invariant-going
invariant-going l = record {
  below : IsBelow l.end (rename_term l.base (term_of l.rest));
  same : closed_within l.store l.rounds.items (canonical_term (plain_meaning l.store l.base (term_of l.rest)))
      ≡ closed_within l.store l.fn.rounds.items (canonical_term (plain_meaning l.store l.base (term_of l.fn.t)));
  less : rounds_work l.store l.rounds.items + 3 * size (plain_meaning l.store l.base (term_of l.rest))
      ≤ rounds_work l.store l.fn.rounds.items + 3 * size (plain_meaning l.store l.base (term_of l.fn.t));
}

abbrev pub decreases-going : goal.decreases-going
decreases-going l = size (term_of l.rest)
