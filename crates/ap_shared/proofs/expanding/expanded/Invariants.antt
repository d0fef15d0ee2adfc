-- The tasks that are left make the term of the line, on what was made.
use Rattle.std.proofs.Common.{◌≡◌, [], ◌∷◌, Some}
use Rattle.std.specs.Prelude.{reverse}
use Rattle.ap_defs.specs.Terms.{term_of}
use Rattle.ap_shared.specs.Expanding.{made_by, stacked, weigh_tasks}
use Rattle.ap_shared.specs.Shared.{shared_at}
use Rattle.ap_shared.specs.SharedViews.{shared_terms}
use Rattle.ap_shared.proofs.expanding.expanded.Given as goal

abbrev pub invariant-loop-task : goal.invariant-loop-task
invariant-loop-task l = made_by (shared_terms l.terms) (reverse l.tasks.items) (stacked term_of l.made.items) ≡ Some (shared_at (shared_terms l.terms) l.line ∷ [])

abbrev pub decreases-loop-task : goal.decreases-loop-task
decreases-loop-task l = weigh_tasks (shared_terms l.terms) (reverse l.tasks.items)
