use Rattle.std.proofs.Common.{length, subst, sym}
use Rattle.ap_shared.specs.Shared.{AreLinesBelow}
use Rattle.ap_shared.specs.SharedViews.{shared_terms}
use Rattle.ap_shared.proofs.sharing.share_answer.Goals as goal

pub returns-clause-below : goal.returns-clause-below
returns-clause-below c = subst (AreLinesBelow (length (shared_terms c.enter_each.new.table))) (sym c.of-binds.ensures) c.in_ok-enter_each.ensures.below
