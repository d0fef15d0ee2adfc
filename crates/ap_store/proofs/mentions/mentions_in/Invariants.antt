-- while mentions are kept, they have the variables of the slots so far
use Rattle.std.proofs.Common.{◌≡◌, ◌<◌, ℕ, true, false}
use Rattle.ap_store.specs.Marks.{ground_in}
use Rattle.ap_store.specs.Mentions.{IsMentioned}
use Rattle.ap_store.specs.Slots.{bound_in, term_or_unit}
use Rattle.ap_theory.specs.Variables.{EachVar}
use Rattle.ap_store.proofs.mentions.mentions_in.Given as goal

abbrev pub invariant-gathering : goal.invariant-gathering
invariant-gathering l = l.mentions.is_kept ≡ true → (i : ℕ) → i < l.i → ground_in l.table i ≡ false → EachVar (IsMentioned l.mentions) (term_or_unit (bound_in l.table i))
