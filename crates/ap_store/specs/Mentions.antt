-- Variables that bindings mention.
use Rattle.std.specs.Prelude.{◌≡◌, ◌≤◌, ℕ, true, false, List}
use Rattle.std.proofs.Props.{props}
use Rattle.ap_defs.specs.declared.terms.Var.{Var}
use Rattle.ap_theory.specs.Variables.{EachVar}
use Rattle.ap_store.specs.Marks.{ground_in}
use Rattle.ap_store.specs.Passed.{is_mark_at}
use Rattle.ap_store.specs.Slots.{bound_in, term_or_unit}
use Rattle.ap_store.specs.declared.mentions.Mentions.{Mentions}
use Rattle.ap_store.specs.declared.slots.Slot.{Slot}

-- a variable from `below` on is marked
abbrev pub IsMentioned : Mentions → Var → Type 0
IsMentioned m y = m.below ≤ y.num → is_mark_at m.marks.items y.num ≡ true

-- while mentions are kept, they have each variable of what is bound, but for what is marked as ground
abbrev pub AreMentioned : Mentions → List Slot → Type 0
AreMentioned m ss = m.is_kept ≡ true → (i : ℕ) → ground_in ss i ≡ false → EachVar (IsMentioned m) (term_or_unit (bound_in ss i))

pub mentioned_prop : (m : Mentions) (ss : List Slot) → IsProp (AreMentioned m ss)
mentioned_prop m ss = hlevel props
