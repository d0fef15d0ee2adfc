-- Bound variables that are known to stand for terms without variables.
use Rattle.std.specs.Prelude.{◌≡◌, ℕ, zero, suc, Bool, true, false, List, [], ◌∷◌}
use mathlib.Core.HLevel.{Unit-prop}
use Rattle.std.proofs.Props.{props}
use Rattle.ap_defs.specs.Substitution.{occurs, under}
use Rattle.ap_defs.specs.Terms.{NominalTerm, app, name, unit}
use Rattle.ap_defs.specs.declared.terms.Var.{Var}
use Rattle.ap_store.specs.Changes.{Change, Made, Bound, Added, Taken, after}
use Rattle.ap_store.specs.Triples.{Triple}
use Rattle.ap_store.specs.declared.slots.Slot.{Slot}
use Rattle.ap_store.specs.declared.slots.Value.{Value}
use Rattle.ap_store.specs.declared.slots.Value.TheVariants.{Unbound, Plain, Ground, Moved}

abbrev pub HasNoVars : NominalTerm → Type 0
HasNoVars t = (y : Var) → occurs y t ≡ false

-- a name, a constant or the term without parts
abbrev pub IsConstant : NominalTerm → Type 0
IsConstant unit = Unit {0}
IsConstant (name a) = Unit {0}
IsConstant (app f t) = t ≡ unit
IsConstant _ = ⊥

-- the binding is marked
abbrev pub is_ground_value : Value → Bool
is_ground_value Unbound = false
is_ground_value (Plain b t) = false
is_ground_value (Ground b t) = true
is_ground_value (Moved c) = false

-- the number is bound, and its binding is marked
abbrev pub ground_in : List Slot → ℕ → Bool
ground_in [] i = false
ground_in (s ∷ ss) zero = is_ground_value s.value
ground_in (s ∷ ss) (suc i) = ground_in ss i

-- what a marked variable is bound to stands for a term without variables when it is bound
abbrev pub IsGroundMark : (ℕ → Bool) → Change → Triple → Type 0
IsGroundMark m (Made n) a = Unit {0}
IsGroundMark m (Bound x t) a = m x.num ≡ true → HasNoVars (under a.bindings t)
IsGroundMark m (Added c) a = Unit {0}
IsGroundMark m (Taken x cs) a = Unit {0}

abbrev pub AreGroundMarks : (ℕ → Bool) → List Change → Triple → Type 0
AreGroundMarks m [] a = Unit {0}
AreGroundMarks m (c ∷ cs) a = IsGroundMark m c a × AreGroundMarks m cs (after c a)

mark_prop : (m : ℕ → Bool) (c : Change) (a : Triple) → IsProp (IsGroundMark m c a)
mark_prop m (Made n) a = Unit-prop
mark_prop m (Bound x t) a = hlevel props
mark_prop m (Added c) a = Unit-prop
mark_prop m (Taken x cs) a = Unit-prop

pub marks_prop : (m : ℕ → Bool) (cs : List Change) (a : Triple) → IsProp (AreGroundMarks m cs a)
marks_prop m [] a = Unit-prop
marks_prop m (c ∷ cs) a = let h : IsProp (IsGroundMark m c a) = mark_prop m c a in let k : IsProp (AreGroundMarks m cs (after c a)) = marks_prop m cs (after c a) in hlevel (props, h, k)
