-- What problems reduce to at the end of a run.
use Rattle.std.specs.Global.{Global}
use Rattle.std.specs.Prelude.{◌≡◌, Bool, true, false, List, Option, Some, None, Vec}
use Rattle.ap_defs.specs.Freshness.{Conds, add_conds, reduce}
use Rattle.ap_defs.specs.Substitution.{Binding, Problem, under, ◌#◌}
use Rattle.ap_defs.specs.Unification.{Ending, Stage, ending, finish}
use Rattle.ap_defs.specs.declared.terms.Cond.{Cond}

-- the conditions of a problem under bindings
abbrev pub reduced : List Binding → Problem → Option (List Cond)
reduced s (a # t) = reduce a (under s t)

abbrev pub some_if : {A : Type 0} → Bool → A → Option A
some_if false x = None
some_if true x = Some x

-- the conditions, added to those that are kept
abbrev pub with_kept : Conds → Option (List Cond) → Option Conds
with_kept kept None = None
with_kept kept (Some cs) = Some (add_conds cs kept)

-- the list in an option of a Vec
abbrev pub items_in : {A : Type 0} → Option (Vec A Global) → Option (List A)
items_in None = None
items_in (Some v) = Some v.items

-- whatever the conditions are, a run from the stage gives the result that this end gives
abbrev pub EndsAs : Stage → Ending → Type 0
EndsAs s e = (ds : Conds) → finish ds (ending s) ≡ finish ds e
