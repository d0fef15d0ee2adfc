-- That changes follow one another is a fact with one proof at most.
use Rattle.std.specs.Prelude.{List, [], ◌∷◌}
use mathlib.Core.HLevel.{Unit-prop}
use Rattle.std.proofs.Props.{props}
use Rattle.ap_defs.specs.Renaming.{IsBelow}
use Rattle.ap_defs.specs.declared.terms.Cond.{Cond}
use Rattle.ap_perm.specs.BelowProps.{below_prop}
use Rattle.ap_store.specs.Changes.{AreChanges, Change, IsChange, Made, Bound, Added, Taken, after}
use Rattle.ap_store.specs.Triples.{AreOnUnbound, Triple}

on_unbound_prop : (a : Triple) (cs : List Cond) → IsProp (AreOnUnbound a cs)
on_unbound_prop a [] = Unit-prop
on_unbound_prop a (c ∷ cs) = let h : IsProp (AreOnUnbound a cs) = on_unbound_prop a cs in hlevel (props, h)

change_prop : (c : Change) (a : Triple) → IsProp (IsChange c a)
change_prop (Made n) a = Unit-prop
change_prop (Bound x t) a = let h : IsProp (IsBelow a.next t) = below_prop a.next t in hlevel (props, h)
change_prop (Added c) a = on_unbound_prop a (c ∷ [])
change_prop (Taken x cs) a = hlevel props

pub changes_prop : (cs : List Change) (a : Triple) → IsProp (AreChanges cs a)
changes_prop [] a = Unit-prop
changes_prop (c ∷ cs) a = let h : IsProp (IsChange c a) = change_prop c a in let k : IsProp (AreChanges cs (after c a)) = changes_prop cs (after c a) in hlevel (props, h, k)
