-- That the numbers of a term are below a bound is a fact with one proof at most.
use Rattle.std.proofs.Common.{ℕ, List, [], ◌∷◌}
use mathlib.Core.HLevel.{Unit-prop}
use Rattle.std.proofs.Props.{props}
use Rattle.ap_defs.specs.Renaming.{AreSwapsBelow, IsBelow}
use Rattle.ap_defs.specs.Terms.{NominalTerm, unit, name, pair, app, abs, susp}
use Rattle.ap_defs.specs.declared.terms.Swap.{Swap}

swaps_below_prop : (n : ℕ) (p : List Swap) → IsProp (AreSwapsBelow n p)
swaps_below_prop n [] = Unit-prop
swaps_below_prop n (s ∷ p) = let h : IsProp (AreSwapsBelow n p) = swaps_below_prop n p in hlevel (props, h)

pub below_prop : (n : ℕ) (t : NominalTerm) → IsProp (IsBelow n t)
below_prop n unit = Unit-prop
below_prop n (name a) = hlevel props
below_prop n (pair t u) = let h : IsProp (IsBelow n t) = below_prop n t in let k : IsProp (IsBelow n u) = below_prop n u in hlevel (props, h, k)
below_prop n (app f t) = below_prop n t
below_prop n (abs a t) = let h : IsProp (IsBelow n t) = below_prop n t in hlevel (props, h)
below_prop n (susp p x) = let h : IsProp (AreSwapsBelow n p) = swaps_below_prop n p in hlevel (props, h)
