-- Equations of parts on which swappings wait, the same for all parts of a side.
use Rattle.std.specs.Prelude.{List, ◌++◌}
use Rattle.ap_defs.specs.Permutations.{inverse}
use Rattle.ap_defs.specs.Substitution.{Equation, ◌≐◌}
use Rattle.ap_defs.specs.Terms.{abs, act_term}
use Rattle.ap_defs.specs.declared.terms.Name.{Name}
use Rattle.ap_defs.specs.declared.terms.Swap.{Swap}
use Rattle.ap_equations.specs.Plain.{plain_term}
use Rattle.ap_equations.specs.declared.plain.PlainPair.{PlainPair}
use Rattle.ap_unify.specs.declared.sides.Side.{Side}
use Rattle.ap_unify.specs.declared.sides.Sides.{Sides}

-- the swappings that wait on a side, the first outermost
abbrev pub waiting : Side → List Swap
waiting s = inverse s.added.items ++ s.swaps.items

abbrev pub moved_equation : Sides → PlainPair → Equation
moved_equation m p = act_term (waiting m.left) (plain_term p.left) ≐ act_term (waiting m.right) (plain_term p.right)

-- of abstractions with these binders, whose bodies are two parts
abbrev pub binders_equation : Sides → Name → Name → PlainPair → Equation
binders_equation m a b p = abs a (act_term (waiting m.left) (plain_term p.left)) ≐ abs b (act_term (waiting m.right) (plain_term p.right))
