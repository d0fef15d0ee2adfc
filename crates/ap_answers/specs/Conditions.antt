-- Conditions on given names and variables.
use Rattle.std.specs.Prelude.{◌≡◌, ℕ, Bool, true, ◌&&◌, List, Some, position}
use Rattle.std.specs.declared.cmp.Ordering.{Ordering}
use Rattle.std.specs.Ordering.{ordering_then, nat_cmp}
use Rattle.ap_defs.specs.declared.terms.Name.{Name}
use Rattle.ap_defs.specs.declared.terms.Var.{Var}
use Rattle.ap_defs.specs.declared.terms.Cond.{Cond}
use Rattle.ap_defs.specs.Permutations.{name_eq, has_name}
use Rattle.ap_defs.specs.Freshness.{var_eq}
use Rattle.ap_defs.specs.Unification.{has_var}

-- its name and its variable are among these
abbrev pub occurs_in : List Name → List Var → Cond → Bool
occurs_in names vars c = has_var c.var vars && has_name c.name names

-- places are compared first, and then numbers
abbrev pub placed_cmp : ℕ × ℕ × ℕ → ℕ × ℕ × ℕ → Ordering
placed_cmp k l = ordering_then (nat_cmp k.0 l.0) (ordering_then (nat_cmp k.1 l.1) (nat_cmp k.2 l.2))

-- its variable and its name first occur at these places
pub record Occurs (names : List Name) (vars : List Var) (c : Cond) (i j : ℕ) : Type 0 where
  pub there : occurs_in names vars c ≡ true
  pub var : position (var_eq c.var) vars ≡ Some i
  pub name : position (name_eq c.name) names ≡ Some j
