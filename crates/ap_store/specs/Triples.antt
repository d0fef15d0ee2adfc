-- What a store holds: bindings, conditions and the next number.
use Rattle.std.specs.Prelude.{◌≡◌, ℕ, ◌<◌, Bool, not, List, [], ◌∷◌, ◌++◌, filter, map}
use Rattle.ap_defs.specs.Freshness.{Conds, add_conds, var_eq}
use Rattle.ap_defs.specs.Substitution.{Binding, put_binding, ◌:=◌}
use Rattle.ap_defs.specs.Terms.{NominalTerm}
use Rattle.ap_defs.specs.declared.terms.Cond.{Cond}
use Rattle.ap_defs.specs.declared.terms.Var.{Var}
use Rattle.ap_theory.specs.Variables.{IsUnbound}

pub record Triple : Type 0 where
  pub bindings : List Binding
  pub conditions : Conds
  pub next : ℕ

-- the condition is on the variable
abbrev pub is_on : Var → Cond → Bool
is_on x c = var_eq c.var x

abbrev pub is_apart : Var → Cond → Bool
is_apart x c = not (var_eq c.var x)

-- with another next number
abbrev pub with_next : ℕ → Triple → Triple
with_next n a = record { bindings = a.bindings; conditions = a.conditions; next = n }

-- with v for x, substituted everywhere, and without the conditions on x
abbrev pub with_binding : Var → NominalTerm → Triple → Triple
with_binding x v a = record {
  bindings = (x := v) ∷ map (put_binding x v) a.bindings;
  conditions = filter (is_apart x) a.conditions;
  next = a.next;
}

-- with more conditions
abbrev pub with_conditions : List Cond → Triple → Triple
with_conditions cs a = record { bindings = a.bindings; conditions = add_conds cs a.conditions; next = a.next }

-- the first list is a prefix of the second
abbrev pub IsPrefixOf : List Triple → List Triple → Type 0
IsPrefixOf as' bs = (cs : List Triple) × (bs ≡ as' ++ cs)

-- the conditions are on unbound variables, and their numbers are below the next one
abbrev pub AreOnUnbound : Triple → List Cond → Type 0
AreOnUnbound a [] = Unit {0}
AreOnUnbound a (c ∷ cs) = ((c.name.num < a.next) × (c.var.num < a.next) × IsUnbound a.bindings c.var) × AreOnUnbound a cs
