-- Names that were sought in variables.
use Rattle.std.specs.Prelude.{ℕ, Bool}
use Rattle.std.specs.BTreeSet.{contains}
use Rattle.std.specs.Ordering.{nat_cmp, ordering_then}
use Rattle.std.specs.declared.cmp.Ordering.{Ordering}
use Rattle.ap_defs.specs.declared.terms.Cond.{Cond}
use Rattle.ap_fresh.specs.declared.sought.Sought.{Sought}

-- a name in a variable as it is kept: the variable, and the name's sort and number
abbrev pub cond_key : Cond → ℕ × (ℕ × ℕ)
cond_key c = (c.var.num, (c.name.sort, c.name.num))

abbrev pub cond_key_cmp : ℕ × (ℕ × ℕ) → ℕ × (ℕ × ℕ) → Ordering
cond_key_cmp p q = ordering_then (nat_cmp p.0 q.0) (ordering_then (nat_cmp p.1.0 q.1.0) (nat_cmp p.1.1 q.1.1))

-- the name was sought in the variable, as far as this is kept
abbrev pub was_sought : Sought → Cond → Bool
was_sought s c = contains cond_key_cmp s.pairs (cond_key c)
