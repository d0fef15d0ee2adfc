-- What changes make of a triple, and which changes may follow one another.
use Rattle.std.specs.Prelude.{◌≡◌, ◌+◌, ◌<◌, ◌||◌, ℕ, Bool, true, false, ◌&&◌, List, [], ◌∷◌, filter, map}
use Rattle.ap_defs.specs.Freshness.{Conds, cond_before}
use Rattle.ap_defs.specs.Renaming.{IsBelow}
use Rattle.ap_defs.specs.Substitution.{◌:=◌, occurs, put_binding, under}
use Rattle.ap_defs.specs.Terms.{NominalTerm}
use Rattle.ap_defs.specs.declared.terms.Cond.{Cond}
use Rattle.ap_defs.specs.declared.terms.Var.{Var}
use Rattle.ap_theory.specs.Variables.{IsUnbound}
use Rattle.ap_store.specs.Triples.{AreOnUnbound, Triple, is_apart, is_on, with_conditions, with_next}

-- so many numbers are given, a variable is bound to a term, a condition comes, or those on a variable are taken out
pub data Change : Type 0 where
  Made : ℕ → Change
  Bound : Var → NominalTerm → Change
  Added : Cond → Change
  Taken : Var → List Cond → Change

-- nothing is bound, and no number given
abbrev pub empty : Triple
empty = record { bindings = []; conditions = []; next = 0 }

-- with v for x, substituted everywhere
abbrev pub with_bound : Var → NominalTerm → Triple → Triple
with_bound x v a = record { bindings = (x := v) ∷ map (put_binding x v) a.bindings; conditions = a.conditions; next = a.next }

abbrev pub replace_conditions : Conds → Triple → Triple
replace_conditions ds a = record { bindings = a.bindings; conditions = ds; next = a.next }

abbrev pub after : Change → Triple → Triple
after (Made n) a = with_next (a.next + n) a
after (Bound x t) a = with_bound x (under a.bindings t) a
after (Added c) a = with_conditions (c ∷ []) a
after (Taken x cs) a = replace_conditions (filter (is_apart x) a.conditions) a

-- the triple after changes, the first one first
abbrev pub present_after : List Change → Triple → Triple
present_after [] a = a
present_after (c ∷ cs) a = present_after cs (after c a)

-- the triples before each change
abbrev pub past_after : List Change → Triple → List Triple
past_after [] a = []
past_after (c ∷ cs) a = a ∷ past_after cs (after c a)

abbrev pub is_before_first : Cond → Conds → Bool
is_before_first c [] = true
is_before_first c (d ∷ ds) = cond_before c d

-- by variable, then by the name's number, then by its sort, each once
abbrev pub is_ascending : Conds → Bool
is_ascending [] = true
is_ascending (c ∷ cs) = is_before_first c cs && is_ascending cs

abbrev pub has_on : Var → Conds → Bool
has_on x [] = false
has_on x (c ∷ cs) = is_on x c || has_on x cs

abbrev pub IsChange : Change → Triple → Type 0
IsChange (Made n) a = Unit {0}
IsChange (Bound x t) a =
    (x.num < a.next) × IsUnbound a.bindings x × IsBelow a.next t × (occurs x (under a.bindings t) ≡ false) × (has_on x a.conditions ≡ false)
IsChange (Added c) a = AreOnUnbound a (c ∷ [])
IsChange (Taken x cs) a = x.num < a.next

-- each change may be made in the triple before it
abbrev pub AreChanges : List Change → Triple → Type 0
AreChanges [] a = Unit {0}
AreChanges (c ∷ cs) a = IsChange c a × AreChanges cs (after c a)
