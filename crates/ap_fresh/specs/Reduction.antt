-- Conditions to which problems reduce.
use Rattle.std.specs.Prelude.{◌≡◌, ◌⊎◌, List, [], ◌∷◌, ◌++◌, Option, None, Some, reverse}
use Rattle.std.specs.List.{list_all}
use Rattle.ap_defs.specs.Freshness.{Conds, add_conds, both, fresh_under, has_cond}
use Rattle.ap_defs.specs.Renaming.{rename_term}
use Rattle.ap_defs.specs.Terms.{NominalTerm, term_of}
use Rattle.ap_defs.specs.declared.terms.Cond.{Cond}
use Rattle.ap_defs.specs.declared.terms.Name.{Name}
use Rattle.ap_theory.specs.StatementsOnConditions.{collected}
use Rattle.ap_fresh.specs.declared.pending.Pending.{Pending}

-- the set of the conditions of a problem and of others, unless the problem is refuted
abbrev pub added : Option (List Cond) → List Cond → Option Conds
added o ds = collected (both o (Some ds))

-- some of a list's conditions, in its order
abbrev pub IsSublist : List Cond → List Cond → Type 0
IsSublist [] cs = Unit {0}
IsSublist (b ∷ bs) [] = ⊥
IsSublist (b ∷ bs) (c ∷ cs) = ((b ≡ c) × IsSublist bs cs) ⊎ IsSublist (b ∷ bs) cs

-- The conditions of a problem stand behind others, from the last to the first: each of them, and none more often than it
-- comes there.
abbrev pub StandBehind : Option (List Cond) → List Cond → List Cond → Type 0
StandBehind None ds es = ⊥
StandBehind (Some cs) ds es =
    (bs : List Cond) × (es ≡ ds ++ bs) × IsSublist bs (reverse cs) × (add_conds bs [] ≡ add_conds cs [])

-- the name is fresh for the term under just those sets that have each of the conditions
abbrev pub IsLeast : Name → NominalTerm → Conds → Type 0
IsLeast a t cs = (ds : Conds) → fresh_under ds a t ≡ list_all (λ c. has_cond c ds) cs

-- what the name of a problem that is left is to be fresh for
abbrev pub pending_term : Pending → NominalTerm
pending_term p = rename_term p.base (term_of p.term.now)
