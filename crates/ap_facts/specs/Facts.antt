-- What the freshness goals of a clause's body state, of all names together.
use Rattle.std.specs.Prelude.{◌≡◌, Bool, false, ◌&&◌, ◌||◌, if◌then◌else◌, List, [], ◌∷◌, ◌++◌, map}
use Rattle.std.specs.List.{list_any}
use Rattle.ap_defs.specs.declared.terms.Name.{Name}
use Rattle.ap_defs.specs.declared.terms.Cond.{Cond}
use Rattle.ap_defs.specs.Permutations.{name_eq, act_name, inverse}
use Rattle.ap_defs.specs.Terms as terms
use Rattle.ap_defs.specs.Terms.{NominalTerm, unit, name, pair, app, abs, susp}
use Rattle.ap_defs.specs.Freshness.{Conds, var_eq}
use Rattle.ap_defs.specs.Goals.{NominalGoal, both, fresh}
use Rattle.ap_facts.specs.declared.facts.Fact.{Fact}

-- whether the name is free in the term, so that it is fresh for it under no conditions
abbrev pub is_refuted : Name → NominalTerm → Bool
is_refuted a unit = false
is_refuted a (name b) = name_eq a b
is_refuted a (pair t u) = is_refuted a t || is_refuted a u
is_refuted a (app f t) = is_refuted a t
is_refuted a (abs b t) = if name_eq a b then false else is_refuted a t
is_refuted a (susp p x) = false

-- what a freshness problem leaves, but for whether it is refuted
abbrev pub left_by : Name → NominalTerm → Conds
left_by a unit = []
left_by a (name b) = []
left_by a (pair t u) = left_by a t ++ left_by a u
left_by a (app f t) = left_by a t
left_by a (abs b t) = if name_eq a b then [] else left_by a t
left_by a (susp p x) = record { name = act_name (inverse p) a; var = x } ∷ []

abbrev pub fact_of : Name → Cond → Fact
fact_of a c = record { left = a; name = c.name; var = c.var }

-- the conditions that freshness goals under `,` leave, each with the name on the left
abbrev pub facts_of : NominalGoal → List Fact
facts_of (both g h) = facts_of g ++ facts_of h
facts_of (fresh (terms.name a) t) = if is_refuted a t then [] else map (fact_of a) (left_by a t)
facts_of _ = []

abbrev pub fact_eq : Fact → Fact → Bool
fact_eq e f = name_eq e.left f.left && (name_eq e.name f.name && var_eq e.var f.var)

abbrev pub has_fact : Fact → List Fact → Bool
has_fact e fs = list_any (fact_eq e) fs

-- the same facts stand in both
abbrev pub HasSame : List Fact → List Fact → Type 0
HasSame es fs = (f : Fact) → has_fact f es ≡ has_fact f fs
