-- Freshness and equality of nominal terms under any set of conditions.
use Rattle.std.specs.Prelude.{◌≡◌, ◌≢◌, ◌⊎◌, true, List, [], ◌∷◌}
use Rattle.ap_defs.specs.Freshness.{Conds, has_cond}
use Rattle.ap_defs.specs.Permutations.{act_name, inverse, swap_of}
use Rattle.ap_defs.specs.Terms.{NominalTerm, abs, act_term, app, name, pair, susp, unit}
use Rattle.ap_defs.specs.declared.terms.Name.{Name}
use Rattle.ap_defs.specs.declared.terms.Swap.{Swap}
use Rattle.ap_defs.specs.declared.terms.Var.{Var}

-- a set of conditions, as what it says of a name and a variable
abbrev pub Context : Type 1
Context = Name → Var → Type 0

-- the name is fresh for the term, where it is for each variable as the set says
abbrev pub Fresh : Context → Name → NominalTerm → Type 0
Fresh d a unit = Unit {0}
Fresh d a (name b) = a ≢ b
Fresh d a (pair t u) = Fresh d a t × Fresh d a u
Fresh d a (app f t) = Fresh d a t
Fresh d a (abs b t) = (a ≡ b) ⊎ Fresh d a t
Fresh d a (susp p x) = d (act_name (inverse p) a) x

-- the terms are equal up to renaming of binders
abbrev pub Equal : Context → NominalTerm → NominalTerm → Type 0
Equal d unit unit = Unit {0}
Equal d (name a) (name b) = a ≡ b
Equal d (pair t u) (pair v w) = Equal d t v × Equal d u w
Equal d (app f t) (app g u) = (f ≡ g) × Equal d t u
Equal d (abs a t) (abs b u) = ((a ≡ b) × Equal d t u) ⊎ ((a ≢ b) × (a.sort ≡ b.sort) × Equal d t (act_term (swap_of a b ∷ []) u) × Fresh d a u)
Equal d (susp p x) (susp q y) = (x ≡ y) × ((c : Name) → act_name p c ≢ act_name q c → d c x)
Equal d _ _ = ⊥

-- each name on which the two permutations differ is fresh for the term
abbrev pub FreshWhereTheyDiffer : Context → List Swap → List Swap → NominalTerm → Type 0
FreshWhereTheyDiffer d p q t = (c : Name) → act_name p c ≢ act_name q c → Fresh d c t

-- a list of conditions says what stands in it
abbrev pub listed_context : Conds → Context
listed_context ds a x = has_cond (record { name = a; var = x }) ds ≡ true
