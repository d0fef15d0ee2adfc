-- Where the typed variables of an answer stand, and its conditions as they are sought.
use Rattle.std.specs.Prelude.{◌≡◌, ℕ, suc, Bool, ◌==◌, if◌then◌else◌, List, [], ◌∷◌, Option, Some, None}
use Rattle.std.specs.Ordering.{nat_cmp, ordering_then}
use Rattle.std.specs.declared.cmp.Ordering.{Ordering}
use Rattle.ap_defs.specs.declared.terms.Cond.{Cond}
use Rattle.ap_defs.specs.declared.terms.Name.{Name}
use Rattle.ap_defs.specs.declared.terms.Swap.{Swap}
use Rattle.ap_defs.specs.declared.terms.Ty.{Ty}
use Rattle.ap_defs.specs.declared.terms.Var.{Var}
use Rattle.ap_defs.specs.Freshness.{Conds, has_cond}
use Rattle.ap_defs.specs.Permutations.{act_name}

-- the place of the first variable with this number, in a list that begins at a place
abbrev pub place_from : ℕ → List (Var × Ty) → ℕ → Option ℕ
place_from n [] x = None
place_from n (v ∷ vs) x = if v.0.num == x then Some n else place_from (suc n) vs x

-- a condition as it is sought: its variable, and its name's sort and number
abbrev pub sought : Cond → ℕ × (ℕ × ℕ)
sought c = (c.var.num, (c.name.sort, c.name.num))

abbrev pub sought_cmp : ℕ × (ℕ × ℕ) → ℕ × (ℕ × ℕ) → Ordering
sought_cmp p q = ordering_then (nat_cmp p.0 q.0) (ordering_then (nat_cmp p.1.0 q.1.0) (nat_cmp p.1.1 q.1.1))

-- a name as it is sought
abbrev pub sought_name : Name → ℕ × ℕ
sought_name a = (a.sort, a.num)

abbrev pub sought_name_cmp : ℕ × ℕ → ℕ × ℕ → Ordering
sought_name_cmp p q = ordering_then (nat_cmp p.0 q.0) (nat_cmp p.1 q.1)

-- the image of a name, in a table of the numbers of images
abbrev pub indexed_image_or : Option ℕ → Name → Name
indexed_image_or None a = a
indexed_image_or (Some n) a = record { sort = a.sort; num = n }

abbrev pub indexed_image : (ℕ × ℕ → Option ℕ) → Name → Name
indexed_image f a = indexed_image_or (f (sought_name a)) a

abbrev pub AreIndexedImages : List Swap → (ℕ × ℕ → Option ℕ) → Type 0
AreIndexedImages p f = (a : Name) → indexed_image f a ≡ act_name p a

-- A table of places and a set of conditions are those of an answer with these typed variables and these conditions.
pub record IsIndex (vs : List (Var × Ty)) (ds : Conds) (place : ℕ → Option ℕ) (holds : ℕ × (ℕ × ℕ) → Bool) : Type 0 where
  pub places : (x : ℕ) → place x ≡ place_from 0 vs x
  pub conds : (c : Cond) → holds (sought c) ≡ has_cond c ds
