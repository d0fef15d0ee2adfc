-- Tables of the images of names.
use Rattle.std.specs.Prelude.{◌≡◌, ℕ, List, Option, Some, None}
use Rattle.std.specs.Ordering.{nat_cmp, ordering_then}
use Rattle.std.specs.declared.cmp.Ordering.{Ordering}
use Rattle.ap_defs.specs.Permutations.{act_name}
use Rattle.ap_defs.specs.declared.terms.Name.{Name}
use Rattle.ap_defs.specs.declared.terms.Swap.{Swap}

-- a name as a key of a table, by number and then by sort
abbrev pub key_of : Name → ℕ × ℕ
key_of a = (a.num, a.sort)

abbrev pub name_of : ℕ × ℕ → Name
name_of k = record { sort = k.1; num = k.0 }

-- the same by sort and then by number
abbrev pub name_at : ℕ × ℕ → Name
name_at k = record { sort = k.0; num = k.1 }

-- the first parts are compared, and then the second ones
abbrev pub key_cmp : ℕ × ℕ → ℕ × ℕ → Ordering
key_cmp p q = ordering_then (nat_cmp p.0 q.0) (nat_cmp p.1 q.1)

-- the image of a name, in a table of the numbers of images
abbrev pub image_or : Option ℕ → Name → Name
image_or None a = a
image_or (Some n) a = record { sort = a.sort; num = n }

abbrev pub image_by : (ℕ × ℕ → Option ℕ) → Name → Name
image_by f a = image_or (f (key_of a)) a

abbrev pub AreImages : List Swap → (ℕ × ℕ → Option ℕ) → Type 0
AreImages p f = (a : Name) → image_by f a ≡ act_name p a
