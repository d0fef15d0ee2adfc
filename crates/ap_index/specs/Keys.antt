-- The keys of clauses, as numbers of 32 bits.
use Rattle.std.specs.Prelude.{◌<◌, ◌^◌, ℕ, List, [], ◌∷◌, length, map}
use Rattle.ap_defs.specs.Goals.{Clauses, NominalClause}
use Rattle.ap_defs.specs.HeadKeys.{first_key}

-- the key of the first argument of each clause
abbrev pub keys_of : List NominalClause → List ℕ
keys_of cs = map (λ c. first_key c.args) cs

-- each has 32 bits
abbrev pub AreNarrow : List ℕ → Type 0
AreNarrow [] = Unit {0}
AreNarrow (k ∷ ks) = (k < 2 ^ 32) × AreNarrow ks

-- the keys of each predicate's clauses have 32 bits, and so do the numbers of these
abbrev pub AreNarrowLists : Clauses → Type 0
AreNarrowLists [] = Unit {0}
AreNarrowLists (cs ∷ css) = (AreNarrow (keys_of cs) × (length cs < 2 ^ 32)) × AreNarrowLists css
