-- The places where the keys of a stack stand last.
use Rattle.std.specs.Prelude.{◌≡◌, ℕ, suc, Bool, if◌then◌else◌, List, [], ◌∷◌, ◌++◌, Option, Some, None}
use Rattle.std.specs.BTreeMap.{get}
use Rattle.std.specs.Ordering.{is_eq}
use Rattle.ap_defs.specs.declared.terms.Name.{Name}
use Rattle.ap_judge.specs.declared.latest.Latest.{Latest}
use Rattle.ap_judge.specs.Indexes.{sought_cmp}

abbrev pub or_here : Option ℕ → Bool → ℕ → Option ℕ
or_here (Some i) b n = Some i
or_here None b n = if b then Some n else None

-- the last place at which the test holds, in a list that begins at a place
abbrev pub last_from : {A : Type 0} → (A → Bool) → ℕ → List A → Option ℕ
last_from test n [] = None
last_from test n (x ∷ xs) = or_here (last_from test (suc n) xs) (test x) n

-- a kind of identifiers, and the sort and number of one
abbrev pub Key : Type 0
Key = ℕ × (ℕ × ℕ)

abbrev pub name_key : Name → Key
name_key a = (0, (a.sort, a.num))

abbrev pub last_place : List Key → Key → Option ℕ
last_place keys k = last_from (λ j. is_eq (sought_cmp j k)) 0 keys

-- the last place of each among those in front of it
abbrev pub befores_from : List Key → List Key → List (Option ℕ)
befores_from seen [] = []
befores_from seen (k ∷ ks) = last_place seen k ∷ befores_from (seen ++ k ∷ []) ks

-- the places are those of these keys
pub record IsLatest (keys : List Key) (l : Latest) : Type 0 where
  pub places : (k : Key) → get sought_cmp l.places k ≡ last_place keys k
  pub before : l.before.items ≡ befores_from [] keys
