-- The bytes of a type, by its form.
use Rattle.std.proofs.Common.{◌≡◌, ℕ, ◌+◌, ◌≤◌, ◌<◌, Bool, true, false, List, [], ◌++◌, refl, append_assoc, arith}
use Rattle.std.specs.Prelude.{codes, reverse, if◌then◌else◌}
use Rattle.std.proofs.lemmas.List.{append-nil, reverse-append}
use Rattle.ap_trees.specs.Types.{Ty, Unit, Word, Pair, Array, Abs}
use Rattle.ap_unparse.specs.Written.{bytes_of}
use Rattle.ap_unparse.specs.WrittenTypes.{type_at}
use Rattle.ap_unparse.proofs.ByteLemmas.{bytes_of-append}

-- What is written, what is left of a type, and what is kept, in the order in which they will stand.
abbrev pub all_type : List ℕ → Bool → Ty → List ℕ → List ℕ
all_type out part t closers = out ++ (bytes_of (type_at part t) ++ reverse closers)

pair_bytes : (part : Bool) (t u : Ty)
    → bytes_of (type_at part (Pair t u)) ≡ (if part then [] else codes "(") ++ (bytes_of (type_at false t) ++ (codes ", " ++ (bytes_of (type_at true u) ++ (if part then [] else codes ")"))))
pair_bytes true t u = simp (bytes_of-append, append-nil)
pair_bytes false t u = simp (bytes_of-append, append_assoc)

closing_turned : (part : Bool) → reverse (if part then [] else codes ")") ≡ (if part then [] else codes ")")
closing_turned true = refl
closing_turned false = refl

pub pair_goes_on : (part : Bool) (w t u : Ty) (o o1 o2 o3 k k1 : List ℕ) → w ≡ Pair t u → o1 ≡ o ++ (if part then [] else codes "(") → k1 ≡ k ++ (if part then [] else codes ")")
    → o2 ≡ o1 ++ bytes_of (type_at false t) → o3 ≡ o2 ++ codes ", " → all_type o3 true u k1 ≡ all_type o part w k
pair_goes_on part w t u o o1 o2 o3 k k1 e a b d f =
    rw (f, d, a, b, e, pair_bytes part t u, reverse-append k (if part then [] else codes ")"), closing_turned part) (simp append_assoc)

pub array_goes_on : (part : Bool) (w t : Ty) (o o1 k k1 : List ℕ) → w ≡ Array t → o1 ≡ o ++ codes "[" → k1 ≡ k ++ codes "]" → all_type o1 false t k1 ≡ all_type o part w k
array_goes_on part w t o o1 k k1 e a b = rw (a, b, e, reverse-append k (codes "]")) (simp (bytes_of-append, append_assoc))

pub abs_goes_on : (part : Bool) (w : Ty) (word : List ℕ) (t : Ty) (o o1 o2 k : List ℕ) → w ≡ Abs word t → o1 ≡ o ++ word → o2 ≡ o1 ++ codes "\\" → all_type o2 false t k ≡ all_type o part w k
abs_goes_on part w word t o o1 o2 k e a b = rw (b, a, e) (simp append_assoc)

abbrev pub type_size : Ty → ℕ
type_size Unit = 1
type_size (Word w) = 1
type_size (Pair t u) = 1 + type_size t + type_size u
type_size (Array t) = 1 + type_size t
type_size (Abs w t) = 1 + type_size t

pub left_smaller : (w t u : Ty) (n : ℕ) → w ≡ Pair t u → type_size w ≤ n → (type_size t < n) × (type_size u ≤ n)
left_smaller w t u n e h = let h' : type_size (Pair t u) ≤ n = rw e at h in (omega arith, omega arith)

pub element_smaller : (w t : Ty) (n : ℕ) → w ≡ Array t → type_size w ≤ n → type_size t ≤ n
element_smaller w t n e h = let h' : type_size (Array t) ≤ n = rw e at h in omega arith

pub body_smaller : (w : Ty) (word : List ℕ) (t : Ty) (n : ℕ) → w ≡ Abs word t → type_size w ≤ n → type_size t ≤ n
body_smaller w word t n e h = let h' : type_size (Abs word t) ≤ n = rw e at h in omega arith
