-- Entries of tables.
use Rattle.std.proofs.Common.{◌≡◌, ◌<◌, ◌≤◌, ◌⊎◌, ◌∙◌, ℕ, zero, suc, List, [], ◌∷◌, ◌++◌, length, set, get_or, refl, ap, inl, inr, arith}
use Rattle.std.specs.Prelude.{slice_index_or}
use Rattle.std.proofs.lemmas.List.{get_or-set_same, get_or-set_other, get_or_past, map-append, length-map}
use Rattle.ap_defs.specs.Types.{TypeShape, hole, unit, names, base, pair, list, abs}
use Rattle.ap_types.specs.declared.nodes.Node.{Node}
use Rattle.ap_types.specs.declared.nodes.Node.TheVariants as nodes
use Rattle.ap_types.specs.Equations.{bound_of}
use Rattle.ap_types.specs.Solving.{shape_at}
use Rattle.ap_types.specs.Triangular.{layer_of, shapes_of_nodes, IsFormed, AreFormed}
use Rattle.ap_types.specs.Joining.{Extends}

pub compare_numbers : (x n : ℕ) → (x < n) ⊎ ((x ≡ n) ⊎ (n < x))
compare_numbers zero zero = inr (inl refl)
compare_numbers zero (suc n) = inl (omega arith)
compare_numbers (suc x) zero = inr (inr (omega arith))
compare_numbers (suc x) (suc n) = elim (compare_numbers x n) [ inl l ↦ inl (omega arith) | inr k ↦ elim k [ inl e ↦ inr (inl (ap suc e)) | inr g ↦ inr (inr (omega arith)) ] ]

pub at_set_same : (ts : List TypeShape) (x : ℕ) (t : TypeShape) → x < length ts → shape_at (set ts x t) x ≡ t
at_set_same ts x t l = get_or-set_same ts x t (hole x) l

pub at_set_other : (ts : List TypeShape) (x y : ℕ) (t : TypeShape) → (y ≡ x → ⊥) → shape_at (set ts x t) y ≡ shape_at ts y
at_set_other ts x y t n = get_or-set_other ts x y t (hole y) n

pub at_past : (ts : List TypeShape) (x : ℕ) → length ts ≤ x → shape_at ts x ≡ hole x
at_past ts x l = get_or_past ts x (hole x) l

pub length_table : (ns : List Node) → length (shapes_of_nodes ns) ≡ length ns
length_table ns = length-map ns layer_of

pub table_push : (ns : List Node) (n : Node) → shapes_of_nodes (ns ++ n ∷ []) ≡ shapes_of_nodes ns ++ layer_of n ∷ []
table_push ns n = map-append layer_of ns (n ∷ [])

pub table_set : (ns : List Node) (x : ℕ) (n : Node) → shapes_of_nodes (set ns x n) ≡ set (shapes_of_nodes ns) x (layer_of n)
table_set [] x n = refl
table_set (m ∷ ns) zero n = refl
table_set (m ∷ ns) (suc x) n = ap (λ ts. layer_of m ∷ ts) (table_set ns x n)

pub length_set : (ts : List TypeShape) (x : ℕ) (t : TypeShape) → length (set ts x t) ≡ length ts
length_set [] x t = refl
length_set (u ∷ ts) zero t = refl
length_set (u ∷ ts) (suc x) t = ap suc (length_set ts x t)

pub form_more : (n m x : ℕ) (t : TypeShape) → n ≤ m → IsFormed n x t → IsFormed m x t
form_more n m x (hole y) l h = h
form_more n m x unit l h = omega arith
form_more n m x (names s) l h = omega arith
form_more n m x (base d) l h = omega arith
form_more n m x (pair t u) l h = let k : bound_of (pair t u) ≤ n = h in omega (arith, k)
form_more n m x (list t) l h = let k : bound_of (list t) ≤ n = h in omega (arith, k)
form_more n m x (abs t u) l h = let k : bound_of (abs t u) ≤ n = h in omega (arith, k)

-- the holes of an entry are among the places
pub formed_bound : (n x : ℕ) (t : TypeShape) → x < n → IsFormed n x t → bound_of t ≤ n
formed_bound n x (hole y) l h = omega arith
formed_bound n x unit l h = omega arith
formed_bound n x (names s) l h = omega arith
formed_bound n x (base d) l h = omega arith
formed_bound n x (pair t u) l h = h
formed_bound n x (list t) l h = h
formed_bound n x (abs t u) l h = h

pub extends_itself : (ts : List TypeShape) → AreFormed ts → Extends ts ts
extends_itself ts h = record { longer = omega arith; formed = h; keeps = λ f k. k; more = λ f k. (f, k, λ x l. refl) }

pub extends_on : (ts us vs : List TypeShape) → Extends ts us → Extends us vs → Extends ts vs
extends_on ts us vs h k = record {
  longer = let a = h.longer in let b = k.longer in omega arith;
  formed = k.formed;
  keeps = λ f e. h.keeps f (k.keeps f e);
  more = λ f e.
      let a = h.more f e in
      let b = k.more a.0 a.1 in
      (b.0, b.1, λ x l. b.2 x (let m = h.longer in omega arith) ∙ a.2 x l);
}

-- the entry at a place, as the program reads it
pub layer_at : (ns : List Node) (x : ℕ) → x < length ns → layer_of (get_or ns x (nodes.Place 0)) ≡ shape_at (shapes_of_nodes ns) x
layer_at ns x l = at_default ns x (hole x) l
  where
    at_default : (ns : List Node) (x : ℕ) (d : TypeShape) → x < length ns → layer_of (get_or ns x (nodes.Place 0)) ≡ slice_index_or (shapes_of_nodes ns) x d
    at_default [] x d l = absurd (omega arith)
    at_default (n ∷ ns) zero d l = refl
    at_default (n ∷ ns) (suc x) d l = at_default ns x d (omega arith)
