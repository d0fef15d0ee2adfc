-- What is built of a list of terms, from its end.
use Rattle.std.proofs.Common.{◌≡◌, List, [], ◌∷◌, ◌++◌, refl, ap}
use Rattle.ap_trees.specs.Terms.{Term, Terms, Pair, Cell, Last, More, tuple, cells, argument_terms}

pub tuple_end : (ts : List Term) (t u : Term) → tuple (ts ++ t ∷ u ∷ []) ≡ tuple (ts ++ Pair t u ∷ [])
tuple_end [] t u = refl
tuple_end (s ∷ []) t u = refl
tuple_end (s ∷ r ∷ ts) t u = ap (λ v. Pair s v) (tuple_end (r ∷ ts) t u)

pub cells_end : (ts : List Term) (t end : Term) → cells (ts ++ t ∷ []) end ≡ cells ts (Cell t end)
cells_end [] t end = refl
cells_end (s ∷ ts) t end = ap (λ v. Cell s v) (cells_end ts t end)

-- these before those
abbrev pub onto : List Term → Terms → Terms
onto [] args = args
onto (t ∷ ts) args = More t (onto ts args)

pub onto_end : (ts : List Term) (t : Term) (args : Terms) → onto (ts ++ t ∷ []) args ≡ onto ts (More t args)
onto_end [] t args = refl
onto_end (s ∷ ts) t args = ap (λ v. More s v) (onto_end ts t args)

pub onto_last : (ts : List Term) (t : Term) → onto ts (Last t) ≡ argument_terms (ts ++ t ∷ [])
onto_last [] t = refl
onto_last (s ∷ []) t = refl
onto_last (s ∷ r ∷ ts) t = ap (λ v. More s v) (onto_last (r ∷ ts) t)
