-- Terms as they are written.
use Rattle.std.specs.Prelude.{ℕ, List, [], ◌∷◌}

-- a word or a variable where both may stand
pub data Name : Type 0 where
  OfWord : List ℕ → Name
  OfVar : List ℕ → Name

mutual
  pub data Term : Type 0 where
    Unit : Term
    Variable : List ℕ → Term
    Word : List ℕ → Term
    Apply : List ℕ → Terms → Term
    Pair : Term → Term → Term
    Nil : Term
    Cell : Term → Term → Term
    Abs : Name → Term → Term
    Swapped : Name → Name → Term → Term

  -- one term or more
  pub data Terms : Type 0 where
    Last : Term → Terms
    More : Term → Terms → Terms

-- one term or more as arguments
abbrev pub argument_terms : List Term → Terms
argument_terms [] = Last Unit
argument_terms (t ∷ []) = Last t
argument_terms (t ∷ u ∷ ts) = More t (argument_terms (u ∷ ts))

-- one term, or the pair of the first and the tuple of the rest
abbrev pub tuple : List Term → Term
tuple [] = Unit
tuple (t ∷ []) = t
tuple (t ∷ u ∷ ts) = Pair t (tuple (u ∷ ts))

-- the list of these terms before an end
abbrev pub cells : List Term → Term → Term
cells [] end = end
cells (t ∷ ts) end = Cell t (cells ts end)
