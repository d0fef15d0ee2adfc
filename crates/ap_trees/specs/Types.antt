-- Types as they are written.
use Rattle.std.specs.Prelude.{ℕ, List, [], ◌∷◌}

pub data Ty : Type 0 where
  Unit : Ty
  Word : List ℕ → Ty
  Pair : Ty → Ty → Ty
  Array : Ty → Ty
  Abs : List ℕ → Ty → Ty

-- one type, or the pair of the first and the tuple of the rest
abbrev pub tuple_type : List Ty → Ty
tuple_type [] = Unit
tuple_type (t ∷ []) = t
tuple_type (t ∷ u ∷ ts) = Pair t (tuple_type (u ∷ ts))
