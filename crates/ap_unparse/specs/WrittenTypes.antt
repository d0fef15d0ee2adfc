-- How types are written: as they are read, with a comma and a space between the parts of a tuple.
use Rattle.std.specs.Prelude.{Bool, true, false, List, [], ◌∷◌, ◌++◌}
use Rattle.ap_trees.specs.Types.{Ty, Unit, Word, Pair, Array, Abs}
use Rattle.ap_unparse.specs.Written.{Written, space, ident, comma, round_open, round_close, square_open, square_close, lambda_word}

-- the parts of a tuple in parentheses, unless they go on a tuple that was begun
abbrev pub tuple_of : Bool → List Written → List Written
tuple_of true ws = ws
tuple_of false ws = round_open ∷ (ws ++ round_close ∷ [])

-- a type, by itself or as the right part of a pair
abbrev pub type_at : Bool → Ty → List Written
type_at part Unit = round_open ∷ round_close ∷ []
type_at part (Word w) = ident w ∷ []
type_at part (Pair t u) = tuple_of part (type_at false t ++ comma ∷ space ∷ type_at true u)
type_at part (Array t) = square_open ∷ (type_at false t ++ square_close ∷ [])
type_at part (Abs w t) = ident w ∷ lambda_word ∷ type_at false t

abbrev pub written_type : Ty → List Written
written_type t = type_at false t
