-- Variables that a look went through.
use Rattle.std.specs.Prelude.{ℕ, Bool, false, List, slice_index_or}

-- whether the number is marked
abbrev pub is_mark_at : List Bool → ℕ → Bool
is_mark_at ms i = slice_index_or ms i false
