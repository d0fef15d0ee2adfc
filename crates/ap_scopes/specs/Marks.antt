-- Marks of words: a table that has an entry at the mark of each word tells quickly that a word is not among them.
use Rattle.std.specs.Prelude.{ℕ, suc, ◌+◌, ◌*◌, ◌%◌, ◌==◌, Bool, true, false, ◌&&◌, if◌then◌else◌, List, [], ◌∷◌, Option, Some, length, slice_get}

abbrev pub mark_after : ℕ → List ℕ → ℕ
mark_after n [] = n
mark_after n (b ∷ bs) = mark_after ((n * 207 + b) % 1024) bs

-- a number below 1024 that equal words share
abbrev pub word_mark : List ℕ → ℕ
word_mark w = mark_after 0 w

-- whether an entry tells of a word
abbrev pub tells : Option ℕ → Bool
tells (Some (suc n)) = true
tells _ = false

-- whether the table has an entry at the mark of each of the words
abbrev pub are_marked : List ℕ → List (List ℕ) → Bool
are_marked latest [] = true
are_marked latest (w ∷ ws) = tells (slice_get latest (word_mark w)) && are_marked latest ws

abbrev pub is_nothing : List (List ℕ) → Bool
is_nothing [] = true
is_nothing (w ∷ ws) = false

-- a table of all marks that tells of each of the words, or no such table, and no words
abbrev pub is_table : List ℕ → List (List ℕ) → Bool
is_table latest ws = if length latest == 1024 then are_marked latest ws else is_nothing ws
