-- The identifiers of a clause or query, numbered from 0 by first occurrence.
use Rattle.std.specs.Prelude.{ℕ, Bool, true, false, not, ◌&&◌, if◌then◌else◌, List, [], ◌∷◌, ◌++◌, Option, None, Some, length, position, codes}
use Rattle.std.specs.Str.{bytes_eq}
use Rattle.ap_trees.specs.Terms.{Name, OfWord, OfVar}

-- A name or a variable with its spelling, and whether `new` or `exists` brings it.
pub record Identifier : Type 0 where
  pub spelling : Name
  pub bound : Bool

-- Those found so far; the number of an identifier is its place.
abbrev pub Found : Type 0
Found = List Identifier

-- What `new` and `exists` bring to a goal with their numbers, the inner ones first.
abbrev pub Scope : Type 0
Scope = List (Name × ℕ)

abbrev pub same_spelling : Name → Name → Bool
same_spelling (OfWord v) (OfWord w) = bytes_eq v w
same_spelling (OfVar v) (OfVar w) = bytes_eq v w
same_spelling _ _ = false

-- `_`
abbrev pub is_blank_name : Name → Bool
is_blank_name (OfWord w) = false
is_blank_name (OfVar w) = bytes_eq w (codes "_")

-- The innermost that is brought under this spelling.
abbrev pub brought_under : Scope → Name → Option ℕ
brought_under [] name = None
brought_under (b ∷ scope) name = if same_spelling name b.0 then Some b.1 else brought_under scope name

-- whether it is the identifier of that spelling that belongs to the whole clause or query
abbrev pub is_free_identifier : Name → Identifier → Bool
is_free_identifier name i = not i.bound && same_spelling name i.spelling

abbrev pub free_place : Found → Name → Option ℕ
free_place found name = position (is_free_identifier name) found

abbrev pub free_one : Name → Identifier
free_one name = record { spelling = name; bound = false }

abbrev pub bound_one : Name → Identifier
bound_one name = record { spelling = name; bound = true }

-- A number, and the identifiers found by then.
abbrev pub Numbering : Type 0
Numbering = ℕ × Found

abbrev pub number_new : Found → Identifier → Numbering
number_new found i = (length found, found ++ i ∷ [])

abbrev pub number_or : Found → Numbering → Option ℕ → Numbering
number_or found other (Some n) = (n, found)
number_or found other None = other

-- what belongs to the whole clause or query under this spelling, if need be as a new one
abbrev pub free_number : Found → Name → Numbering
free_number found name = number_or found (number_new found (free_one name)) (free_place found name)

-- The number of the identifier that stands at an occurrence: each `_` is a new one; else it is the innermost that the
-- goals around it bring, or what belongs to the whole.
abbrev pub numbered_in : Scope → Name → Found → Numbering
numbered_in scope name found = if is_blank_name name then number_new found (free_one name) else number_or found (free_number found name) (brought_under scope name)
