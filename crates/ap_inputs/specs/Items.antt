-- The items of a text that are shown, and the text without its queries. An item is told by its tokens.
use Rattle.std.specs.Prelude.{ℕ, ◌-◌, ◌==◌, Bool, true, false, ◌&&◌, ◌||◌, if◌then◌else◌, List, [], ◌∷◌, ◌++◌, length, take, drop, map, filter, fold, slice_get, codes}
use Rattle.std.specs.List.{flat_map}
use Rattle.std.specs.Option.{option_map_or}
use Rattle.std.specs.Str.{bytes_eq}
use Rattle.ap_lexer.specs.Tokens.{Lexeme, is_dot}

-- a token more at the front of the first item
abbrev pub with_first : Lexeme → List (List Lexeme) → List (List Lexeme)
with_first t [] = (t ∷ []) ∷ []
with_first t (i ∷ is) = (t ∷ i) ∷ is

-- the items of tokens: cut behind each full stop
abbrev pub items_of_tokens : List Lexeme → List (List Lexeme)
items_of_tokens [] = []
items_of_tokens (t ∷ ts) = if is_dot t then (t ∷ []) ∷ items_of_tokens ts else with_first t (items_of_tokens ts)

-- where an item begins and ends among the bytes of its text
abbrev pub item_start_of : List Lexeme → ℕ
item_start_of i = option_map_or (λ (t : Lexeme). t.start) (slice_get i 0) 0

abbrev pub end_of : List Lexeme → ℕ
end_of i = option_map_or (λ (t : Lexeme). t.end) (slice_get i (length i - 1)) 0

-- QUERIES

abbrev pub is_mark : Lexeme → Bool
is_mark t = bytes_eq t.text (codes "?-")

-- an item that begins with `?-`
abbrev pub is_query : List Lexeme → Bool
is_query [] = false
is_query (t ∷ ts) = is_mark t

-- what stands in place of a byte that is left out: lines stay as they are
abbrev pub blank_for : ℕ → ℕ
blank_for b = if b == 10 then b else 32

-- a text with blanks from one place to another
abbrev pub blanked : ℕ → ℕ → List ℕ → List ℕ
blanked start end bs = let rest = drop start bs in take start bs ++ map blank_for (take (end - start) rest) ++ drop (end - start) rest

abbrev pub without_item : List ℕ → List Lexeme → List ℕ
without_item bs i = blanked (item_start_of i) (end_of i) bs

-- a text of these tokens, with blanks in place of its queries
abbrev pub without_queries : List ℕ → List Lexeme → List ℕ
without_queries text ts = fold without_item text (filter is_query (items_of_tokens ts))

-- bytes with the end of a line behind them, but where they end with one, or there are none
abbrev pub whole_lines : List ℕ → List ℕ
whole_lines bs = if option_map_or (λ b. b == 10) (slice_get bs (length bs - 1)) true then bs else (bs ++ 10 ∷ [])

-- what is kept of a text of these tokens
abbrev pub kept_text : List ℕ → List Lexeme → List ℕ
kept_text text ts = whole_lines (without_queries text ts)

-- WHAT IS SHOWN OF A WORD

-- an item that declares the word, or is a clause of it
abbrev pub is_about : List ℕ → List Lexeme → Bool
is_about w [] = false
is_about w (t ∷ []) = bytes_eq t.text w
is_about w (t ∷ u ∷ ts) = bytes_eq t.text w || (bytes_eq t.text (codes "pred") && bytes_eq u.text w)

-- an item as it stands in its text, and the end of a line
abbrev pub item_text : List ℕ → List Lexeme → List ℕ
item_text text i = take (end_of i - item_start_of i) (drop (item_start_of i) text) ++ 10 ∷ []

-- the items about a word
abbrev pub items_about : List ℕ → List Lexeme → List ℕ → List ℕ
items_about text ts w = flat_map (item_text text) (filter (is_about w) (items_of_tokens ts))
