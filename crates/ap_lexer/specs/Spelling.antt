-- How tokens are spelled.
use Rattle.std.specs.Prelude.{ℕ, Bool, ◌&&◌, ◌||◌, ◌==◌, not, nat_le, List, [], ◌∷◌, ◌≡◌, true, false, codes, encode_utf8_all}
use Rattle.std.specs.List.{list_any, AllPass}
use Rattle.std.specs.Str.{bytes_eq}
use Rattle.unicode_ident.specs.Ident.{is_xid_start, is_xid_continue}
use Rattle.ap_lexer.specs.declared.token.TokenKind.{TokenKind}
use Rattle.ap_lexer.specs.declared.token.TokenKind.TheVariants.{Var, Ident, Reserved, Sign}

-- `A` to `Z`
abbrev pub is_upper : ℕ → Bool
is_upper c = nat_le 65 c && nat_le c 90

-- a variable begins with `A` to `Z` or `_`
abbrev pub starts_variable : ℕ → Bool
starts_variable c = is_upper c || (c == 95)

-- an identifier begins with a character that has XID_Start and is none of `A` to `Z`
abbrev pub starts_identifier : ℕ → Bool
starts_identifier c = is_xid_start c && not (is_upper c)

abbrev pub reserved_words : List (List ℕ)
reserved_words = codes "name_type" ∷ codes "type" ∷ codes "pred" ∷ codes "new" ∷ codes "exists" ∷ codes "swap" ∷ []

abbrev pub is_reserved : List ℕ → Bool
is_reserved word = list_any (bytes_eq word) reserved_words

-- the marks of two bytes
abbrev pub long_marks : List (List ℕ)
long_marks = codes ":-" ∷ codes "?-" ∷ codes "->" ∷ []

-- the marks of one byte
abbrev pub short_marks : List (List ℕ)
short_marks = codes "." ∷ codes "," ∷ codes ";" ∷ codes ":" ∷ codes "(" ∷ codes ")" ∷ codes "[" ∷ codes "]" ∷ codes "|" ∷ codes "\\" ∷ codes "#" ∷ codes "=" ∷ []

abbrev pub is_long_mark : List ℕ → Bool
is_long_mark bytes = list_any (bytes_eq bytes) long_marks

abbrev pub is_short_mark : List ℕ → Bool
is_short_mark bytes = list_any (bytes_eq bytes) short_marks

-- a word: a character that may begin it, and then characters that go on with it
abbrev pub IsWord : (ℕ → Bool) → List ℕ → Type 0
IsWord starts bytes = (c : ℕ) × (cs : List ℕ) × (encode_utf8_all (c ∷ cs) ≡ bytes) × (starts c ≡ true) × AllPass is_xid_continue cs

-- the bytes are a token of a kind, no more and no less
abbrev pub IsToken : TokenKind → List ℕ → Type 0
IsToken Var bytes = IsWord starts_variable bytes
IsToken Ident bytes = IsWord starts_identifier bytes × (is_reserved bytes ≡ false)
IsToken Reserved bytes = IsWord starts_identifier bytes × (is_reserved bytes ≡ true)
IsToken Sign bytes = is_long_mark bytes || is_short_mark bytes ≡ true
