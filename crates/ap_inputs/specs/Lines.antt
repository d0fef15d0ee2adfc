-- Lines as they are typed: which are commands, and where a query ends.
use Rattle.std.specs.Prelude.{ℕ, suc, Bool, false, not, ◌==◌, ◌&&◌, List, [], ◌∷◌, drop, length, Option, None, Some, if◌then◌else◌}
use Rattle.std.specs.Char.{is_ascii_whitespace}
use Rattle.ap_inputs.specs.declared.lines.LineKind.{LineKind}
use Rattle.ap_inputs.specs.declared.lines.LineKind.TheVariants as kinds

-- how many blanks the bytes begin with
abbrev pub leading_blanks : List ℕ → ℕ
leading_blanks [] = 0
leading_blanks (b ∷ bs) = if is_ascii_whitespace b then suc (leading_blanks bs) else 0

-- a comment begins with `%`, a command with `:`
abbrev pub kind_by : ℕ → LineKind
kind_by b = if b == 37 then kinds.Empty else if b == 58 then kinds.Command else kinds.Text

abbrev pub kind_by_first : List ℕ → LineKind
kind_by_first [] = kinds.Empty
kind_by_first (b ∷ bs) = kind_by b

-- what a line holds, by its first byte that is no blank
abbrev pub line_kind_of : List ℕ → LineKind
line_kind_of line = kind_by_first (drop (leading_blanks line) line)

-- whether a line holds a full stop alone: before and behind it are only blanks
abbrev pub is_stop_first : List ℕ → Bool
is_stop_first [] = false
is_stop_first (b ∷ bs) = (b == 46) && (leading_blanks bs == length bs)

abbrev pub is_stop_line : List ℕ → Bool
is_stop_line line = is_stop_first (drop (leading_blanks line) line)

-- whether bytes begin with `?-`
abbrev pub begins_with_mark : List ℕ → Bool
begins_with_mark [] = false
begins_with_mark (b ∷ []) = false
begins_with_mark (b ∷ c ∷ bs) = (b == 63) && (c == 45)

-- whether a query has its `?-` already
abbrev pub has_mark : List ℕ → Bool
has_mark query = begins_with_mark (drop (leading_blanks query) query)

-- whether the next byte is in a comment, which goes from `%` to the end of the line
abbrev pub comment_after : Bool → ℕ → Bool
comment_after in_comment b = if in_comment then not (b == 10) else (b == 37)

-- the number of bytes up to and with the first full stop that is in no comment, of which n are gone
abbrev pub end_from : ℕ → Bool → List ℕ → Option ℕ
end_from n in_comment [] = None
end_from n in_comment (b ∷ bs) = if (b == 46) && not in_comment then Some (suc n) else end_from (suc n) (comment_after in_comment b) bs

-- where a query ends in a line
abbrev pub query_end : List ℕ → Option ℕ
query_end line = end_from 0 false line
