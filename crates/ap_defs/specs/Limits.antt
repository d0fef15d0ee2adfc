-- The limits of what may be asked for and of what is read. No other number limits either.
use Rattle.std.specs.Prelude.{ℕ, Option, None, Some, ◌&&◌, nat_le, if◌then◌else◌}

-- the greatest depth to which queries are searched
abbrev pub greatest_depth : ℕ
greatest_depth = 1000000

-- the most workers that search side by side
abbrev pub most_workers : ℕ
most_workers = 64

-- the most bytes that an input may have, and so the most tokens and items of a text
abbrev pub size_limit : ℕ
size_limit = 16777216

-- the number, where it is in the range
abbrev pub within : ℕ → ℕ → ℕ → Option ℕ
within least most n = if nat_le least n && nat_le n most then Some n else None
