-- How many queries a text is made with.
use Rattle.std.specs.Prelude.{ℕ}

-- the most
abbrev pub most_queries : ℕ
most_queries = 1000
