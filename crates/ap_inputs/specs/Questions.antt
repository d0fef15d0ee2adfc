-- Queries as they stand in a text.
use Rattle.std.specs.Prelude.{ℕ, List, ◌++◌, codes, if◌then◌else◌}
use Rattle.ap_inputs.specs.Lines.{has_mark}

-- a query as it stands in a text, with `?-` before it
abbrev pub question_of : List ℕ → List ℕ
question_of query = if has_mark query then query else (codes "?- " ++ query)

-- the loaded text with a query
abbrev pub text_with : List ℕ → List ℕ → List ℕ
text_with loaded query = loaded ++ question_of query
