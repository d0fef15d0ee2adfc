-- What is proved of greater depths.
use Rattle.std.specs.Prelude.{◌≡◌, ◌≤◌, ℕ, List, [], ◌∷◌}
use Rattle.ap_defs.specs.Answers.{query_outs}
use Rattle.ap_defs.specs.Goals.{Clauses, NominalProgram, NominalQuery}
use Rattle.ap_search.specs.Depths.{HasNoCutOut}
use Rattle.ap_text_commands.specs.Counts.{clause_counts}

-- no branch of any query was cut
abbrev pub HaveNoCuts : Clauses → ℕ → List NominalQuery → Type 0
HaveNoCuts program depth [] = Unit {0}
HaveNoCuts program depth (q ∷ qs) = HasNoCutOut (query_outs program depth q) × HaveNoCuts program depth qs

-- where none was, each clause is used as often at a greater depth; so one that is dead stays so
abbrev pub DeeperCountsAreTheSame : Type 0
DeeperCountsAreTheSame = (p : NominalProgram) (d e : ℕ) → d ≤ e → HaveNoCuts p.clauses d p.queries → clause_counts e p ≡ clause_counts d p
