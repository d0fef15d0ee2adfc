-- The query that was searched last.
use Rattle.std.specs.Prelude.{◌≡◌, ℕ}
use Rattle.ap_defs.specs.Answers.{outs_of}
use Rattle.ap_defs.specs.Goals.{NominalProgram}
use Rattle.ap_cover.specs.Covers.{outs_asked}
use Rattle.ap_covering.specs.declared.searched.Searched.{Searched}

-- It is the query with this number, and these are its outputs to the depth.
pub record HasSearched (p : NominalProgram) (depth query : ℕ) (s : Searched) : Type 0 where
  pub asked : s.query ≡ query
  pub outs : outs_of s.outs.items ≡ outs_asked p depth query
