-- The lines that are written of all proofs.
use Rattle.std.specs.Prelude.{ℕ, suc, List, [], ◌∷◌, ◌++◌}
use Rattle.ap_defs.specs.Goals.{NominalProgram}
use Rattle.ap_bundle.specs.Bundles.{NominalProved}
use Rattle.ap_cover.specs.Covers.{cover_of_proof}
use Rattle.ap_covering.specs.CoverLines.{cover_line}

-- the lines of proofs that are numbered from n on
abbrev pub cover_lines : NominalProgram → ℕ → ℕ → List NominalProved → List ℕ
cover_lines p depth n [] = []
cover_lines p depth n (d ∷ ds) = cover_line n d.query (cover_of_proof p depth d) ++ cover_lines p depth (suc n) ds
