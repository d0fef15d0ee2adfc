-- Outputs with their paths or without.
use Rattle.std.specs.Prelude.{[]}
use Rattle.ap_defs.specs.Answers.{NominalOut, cut, found, stuck}
use Rattle.ap_backchain.specs.declared.run.Paths.{Paths}
use Rattle.ap_backchain.specs.declared.run.Paths.TheVariants as paths

-- an output without its path
abbrev pub without_path : NominalOut → NominalOut
without_path (found p a) = found [] a
without_path (cut p) = cut []
without_path (stuck p) = stuck []

-- an output as it is kept
abbrev pub kept_out : Paths → NominalOut → NominalOut
kept_out paths.Kept o = o
kept_out paths.Left o = without_path o
