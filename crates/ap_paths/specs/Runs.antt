-- Runs of outputs: one output, or so many cut or stuck branches one after another, without their paths.
use Rattle.std.specs.Prelude.{List, [], ◌∷◌, ◌++◌, replicate}
use Rattle.ap_defs.specs.Answers.{NominalOut, cut, out_of, stuck}
use Rattle.ap_paths.specs.declared.runs.Run.{Run}
use Rattle.ap_paths.specs.declared.runs.Run.TheVariants as runs

-- the outputs of a run
abbrev pub outs_of_run : Run → List NominalOut
outs_of_run (runs.One o) = out_of o ∷ []
outs_of_run (runs.Cuts n) = replicate n (cut [])
outs_of_run (runs.Stuck n) = replicate n (stuck [])

-- those of runs one after another
abbrev pub outs_of_runs : List Run → List NominalOut
outs_of_runs [] = []
outs_of_runs (r ∷ rs) = outs_of_run r ++ outs_of_runs rs
