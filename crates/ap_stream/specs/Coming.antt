-- Searches that give one output at a time: which are to come.
use Rattle.std.specs.Global.{Global}
use Rattle.std.specs.Prelude.{◌<◌, ◌^◌, List, ◌∷◌, Vec, length, map}
use Rattle.ap_defs.specs.Answers.{NominalOut}
use Rattle.ap_defs.specs.Goals.{Clauses, program_in}
use Rattle.ap_defs.specs.Types.{locals_of}
use Rattle.ap_paths.specs.Limits.{part}
use Rattle.ap_paths.specs.declared.limits.Limit.{Limit}
use Rattle.ap_machine.specs.Below.{AreClausesBelow}
use Rattle.ap_backchain.specs.Ends.{without_path}
use Rattle.ap_machine.specs.Machines.{position_of}
use Rattle.ap_machine.specs.Positions.{outs_from_each}
use Rattle.ap_machine.specs.Unbound.{answer_by_unbound}
use Rattle.ap_search.specs.Records.{Answering}
use Rattle.ap_backchain.specs.Searches.{HasPoints, pending_positions}
use Rattle.ap_machine.specs.declared.machine.Machine.{Machine}
use Rattle.ap_backchain.specs.declared.points.ChoicePoint.{ChoicePoint}
use Rattle.ap_stream.specs.declared.search.Search.{Search}

-- what is wanted of the outputs from a machine and from the choices that have ways left, without their paths
abbrev pub outs_coming : Clauses → Answering → Limit → Machine → Vec ChoicePoint Global → List NominalOut
outs_coming program answering wanted b v = map without_path (part wanted (outs_from_each program answering (position_of b ∷ pending_positions b v)))

-- with these answers
abbrev pub outs_coming_by : Answering → Search → List NominalOut
outs_coming_by answering s = outs_coming (program_in s.clauses.now) answering s.wanted s.machine s.points

abbrev pub outs_to_come : Search → List NominalOut
outs_to_come s = outs_coming_by (answer_by_unbound (locals_of s.locals.now)) s

-- the choices are those of the machine, of a program that can be searched
pub record IsSearching (s : Search) : Type 0 where
  pub clauses : AreClausesBelow (program_in s.clauses.now)
  pub locals : length s.locals.now < 2 ^ 64
  pub points : HasPoints s.machine s.points
