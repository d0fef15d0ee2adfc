-- What a turn makes of a machine.
use Rattle.std.specs.Prelude.{[], ◌∷◌}
use Rattle.ap_machine.specs.Positions.{Position, Turned, ends, goes}
use Rattle.ap_turns.specs.Ends.{end_out}
use Rattle.ap_turns.specs.declared.turns.Turn.{Turn}
use Rattle.ap_turns.specs.declared.turns.Turn.TheVariants as turns

-- where a turn ends or goes on from the machine as it is then
abbrev pub turned_of : Turn → Position → Turned
turned_of turns.Goes p = goes (p ∷ [])
turned_of turns.Fails p = goes []
turned_of (turns.Ends e) p = ends (end_out p.path e)
