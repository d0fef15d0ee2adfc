-- Ends of a search, and their outputs.
use Rattle.std.specs.Prelude.{ℕ, List}
use Rattle.ap_defs.specs.Answers.{NominalOut, answer_of, cut, found, stuck}
use Rattle.ap_turns.specs.declared.ends.End.{End}
use Rattle.ap_turns.specs.declared.ends.End.TheVariants as ends

-- the output of an end to which these choices led
abbrev pub end_out : List ℕ → End → NominalOut
end_out p (ends.Found a) = found p (answer_of a)
end_out p ends.Cut = cut p
end_out p ends.Stuck = stuck p
