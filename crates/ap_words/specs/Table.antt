-- The table of the commands and of their options.
use Rattle.std.specs.Prelude.{ℕ, Bool, true, false, List, [], ◌∷◌, codes}
use Rattle.ap_words.specs.declared.table.CommandName.{CommandName}
use Rattle.ap_words.specs.declared.table.CommandName.TheVariants as command
use Rattle.ap_words.specs.declared.table.OptionName.{OptionName}
use Rattle.ap_words.specs.declared.table.OptionName.TheVariants as option

-- each command: its name, and the options that it takes
abbrev pub commands : List CommandName
commands = command.Run ∷ command.Prove ∷ command.Check ∷ command.Convert ∷ command.Count ∷ command.Cover ∷ command.Examine ∷ command.Work ∷ []

abbrev pub command_name : CommandName → List ℕ
command_name command.Run = codes "run"
command_name command.Prove = codes "prove"
command_name command.Check = codes "check"
command_name command.Convert = codes "convert"
command_name command.Count = codes "count"
command_name command.Cover = codes "cover"
command_name command.Examine = codes "examine"
command_name command.Work = codes "work"

abbrev pub options_of : CommandName → List OptionName
options_of command.Run = option.Depth ∷ option.Workers ∷ option.Answers ∷ []
options_of command.Prove = option.Depth ∷ option.Workers ∷ option.Answers ∷ []
options_of command.Check = []
options_of command.Convert = option.To ∷ []
options_of command.Count = option.Depth ∷ option.Workers ∷ []
options_of command.Cover = option.Depth ∷ option.Workers ∷ []
options_of command.Examine = option.Depth ∷ option.Workers ∷ []
options_of command.Work = option.Seed ∷ option.Size ∷ option.Workers ∷ []

-- each option: its name, and whether it has to be there
abbrev pub option_name : OptionName → List ℕ
option_name option.Depth = codes "depth"
option_name option.Workers = codes "workers"
option_name option.Answers = codes "answers"
option_name option.To = codes "to"
option_name option.Seed = codes "seed"
option_name option.Size = codes "size"

abbrev pub is_required : OptionName → Bool
is_required option.Depth = true
is_required option.Workers = false
is_required option.Answers = false
is_required option.To = true
is_required option.Seed = true
is_required option.Size = true
