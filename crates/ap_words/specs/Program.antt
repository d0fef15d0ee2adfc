-- The program's command, as clap is told of it: a subcommand for each command, with an argument for each option.
use Rattle.std.specs.Prelude.{◌≡◌, true, false, Some, codes, fold}
use Rattle.clap.specs.Words.{App, Rule, new_app, new_rule, with_rule, with_subcommand}
use Rattle.clap.specs.Simple.{on_top}
use Rattle.clap.specs.declared.builder.command.Command.{Command}
use Rattle.clap.specs.declared.builder.command.Command.TheViews.{out-Command}
use Rattle.clap.specs.declared.builder.ArgAction.TheVariants.{Set}
use Rattle.ap_words.specs.declared.table.CommandName.{CommandName}
use Rattle.ap_words.specs.declared.table.OptionName.{OptionName}
use Rattle.ap_words.specs.Table.{commands, command_name, options_of, option_name, is_required}

abbrev pub argument_of : OptionName → Rule
argument_of o = record (new_rule (option_name o)) { long = Some (option_name o); action = Some Set; required = is_required o }

abbrev pub HasNoGlobals : Command → Type 0
HasNoGlobals c = (out-Command c).has_globals ≡ false

abbrev pub with_option : App → OptionName → App
with_option a o = with_rule a (argument_of o)

abbrev pub bare_subcommand : CommandName → App
bare_subcommand c = on_top (λ s. record s { disable_help_flag = true }) (new_app (command_name c))

abbrev pub subcommand_of : CommandName → App
subcommand_of c = fold with_option (bare_subcommand c) (options_of c)

abbrev pub with_command : App → CommandName → App
with_command a c = with_subcommand a (subcommand_of c).top

-- the words come without the program's name, and the first of them is a command
abbrev pub bare_program : App
bare_program =
    on_top (λ s. record s { no_binary_name = true; disable_help_flag = true; disable_help_subcommand = true; subcommand_required = true })
    (new_app (codes "alphaprolog"))

abbrev pub program : App
program = fold with_command bare_program commands
