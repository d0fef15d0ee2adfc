-- The command has the options before this one.
use Rattle.std.proofs.Common.{◌≡◌, take}
use Rattle.std.specs.Prelude.{fold}
use Rattle.clap.specs.Words.{app_of}
use Rattle.ap_words.specs.Program.{HasNoGlobals, bare_subcommand, with_option}
use Rattle.ap_words.specs.Table.{options_of}
use Rattle.ap_words.proofs.program.subcommand.Given as goal

abbrev pub invariant-loop-option : goal.invariant-loop-option
invariant-loop-option l = record {
  made : app_of l.made ≡ fold with_option (bare_subcommand l.fn.command) (take l.option-index (options_of l.fn.command));
  local : HasNoGlobals l.made;
}
