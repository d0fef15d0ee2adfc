-- The program has the commands before this one.
use Rattle.std.proofs.Common.{◌≡◌, take}
use Rattle.std.specs.Prelude.{fold}
use Rattle.clap.specs.Words.{app_of}
use Rattle.ap_words.specs.Program.{bare_program, with_command}
use Rattle.ap_words.specs.Table.{commands}
use Rattle.ap_words.proofs.program.program.Given as goal

abbrev pub invariant-loop-command : goal.invariant-loop-command
invariant-loop-command l = app_of l.made ≡ fold with_command bare_program (take l.command-index commands)
