-- No command before this one has the name.
use Rattle.std.proofs.Common.{◌≡◌, drop}
use Rattle.std.specs.Prelude.{find}
use Rattle.std.specs.Str.{bytes_eq}
use Rattle.ap_words.specs.Table.{command_name, commands}
use Rattle.ap_words.proofs.reading.command_named.Given as goal

abbrev pub invariant-loop-command : goal.invariant-loop-command
invariant-loop-command l = find (λ c. bytes_eq (command_name c) l.word) (drop l.command-index commands) ≡ find (λ c. bytes_eq (command_name c) l.word) commands
