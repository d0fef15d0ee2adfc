use Rattle.std.proofs.Common.{◌≡◌, ◌-◌, ◌++◌}
use Rattle.ap_text_commands.specs.Generated.{generated, queries}
use Rattle.ap_text_commands.proofs.texts.programs.program_of.Given as goal

-- with the queries that are left the text is whole
abbrev pub invariant-loop : goal.invariant-loop
invariant-loop l = l.out.items ++ queries (l.size - l.counter) l.draws.state ≡ generated l.seed l.size
