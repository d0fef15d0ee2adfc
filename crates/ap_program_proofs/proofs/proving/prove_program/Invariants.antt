-- What is proved so far, and what is left, are all.
use Rattle.std.proofs.Common.{◌≡◌, ◌+◌, ◌++◌, drop, map}
use Rattle.ap_defs.specs.Goals.{program_of}
use Rattle.ap_shared.specs.SharedViews.{shared_proved}
use Rattle.ap_verdicts.specs.Proofs.{limited_proofs, limited_proofs_from}
use Rattle.ap_program_proofs.proofs.proving.prove_program.Given as goal

abbrev pub invariant-loop-place : goal.invariant-loop-place
invariant-loop-place g l =
    map shared_proved l.all.items ++ limited_proofs_from (program_of l.program).clauses l.depth l.limit (1 + l.place) (drop l.place (program_of l.program).queries)
    ≡ limited_proofs l.depth l.limit (program_of l.program)
