use Rattle.std.proofs.Common.{◌≤◌, arith}
use Rattle.ap_defs.specs.RawTerms.{raw_of}
use Rattle.ap_defs.specs.Goals.{program_over}
use Rattle.ap_defs.specs.Limits.{size_limit}
use Rattle.ap_typecheck.proofs.TypedPrograms.{program_typed}
use Rattle.ap_typecheck.proofs.Counting.{program_count}
use Rattle.ap_text.proofs.text.typed_program.Goals as goal

pub returns-in_ok-finish-in-Ok-clause-program : goal.returns-in_ok-finish-in-Ok-clause-program
returns-in_ok-finish-in-Ok-clause-program c =
    let t = c.in-Ok.ensures.typed in
    (t.0, t.1, c.in_ok-finish-in-Ok.ensures t.0 t.3)

pub returns-in_ok-finish-in-Ok-clause-typed : goal.returns-in_ok-finish-in-Ok-clause-typed
returns-in_ok-finish-in-Ok-clause-typed c =
    let t = c.in-Ok.ensures.typed in
    let p = program_over raw_of c.in_ok-finish-in-Ok.field-0 in
    program_typed t.0 p (c.in_ok-finish-in-Ok.ensures t.0 t.3)

pub returns-in_ok-finish-in-Ok-clause-bounded : goal.returns-in_ok-finish-in-Ok-clause-bounded
returns-in_ok-finish-in-Ok-clause-bounded c =
    let t = c.in-Ok.ensures.typed in
    let p = program_over raw_of c.in_ok-finish-in-Ok.field-0 in
    omega (arith, t.2, program_count t.0 p (c.in_ok-finish-in-Ok.ensures t.0 t.3))
