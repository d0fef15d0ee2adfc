use Rattle.std.proofs.Common.{subst, sym}
use Rattle.ap_defs.specs.RawTerms.{raw_of}
use Rattle.ap_defs.specs.Goals.{program_over}
use Rattle.ap_program.specs.NameRestriction.{IsRestricted, items_of}
use Rattle.ap_restrict.specs.Scans.{IsScan}
use Rattle.ap_restrict.proofs.KeepingLemmas.{kept}
use Rattle.ap_restrict.proofs.restrict.restrict.Goals as goal

pub of-requires : goal.of-requires
of-requires c =
    let p = program_over raw_of c.args.program in
    subst IsRestricted (sym c.in_ok-carried-in-None.ensures)
    (kept p c.requires.typed (subst (IsScan p.signature.constructors (items_of p)) c.in-None.is c.in_ok-fault.ensures) c.requires.bounded)
