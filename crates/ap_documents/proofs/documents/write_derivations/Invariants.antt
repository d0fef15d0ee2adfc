-- The derivations so far are written, and the others are left.
use Rattle.std.proofs.Common.{length}
use Rattle.ap_defs.specs.Goals.{program_of}
use Rattle.ap_documents.proofs.DocumentLemmas.{AreWrittenSoFar}
use Rattle.ap_documents.proofs.documents.write_derivations.Given as goal

abbrev pub invariant-derivations : goal.invariant-derivations
invariant-derivations l = AreWrittenSoFar l.format (program_of l.program) l.words l.fn.proved l.rest l.fn.out.items l.out.items

abbrev pub decreases-derivations : goal.decreases-derivations
decreases-derivations l = length l.rest
