use Rattle.std.proofs.Common.{subst}
use Rattle.ap_defs.specs.Goals.{program_of}
use Rattle.ap_defs.specs.declared.goals.Program.{Program}
use Rattle.ap_defs.specs.declared.terms.Term.{Term}
use Rattle.ap_program.specs.NameRestriction.{IsRestricted}
use Rattle.ap_index.proofs.index.Index.predicates.Goals as goal

pub returns-clause-restricted : goal.returns-clause-restricted
returns-clause-restricted c = subst (λ (p : Program Term). IsRestricted (program_of p)) c.self.view_is c.self.invariant.1
