use Rattle.std.proofs.Common.{rules}
use Rattle.ap_scopes.specs.Views.{declared_of}
use Rattle.ap_typecheck.proofs.Tables.{no_constructors}
use Rattle.ap_typecheck.proofs.state.State.new.Goals as goal

pub returns-clause-kept : goal.returns-clause-kept
returns-clause-kept c = record {
  indexed = search rules;
  inhabited = no_constructors (declared_of c.new.result) c.no_inhabitants.result c.new.ensures.value c.no_inhabitants.ensures;
  listed = search rules;
}
