use Rattle.std.proofs.Common.{map}
use Rattle.ap_defs.specs.Goals.{query_over}
use Rattle.ap_defs.specs.RawTerms.{raw_of}
use Rattle.ap_defs.specs.Types.{signature_of}
use Rattle.ap_typecheck.proofs.state.program_of_parts.Goals as goal

pub returns : goal.returns
returns c = λ j. record { signature = signature_of c.args.signature; clauses = c.in_ok-clauses.ensures j; queries = map (query_over raw_of) (c.of.ensures j); words = c.args.words }
