use Rattle.ap_values.proofs.FlatLemmas.{IsUnseen}
use Rattle.ap_values.proofs.flat.origin_of.Given as goal

abbrev pub invariant-looking : goal.invariant-looking
invariant-looking l = IsUnseen l.moved l.a l.i
