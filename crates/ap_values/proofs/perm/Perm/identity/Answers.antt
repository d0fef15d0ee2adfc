use Rattle.std.proofs.Common.{[], sym, ◌∙◌}
use Rattle.ap_perm.proofs.SwappingLemmas.{canonical_none}
use Rattle.ap_values.proofs.PermLemmas.{flat_by, viewed_by}
use Rattle.ap_values.proofs.perm.Perm.identity.Goals as goal

pub invariant_of-result : goal.invariant_of-result
invariant_of-result c = (flat_by [] c.new.result.items (sym c.new.ensures.items), tt)

pub returns : goal.returns
returns c = viewed_by c.new.result.items c.result-1.given.0 [] (sym c.new.ensures.items) ∙ canonical_none
