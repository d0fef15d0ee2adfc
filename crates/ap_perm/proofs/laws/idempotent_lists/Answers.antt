use Rattle.ap_perm.proofs.LookupLemmas.{carried_out_under, idempotent_ranked}
use Rattle.ap_perm.proofs.laws.idempotent_lists.Goals as goal

pub returns : goal.returns
returns c = record { ranked = idempotent_ranked; under = carried_out_under }
