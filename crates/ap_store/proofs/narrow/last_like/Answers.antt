use Rattle.std.proofs.Common.{ap, ◌∙◌}
use Rattle.ap_store.specs.Founds.{is_ground_found}
use Rattle.ap_store.proofs.narrow.last_like.Goals as goal

pub returns-in-Ground : goal.returns-in-Ground
returns-in-Ground c = λ y. c.following.invariant y ∙ c.found.ensures.no_vars (ap is_ground_found c.in-Ground.is) y
