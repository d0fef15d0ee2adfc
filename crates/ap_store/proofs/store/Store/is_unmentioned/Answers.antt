use Rattle.ap_store.proofs.MentionLemmas.{unmentioned_absent}
use Rattle.ap_store.proofs.store.Store.is_unmentioned.Goals as goal

pub returns : goal.returns
returns c = λ t h. let k = c.is_apart.ensures h in unmentioned_absent c.args.self.now c.args.x k.0 k.1 t
