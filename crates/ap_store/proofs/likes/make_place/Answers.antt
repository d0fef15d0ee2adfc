use Rattle.std.proofs.Common.{◌∙◌}
use Rattle.ap_store.proofs.LikeLemmas.{like_in_more}
use Rattle.ap_store.proofs.likes.make_place.Goals as goal

pub adding-preserved : goal.adding-preserved
adding-preserved c = λ i. like_in_more c.adding.likes.items c.push.new.self.items i c.in_ok-push.ensures.items ∙ c.adding.invariant i
