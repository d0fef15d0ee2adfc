use Rattle.ap_store.proofs.MentionLemmas.{marks_longer}
use Rattle.ap_store.proofs.mentions.make_place.Goals as goal

pub adding-preserved : goal.adding-preserved
adding-preserved c = λ i h. marks_longer c.adding.marks.items c.push.new.self.items i c.in_ok-push.ensures.items (c.adding.invariant i h)
