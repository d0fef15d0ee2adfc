use Rattle.ap_store.proofs.MentionLemmas.{mark_here, marks_stay}
use Rattle.ap_store.proofs.mentions.mark_one.Goals as goal

pub returns-clause-stay : goal.returns-clause-stay
returns-clause-stay c = λ i h. marks_stay c.make_place.new.marks.items c.args.num i (c.make_place.ensures.stay i h)

pub returns-clause-marked : goal.returns-clause-marked
returns-clause-marked c = mark_here c.make_place.new.marks.items c.args.num c.in_ok-make_place.ensures.place
