use Rattle.std.proofs.Common.{inr, ◌∙◌}
use Rattle.ap_store.proofs.LikeLemmas.{like_in_apart, like_in_beyond, like_in_here}
use Rattle.ap_store.proofs.likes.keep_further.Goals as goal

pub returns-then-is_ok-clause-others : goal.returns-then-is_ok-clause-others
returns-then-is_ok-clause-others c = λ i h. like_in_apart c.make_place.new.likes.items c.args.place i c.args.like h ∙ c.make_place.ensures.likes i

pub returns-then-is_ok-clause-here : goal.returns-then-is_ok-clause-here
returns-then-is_ok-clause-here c = like_in_here c.make_place.new.likes.items c.args.place c.args.like

pub returns-else-is_ok-clause-here : goal.returns-else-is_ok-clause-here
returns-else-is_ok-clause-here c = inr (c.make_place.ensures.likes c.args.place ∙ like_in_beyond c.args.likes.now.items c.args.place c.requires)
