use Rattle.std.proofs.Common.{◌≤◌, length, inl, inr, ◌∙◌, arith}
use Rattle.ap_store.proofs.LikeLemmas.{like_in_apart, like_in_beyond, like_in_here, like_in_put}
use Rattle.ap_store.proofs.likes.keep_like.Goals as goal

pub returns-then-place-len-clause-others : goal.returns-then-place-len-clause-others
returns-then-place-len-clause-others c = λ i h. like_in_apart c.args.likes.now.items c.args.place i c.args.like h

pub returns-then-place-len-clause-room : goal.returns-then-place-len-clause-room
returns-then-place-len-clause-room c = λ h. like_in_put c.args.likes.now.items c.args.place c.args.like h

pub returns-then-place-len-clause-here : goal.returns-then-place-len-clause-here
returns-then-place-len-clause-here c = like_in_here c.args.likes.now.items c.args.place c.args.like

pub returns-then-is_nothing-clause-room : goal.returns-then-is_nothing-clause-room
returns-then-is_nothing-clause-room c = λ h. absurd (omega (arith, h, c.len.ensures, c.if-place-len.false))

pub returns-then-is_nothing-clause-here : goal.returns-then-is_nothing-clause-here
returns-then-is_nothing-clause-here c =
    let l : length c.args.likes.now.items ≤ c.args.place = omega (arith, c.len.ensures, c.if-place-len.false) in
    inr (like_in_beyond c.args.likes.now.items c.args.place l)

pub returns-clause-room : goal.returns-clause-room
returns-clause-room c = λ h. absurd (omega (arith, h, c.len.ensures, c.if-place-len.false))
