use Rattle.std.proofs.Common.{◌≤◌, length, sym, arith}
use Rattle.ap_store.proofs.LikeLemmas.{like_in_beyond, like_in_index}
use Rattle.ap_store.proofs.likes.like_of.Goals as goal

pub returns-then-place-likes : goal.returns-then-place-likes
returns-then-place-likes c = like_in_index c.args.likes.now c.args.place

pub returns-else-place-likes : goal.returns-else-place-likes
returns-else-place-likes c =
    let l : length c.args.likes.now ≤ c.args.place = omega arith in
    sym (like_in_beyond c.args.likes.now c.args.place l)
