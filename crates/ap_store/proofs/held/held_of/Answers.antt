use Rattle.std.proofs.Common.{◌<◌, ◌≤◌, length, sym, ◌∙◌, arith}
use Rattle.ap_store.proofs.HeldLemmas.{held_at, held_in_beyond}
use Rattle.ap_store.proofs.held.held_of.Goals as goal

pub returns-then-place-held : goal.returns-then-place-held
returns-then-place-held c =
    let l : c.args.place < length c.args.held.now = omega arith in
    c.as_slice.ensures.value ∙ held_at c.args.held.now c.args.place c.index-held-place.result l c.index-held-place.is

pub returns-else-place-held : goal.returns-else-place-held
returns-else-place-held c =
    let l : length c.args.held.now ≤ c.args.place = omega arith in
    sym (held_in_beyond c.args.held.now c.args.place l)
