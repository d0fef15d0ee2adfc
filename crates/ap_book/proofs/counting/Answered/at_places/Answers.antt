use Rattle.std.proofs.Common.{◌<◌, ap, sym, subst, get_or, length, List, ℕ, arith}
use Rattle.std.specs.Prelude.{slice_get}
use Rattle.ap_book.specs.Counts.{adds_at}
use Rattle.ap_book.proofs.Tallying.{in_at, counted_at}
use Rattle.ap_book.proofs.counting.Answered.at_places.Goals as goal

pub answers_at-requires : goal.answers_at-requires
answers_at-requires c =
    let v = c.as_slice-place-items.ensures.value in
    let i = c.loop-place.place-index in
    let is = c.args.self.now.places.items in
    let lt : i < length is = (let z = ap length v in let y = c.loop-place-test.true in omega arith) in
    subst (λ (l : List ℕ). get_or l i 0 < length c.args.history.now) (sym v) (in_at (length c.args.history.now) is i 0 c.requires.1 lt)

pub loop-place-preserved : goal.loop-place-preserved
loop-place-preserved c =
    let v = c.as_slice-place-items.ensures.value in
    let p = c.args.path.now in
    let h = c.args.history.now in
    let i = c.loop-place.place-index in
    let is = c.args.self.now.places.items in
    let lt : i < length is = (let z = ap length v in let y = c.loop-place-test.true in omega arith) in
    let n = counted_at p h is i 0 lt in
    let u = ap (λ (l : List ℕ). adds_at p (slice_get h (get_or l i 0))) v in
    let w = c.answers_at.ensures in
    let s = c.saturating_add-count.ensures in
    let k = c.loop-place.invariant in
    omega arith
