use Rattle.std.proofs.Common.{rules, arith, ◌≡◌, ◌∙◌, ◌+◌, ◌-◌, List, [], ◌∷◌, ◌++◌, sym, ap}
use Rattle.atomic_table.specs.Table.{Me}
use Rattle.ap_tools.specs.declared.locked.view.Stage.TheVariants.{Idle}
use Rattle.ap_tools.specs.Turns.{Slot, view, lone, fresh_owns, others, first_seat_only}
use Rattle.ap_tools.specs.declared.locked.view.View.{View}
use Rattle.ap_tools.specs.Seats.{SeatView, book_id, new_seats, seat_view}
use Rattle.ap_tools.proofs.Steps.{cut_step}
use Rattle.ap_tools.proofs.Endings.{cut_first, made_seat, new_seats-last}
use Rattle.ap_tools.proofs.locked.shared.SharedBook.cut_seats.Goals as goal

pub split_seat-raw-requires : goal.split_seat-raw-requires
split_seat-raw-requires c =
    let v = c.loop-number.invariant in
    let n = c.args.self.now.words in
    (v.0, omega arith, cut_step _ _ _ (ap (λ (m : Me Slot View). m.0.stage) v.1))

pub loop-number-preserved : goal.loop-number-preserved
loop-number-preserved c =
    let v = c.loop-number.invariant in
    let k = c.loop-number.number in
    let m = c.args.seats - k in
    let lt = c.loop-number-test.true in
    let e = c.split_seat-raw.ensures in
    let cut = cut_first k m (omega arith) in
    let less : m - 1 ≡ c.args.seats - (k + 1) = omega arith in
    let raw = c.split_seat-raw.result in
    let made = made_seat (book_id c.args.self.now) k raw (e.3 ∙ v.0) (e.4 ∙ ap (λ (x : Me Slot View). (first_seat_only x.0, [])) v.1 ∙ ap (λ (x : View). (x, [])) cut.1) in (
      e.0 ∙ v.0,
      e.2 ∙ ap (λ (x : Me Slot View). (others x.0, x.1)) v.1 ∙ ap (λ (x : View). (x, [])) cut.0 ∙ ap (λ j. (view Idle (fresh_owns (k + 1) j), [])) less,
      c.push_reserved.ensures.items ∙ ap (λ (l : List SeatView). l ++ seat_view k raw ∷ []) v.2 ∙ sym (new_seats-last (book_id c.args.self.now) k (seat_view k raw) made.1),
      (let a = c.push_reserved.ensures.len in let b = v.3 in omega arith),
      (let a = c.push_reserved.ensures.capacity in let b = v.4 in omega arith),
    )

pub returns : goal.returns
returns c =
    let v = c.loop-number.invariant in
    let k = c.loop-number.number in
    let some = c.requires.seats.0 in
    let end : k ≡ c.args.seats - 1 = search rules in
    let raw = c.loop-number.first in
    let one : c.args.seats - k ≡ 1 = omega arith in
    let made = made_seat (book_id c.args.self.now) (c.args.seats - 1) raw v.0 (v.1 ∙ ap (λ j. (view Idle (fresh_owns k j), [])) one ∙ ap (λ j. (lone Idle j [], [])) end) in
    let all : (c.args.seats - 1) + 1 ≡ c.args.seats = omega arith in
    c.push_reserved-2.ensures.items ∙ ap (λ (l : List SeatView). l ++ seat_view (c.args.seats - 1) raw ∷ []) (v.2 ∙ ap (new_seats (book_id c.args.self.now) 0) end)
    ∙ sym (new_seats-last (book_id c.args.self.now) (c.args.seats - 1) (seat_view (c.args.seats - 1) raw) made.1) ∙ ap (new_seats (book_id c.args.self.now) 0) all
