use Rattle.std.proofs.Common.{rules, arith, ◌≡◌, ◌∙◌, List, [], ◌∷◌, length, length-append, sym, ap, subst}
use Rattle.atomic_table.specs.Table.{Me}
use Rattle.ap_tools.specs.Turns.{Slot}
use Rattle.ap_tools.specs.declared.locked.view.View.{View}
use Rattle.ap_tools.specs.Seats.{SeatView, AreLogged, seats_with}
use Rattle.ap_tools.proofs.Steps.{unite_step}
use Rattle.ap_tools.proofs.Endings.{logged_one, logged_last, took_in, of_last, times_one, times_more, seats_with-last}
use Rattle.ap_tools.proofs.locked.shared.SharedBook.unite.Goals as goal

pub loop-seat-init : goal.loop-seat-init
loop-seat-init c =
    let is = c.last.invariant in
    let n = ap (λ (m : Me Slot View). length m.0.owns) is in (
      ap (λ (s : SeatView). s.book) c.last.view_is ∙ c.requires.0,
      c.requires.1,
      ap (λ (m : Me Slot View). m.0.stage) is,
      ap (λ (m : Me Slot View). m.1) is,
      omega arith,
      λ H known logged. logged_last H c.args.seats.items c.args.last (logged_one H c.last.inside.number c.last.inside.raw c.args.last c.last.view_is is known) logged,
      λ n. (let a = times_one n c.last.inside.number c.last.inside.raw c.args.last c.last.view_is is in omega (arith, seats_with-last n c.args.seats.items c.args.last)),
    )

pub join_seat-requires : goal.join_seat-requires
join_seat-requires c =
    let v = c.loop-seat.invariant in
    let n = c.args.self.now.words in
    let o = of_last _ _ _ _ c.in-Some.ensures.items v.1 in (
      v.0,
      ap (λ (s : SeatView). s.book) c.seat.view_is ∙ o.1,
      ap (λ (m : Me Slot View). m.1) c.seat.invariant,
      omega arith,
      unite_step _ _ _ _ _ v.2 (ap (λ (m : Me Slot View). m.0.stage) c.seat.invariant),
    )

pub loop-seat-preserved : goal.loop-seat-preserved
loop-seat-preserved c =
    let v = c.loop-seat.invariant in
    let e = c.join_seat.ensures in
    let items = c.in-Some.ensures.items in
    let o = of_last _ _ _ _ items v.1 in
    let more = ap (λ (m : Me Slot View). length m.0.owns) e.2 in
    let one = ap (λ (m : Me Slot View). length m.0.owns) c.seat.invariant in
    let count = ap length items in
    let sum = v.4 in (
      e.0 ∙ v.0,
      o.0,
      ap (λ (m : Me Slot View). m.0.stage) e.2,
      ap (λ (m : Me Slot View). m.1) e.2 ∙ v.3,
      omega (arith, length-append c.loop-seat.first.me.0.owns c.seat.inside.raw.me.0.owns, length-append c.pop.new.self.items (c.in-Some.seat ∷ [])),
      λ H known logged. (let t = took_in H c.seat.inside.number c.loop-seat.first.me.0 c.join_seat.new.seat.me.0 c.seat.inside.raw c.in-Some.seat c.loop-seat.seats.items c.pop.new.self.items (ap (λ (m : Me Slot View). m.0) e.2) items c.seat.view_is c.seat.invariant known logged in v.5 H t.0 t.1),
      λ n. (let t = times_more n c.seat.inside.number c.loop-seat.first.me.0 c.join_seat.new.seat.me.0 c.seat.inside.raw c.in-Some.seat c.loop-seat.seats.items c.pop.new.self.items (ap (λ (m : Me Slot View). m.0) e.2) items c.seat.view_is c.seat.invariant in let a = v.6 n in omega arith),
    )

pub returns : goal.returns
returns c =
    let v = c.loop-seat.invariant in
    let empty : c.loop-seat.seats.items ≡ [] = search rules in
    let count = ap length empty in
    let sum = v.4 in (
      v.0,
      (
        v.2,
        v.3,
        omega (arith, length-append c.args.seats.items (c.args.last ∷ [])),
        λ H known. v.5 H known (subst (λ (l : List SeatView). AreLogged H l) (sym empty) tt),
        λ n. (let a = v.6 n in let z = ap (seats_with n) empty in omega arith),
      ),
    )
