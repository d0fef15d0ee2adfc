use Rattle.std.proofs.Common.{rules, ◌≡◌, Err}
use Rattle.ap_paths.specs.declared.entries.Entry.TheVariants.{Done}
use Rattle.ap_book.specs.declared.error.BookError.TheVariants.{NotOpen}
use Rattle.ap_tools.proofs.Sole.{sole_done, sole_not_done}
use Rattle.ap_tools.proofs.Accounting.{ends_done, ends_not_done}
use Rattle.ap_entering.proofs.entering.run_outs.Goals as goal

pub returns-in-Ok-clause-order : goal.returns-in-Ok-clause-order
returns-in-Ok-clause-order g c hand sole =
    let t = c.in-Ok.ensures.turn in
    let new = c.done_planned.new.seat in
    sole_done c.args.seat.now new.number t.0 new.seen c.args.path.now c.into_vec.result.items hand c.in-Ok.field-0 c.in-Ok.ensures.same.1 t.1 t.2 sole

pub returns-in-NotOpen-clause-order : goal.returns-in-NotOpen-clause-order
returns-in-NotOpen-clause-order g c hand sole =
    let t = c.done_planned.ensures.turn in
    let new = c.done_planned.new.seat in
    let seat = c.args.seat.now in
    let d = c.in-Err.refused in
    let not : c.done_planned.result ≡ Err d = search rules in
    let cause : d.cause ≡ NotOpen = search rules in
    sole_not_done seat new.number t.0 new.seen c.args.path.now c.into_vec.result.items (Done seat.number c.args.path.now c.into_vec.result.items) hand c.done_planned.result d not cause c.done_planned.ensures.same.1 t.1 t.2 sole

pub returns-in-Ok-clause-ended : goal.returns-in-Ok-clause-ended
returns-in-Ok-clause-ended g c =
    let t = c.in-Ok.ensures.turn in
    ends_done c.args.seat.now t.0 c.done_planned.new.seat.seen c.args.path.now c.into_vec.result.items c.in-Ok.field-0 t.1 t.2

pub returns-in-NotOpen-clause-ended : goal.returns-in-NotOpen-clause-ended
returns-in-NotOpen-clause-ended g c =
    let t = c.done_planned.ensures.turn in
    let outs = c.into_vec.result.items in
    let d = c.in-Err.refused in
    let not : c.done_planned.result ≡ Err d = search rules in
    let cause : d.cause ≡ NotOpen = search rules in
    ends_not_done c.args.seat.now t.0 c.done_planned.new.seat.seen c.args.path.now outs (Done c.args.seat.now.number c.args.path.now outs) c.done_planned.result d not cause t.1 t.2
