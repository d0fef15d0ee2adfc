use Rattle.std.proofs.Common.{rules, ◌≡◌, ◌∷◌, Err}
use Rattle.ap_book.specs.declared.error.SkipError.TheVariants as refused
use Rattle.ap_tools.proofs.Sole.{sole_skipped, sole_not_skipped, sole_needed}
use Rattle.ap_tools.proofs.Accounting.{ends_skip, ends_not_skip, ends_needed}
use Rattle.ap_steal.proofs.step.is_needed.Goals as goal

pub returns-in-Ok-clause-order : goal.returns-in-Ok-clause-order
returns-in-Ok-clause-order g c hand sole =
    let t = c.in-Ok.ensures.turn in
    let new = c.skip_planned.new.seat in
    sole_skipped c.args.seat.now new.number t.0 new.seen c.args.path.now _ hand c.in-Ok.field-0 c.in-Ok.ensures.same.1 t.1 t.2 sole

pub returns-in-Err-NotOpen-clause-order : goal.returns-in-Err-NotOpen-clause-order
returns-in-Err-NotOpen-clause-order g c hand sole =
    let t = c.skip_planned.ensures.turn in
    let new = c.skip_planned.new.seat in
    let not : c.skip_planned.result ≡ Err refused.NotOpen = search rules in
    sole_not_skipped c.args.seat.now new.number t.0 new.seen c.args.path.now _ hand c.skip_planned.result not c.skip_planned.ensures.same.1 t.1 t.2 sole

pub returns-in-Err-Needed-clause-order : goal.returns-in-Err-Needed-clause-order
returns-in-Err-Needed-clause-order g c hand sole =
    let t = c.skip_planned.ensures.turn in
    let new = c.skip_planned.new.seat in
    let k = c.in-Err-Needed._found in
    let needed : c.skip_planned.result ≡ Err (refused.Needed k) = search rules in
    sole_needed c.args.seat.now new.number t.0 new.seen c.args.path.now _ (c.args.path.now ∷ hand) c.skip_planned.result k needed c.skip_planned.ensures.same.1 t.1 t.2 sole

pub returns-in-Ok-clause-ended : goal.returns-in-Ok-clause-ended
returns-in-Ok-clause-ended g c =
    let t = c.in-Ok.ensures.turn in
    ends_skip c.args.seat.now t.0 c.skip_planned.new.seat.seen c.args.path.now _ c.in-Ok.field-0 t.1 t.2

pub returns-in-Err-NotOpen-clause-ended : goal.returns-in-Err-NotOpen-clause-ended
returns-in-Err-NotOpen-clause-ended g c =
    let t = c.skip_planned.ensures.turn in
    let not : c.skip_planned.result ≡ Err refused.NotOpen = search rules in
    ends_not_skip c.args.seat.now t.0 c.skip_planned.new.seat.seen c.args.path.now _ _ c.skip_planned.result not t.1 t.2

pub returns-in-Err-Needed-clause-ended : goal.returns-in-Err-Needed-clause-ended
returns-in-Err-Needed-clause-ended g c =
    let t = c.skip_planned.ensures.turn in
    let k = c.in-Err-Needed._found in
    let needed : c.skip_planned.result ≡ Err (refused.Needed k) = search rules in
    ends_needed c.args.seat.now t.0 c.skip_planned.new.seat.seen c.args.path.now _ _ k c.skip_planned.result needed t.1 t.2
