use Rattle.std.proofs.Common.{rules, ◌≡◌, ◌∙◌, ◌++◌, ◌∷◌, ℕ, List, Err, sym, ap, subst}
use Rattle.ap_paths.specs.declared.entries.Entry.TheVariants.{Split}
use Rattle.ap_paths.specs.History.{kids_of}
use Rattle.ap_book.specs.declared.error.BookError.TheVariants.{NotOpen}
use Rattle.ap_tools.specs.Order.{IsSole}
use Rattle.ap_tools.proofs.Sole.{sole_split, sole_not_split, if_ok_map}
use Rattle.ap_tools.proofs.Accounting.{kids_keep, shut_keeps}
use Rattle.ap_entering.proofs.entering.run_kids.Goals as goal

pub returns-in-Ok-clause-order : goal.returns-in-Ok-clause-order
returns-in-Ok-clause-order g c alone sole =
    let t = c.in-Ok.ensures.turn in
    let s = c.path.ensures.same in
    let ks = c.args.given.now in
    let hand = c.args.tools.now.hand.items in
    let seat = c.args.seat.now in
    let new = c.split_planned.new.seat in
    let here = subst (λ (x : List ℕ). IsSole (x ∷ hand) seat.number seat.seen) (sym s) sole in
    let after = sole_split seat new.number t.0 new.seen c.path.result.now ks hand c.in-Ok.field-0 c.in-Ok.ensures.same.1 t.1 t.2 here in
    if_ok_map _ _ c.take_kids.result (c.take_kids.ensures.kids alone) (λ is. subst (λ (h : List (List ℕ)). IsSole h new.number new.seen) (ap (λ (x : List ℕ). kids_of x ks ++ hand) s ∙ sym is) after)

pub returns-in-Err-NotOpen-clause-order : goal.returns-in-Err-NotOpen-clause-order
returns-in-Err-NotOpen-clause-order g c alone sole =
    let t = c.split_planned.ensures.turn in
    let s = c.path.ensures.same in
    let hand = c.args.tools.now.hand.items in
    let seat = c.args.seat.now in
    let new = c.split_planned.new.seat in
    let here = subst (λ (x : List ℕ). IsSole (x ∷ hand) seat.number seat.seen) (sym s) sole in
    let not : c.split_planned.result ≡ Err NotOpen = search rules in
    sole_not_split seat new.number t.0 new.seen c.path.result.now (Split seat.number c.path.result.now c.args.given.now) hand c.split_planned.result not c.split_planned.ensures.same.1 t.1 t.2 here

pub returns-in-Ok-clause-held : goal.returns-in-Ok-clause-held
returns-in-Ok-clause-held g c =
    let t = c.in-Ok.ensures.turn in
    let seen = c.split_planned.new.seat.seen in
    kids_keep c.args.seat.now t.0 seen c.args.path.now c.path.result.now c.args.given.now c.in-Ok.field-0 c.args.tools.now c.take_kids.new.self c.take_kids.result c.path.ensures.same t.1 t.2 c.take_kids.ensures.held c.take_kids.ensures.fetched

pub returns-in-Err-NotOpen-clause-held : goal.returns-in-Err-NotOpen-clause-held
returns-in-Err-NotOpen-clause-held g c =
    let t = c.split_planned.ensures.turn in
    let seat = c.args.seat.now in
    let q = c.path.result.now in
    let not : c.split_planned.result ≡ Err NotOpen = search rules in
    shut_keeps seat t.0 c.split_planned.new.seat.seen c.args.path.now q (Split seat.number q c.args.given.now) c.split_planned.result c.args.tools.now c.path.ensures.same not t.1 t.2
