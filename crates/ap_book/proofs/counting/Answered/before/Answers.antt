use Rattle.std.proofs.Common.{◌∙◌, ◌-◌, ◌^◌, min, ap, arith, List}
use Rattle.std.proofs.lemmas.List.{take_all}
use Rattle.ap_paths.specs.declared.entries.Entry.{Entry}
use Rattle.ap_paths.specs.Entries.{entry_of, entries_of}
use Rattle.ap_paths.specs.History.{answers_before}
use Rattle.ap_book.specs.Counts.{adds}
use Rattle.ap_book.proofs.Additions.{counted_next}
use Rattle.ap_book.proofs.counting.Answered.before.Goals as goal

pub loop-i-init : goal.loop-i-init
loop-i-init c = c.at_places-count.ensures ∙ ap (λ n. min n (2 ^ 64 - 1)) (c.requires.2 c.args.path.now)

pub loop-i-preserved : goal.loop-i-preserved
loop-i-preserved c =
    let v = c.loop-i.invariant in
    let p = c.args.path.now in
    let xs = c.args.history.now in
    let i = c.loop-i.i in
    let d = c.index-history-i.result in
    let n = counted_next p xs i d c.loop-i-test.true in
    let e = ap (λ (x : Entry). adds p (entry_of x)) c.index-history-i.is in
    let f = c.answers_of.ensures in
    omega arith

pub returns : goal.returns
returns c =
    let xs = c.args.history.now in
    c.loop-i.invariant ∙ ap (λ (l : List Entry). min (answers_before c.args.path.now (entries_of l)) (2 ^ 64 - 1)) (take_all c.loop-i.i xs c.loop-i-test.false)
