use Rattle.std.proofs.Common.{◌∙◌, ◌-◌, ◌^◌, min, ap, sym, Option}
use Rattle.std.proofs.lemmas.Option.{slice_get-get_or}
use Rattle.ap_paths.specs.declared.entries.Entry.{Entry}
use Rattle.ap_paths.specs.Entries.{entry_of}
use Rattle.ap_book.specs.Counts.{adds, adds_at}
use Rattle.ap_book.proofs.counting.answers_at.Goals as goal

pub returns : goal.returns
returns c =
    let p = c.args.path.now in
    let h = c.args.history.now in
    let e = c.index-history-place in
    c.answers_of.ensures ∙ ap (λ (x : Entry). min (adds p (entry_of x)) (2 ^ 64 - 1)) e.is ∙ ap (λ (o : Option Entry). min (adds_at p o) (2 ^ 64 - 1)) (sym (slice_get-get_or h c.args.place e.result c.requires))
