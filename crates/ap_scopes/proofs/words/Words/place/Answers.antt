use Rattle.std.proofs.Common.{◌≡◌, false, map, Some, sym, ap, ◌∙◌}
use Rattle.std.specs.List.{slice_get}
use Rattle.ap_scopes.specs.Marks.{word_mark, tells}
use Rattle.ap_scopes.proofs.MarkLemmas.{is_absent, read_there}
use Rattle.ap_scopes.proofs.words.Words.place.Goals as goal

pub returns-then-latest-eq0-clause-value : goal.returns-then-latest-eq0-clause-value
returns-then-latest-eq0-clause-value c =
    let latest = c.args.self.now.latest.items in
    let none : tells (slice_get latest (word_mark c.args.word.now)) ≡ false =
    ap tells (ap (slice_get latest) (sym c.mark.ensures.value) ∙ ap (λ ls. slice_get ls c.mark.result) (sym c.deref.ensures.value)
    ∙ read_there c.deref.result.now c.mark.result _ c.in-Some.ensures.lookup.0 c.in-Some.ensures.lookup.1 ∙ ap (λ n. Some n) c.if-latest-eq0.true) in
    sym (is_absent latest (map (λ k. k.now) c.args.self.now.words.keys) c.args.word.now c.args.self.now.marked none)
