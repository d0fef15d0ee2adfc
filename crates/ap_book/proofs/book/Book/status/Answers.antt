use Rattle.std.proofs.Common.{◌≡◌, ◌∙◌, ◌<◌, sym, ap, subst, rules, length, Bool}
use Rattle.ap_paths.specs.Entries.{entries_of}
use Rattle.ap_paths.specs.History.{progress_of}
use Rattle.ap_book.specs.Kept.{paths_of, IsBookKept}
use Rattle.ap_book.proofs.Opening.{length-paths_of}
use Rattle.ap_book.proofs.Keeping.{finished, left_over}
use Rattle.ap_book.proofs.book.Book.status.Goals as goal

pub returns-then-is_empty-clause-value : goal.returns-then-is_empty-clause-value
returns-then-is_empty-clause-value c =
    let b = c.self.inside in
    let kept = subst (λ (s : Bool). IsBookKept (entries_of b.history.items) (paths_of b.opened.keys) s) c.if-self.false c.self.invariant.0 in
    let none : length b.opened.keys ≡ 0 = search rules in
    sym (finished (entries_of b.history.items) (paths_of b.opened.keys) kept (length-paths_of b.opened.keys ∙ none)) ∙ ap (λ l. progress_of (entries_of l)) c.self.view_is

pub returns-else-is_empty-clause-value : goal.returns-else-is_empty-clause-value
returns-else-is_empty-clause-value c =
    let b = c.self.inside in
    let kept = subst (λ (s : Bool). IsBookKept (entries_of b.history.items) (paths_of b.opened.keys) s) c.if-self.false c.self.invariant.0 in
    let some : 0 < c.len.result = search rules in
    sym (left_over (entries_of b.history.items) (paths_of b.opened.keys) c.len.result kept (length-paths_of b.opened.keys ∙ sym c.len.ensures.len) some) ∙ ap (λ l. progress_of (entries_of l)) c.self.view_is
