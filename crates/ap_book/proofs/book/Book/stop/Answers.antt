use Rattle.std.proofs.Common.{◌≡◌, false, true≢false, rules, subst, Bool}
use Rattle.ap_paths.specs.Entries.{entries_of}
use Rattle.ap_book.specs.Kept.{paths_of, IsBookKept}
use Rattle.ap_book.proofs.Keeping.{kept_stop}
use Rattle.ap_book.proofs.Tallying.{tallied_more}
use Rattle.ap_paths.specs.declared.entries.Entry.TheVariants.{Stop}
use Rattle.ap_book.proofs.book.Book.stop.Goals as goal

pub invariant_of-self : goal.invariant_of-self
invariant_of-self c =
    let b = c.self.inside in
    let running : b.stopped ≡ false = search rules in
    let kept = subst (λ (s : Bool). IsBookKept (entries_of b.history.items) (paths_of b.opened.keys) s) running c.self.invariant.0 in
    (kept_stop b.history.items c.push_reserved.new.self.items c.args.seat (paths_of b.opened.keys) kept c.push_reserved.ensures.items, (λ h. absurd (true≢false h)), tallied_more b.history.items c.push_reserved.new.self.items (Stop c.args.seat) b.answered.places.items b.answered.seen c.push_reserved.ensures.items c.self.invariant.2)
