use Rattle.std.proofs.Common.{◌≡◌, ◌∙◌, ap, sym, [], ◌∷◌, ◌++◌, rules}
use Rattle.ap_paths.specs.declared.entries.Entry.{Entry}
use Rattle.ap_paths.specs.Entries.{entry_of}
use Rattle.ap_book.specs.Counts.{adds}
use Rattle.ap_book.proofs.Tallying.{tallied_none, tallied_found}
use Rattle.ap_book.proofs.counting.Answered.look_next.Goals as goal

pub returns-then-not-has_answers-clause-tallied : goal.returns-then-not-has_answers-clause-tallied
returns-then-not-has_answers-clause-tallied c =
    let e = c.index-history-place in
    tallied_none c.args.history.now c.args.self.now.places.items c.args.self.now.seen e.result c.requires.more
    (λ p. ap (λ (x : Entry). adds p (entry_of x)) (sym e.is) ∙ c.has_answers.ensures c.if-not-has_answers.true p) c.requires.tallied

pub returns-clause-tallied : goal.returns-clause-tallied
returns-clause-tallied c =
    let e = c.index-history-place in
    let grown : c.push.new.self.items ≡ c.args.self.now.places.items ++ c.args.self.now.seen ∷ [] = search rules in
    tallied_found c.args.history.now c.args.self.now.places.items c.push.new.self.items c.args.self.now.seen e.result c.requires.more grown c.requires.tallied
