use Rattle.std.proofs.Common.{rules, ◌≡◌, ◌∙◌, ◌<◌, ◌++◌, ◌∷◌, [], true, false, sym, ap, subst, refl, vec_len, vec_capacity}
use Rattle.ap_paths.specs.declared.entries.Entry.TheVariants.{Done}
use Rattle.ap_paths.specs.History.{is_open, open_of}
use Rattle.ap_paths.specs.Entries.{entries_of}
use Rattle.ap_book.specs.Kept.{paths_of}
use Rattle.ap_book.proofs.Keeping.{kept_done, open_there}
use Rattle.ap_book.proofs.Tallying.{tallied_more}
use Rattle.ap_book.proofs.book.Book.done.Goals as goal

pub returns-then-not-has : goal.returns-then-not-has
returns-then-not-has c =
    let b = c.self.inside in
    let p = c.args.path.now in (
      subst (λ l. is_open p (open_of (entries_of l)) ≡ false) c.self.view_is (open_there (entries_of b.history.items) (paths_of b.opened.keys) b.stopped p false c.self.invariant.0 (sym c.if-not-has.true ∙ c.has.ensures)),
      c.of-outs.ensures,
      refl,
    )

pub returns-then-is_err : goal.returns-then-is_err
returns-then-is_err c =
    let b = c.self.inside in
    let p = c.args.path.now in (
      subst (λ l. is_open p (open_of (entries_of l)) ≡ true) c.self.view_is (open_there (entries_of b.history.items) (paths_of b.opened.keys) b.stopped p true c.self.invariant.0 (sym c.if-not-has.false ∙ c.has.ensures)),
      c.of-outs.ensures,
      c.reserve.ensures.items ∙ c.self.view_is,
    )

pub invariant_of-self-2 : goal.invariant_of-self-2
invariant_of-self-2 c =
    let b = c.self.inside in
    let p = c.args.path.now in
    let is : c.push_reserved.new.self.items ≡ b.history.items ++ Done c.args.seat p c.args.outs.items ∷ [] = search rules in
    let room : vec_len c.push_reserved.new.self < vec_capacity c.push_reserved.new.self = search rules in
    (kept_done b.history.items c.push_reserved.new.self.items c.args.seat p c.args.outs.items (paths_of b.opened.keys) (paths_of c.take_out-taken.new.opened.keys) b.stopped c.self.invariant.0 is (sym c.has.ensures ∙ c.if-not-has.false) c.take_out-taken.ensures.taken, (λ _. room), tallied_more b.history.items c.push_reserved.new.self.items (Done c.args.seat p c.args.outs.items) b.answered.places.items b.answered.seen is c.self.invariant.2)

pub returns : goal.returns
returns c =
    let b = c.self.inside in
    let p = c.args.path.now in
    let is : c.push_reserved.new.self.items ≡ b.history.items ++ Done c.args.seat p c.args.outs.items ∷ [] = search rules in (
      subst (λ l. is_open p (open_of (entries_of l)) ≡ true) c.self.view_is (open_there (entries_of b.history.items) (paths_of b.opened.keys) b.stopped p true c.self.invariant.0 (sym c.if-not-has.false ∙ c.has.ensures)),
      is ∙ ap (λ l. l ++ Done c.args.seat p c.args.outs.items ∷ []) c.self.view_is,
    )
