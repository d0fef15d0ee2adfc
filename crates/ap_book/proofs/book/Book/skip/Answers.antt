use Rattle.std.proofs.Common.{rules, arith, ◌≡◌, ◌∙◌, ◌<◌, ◌≤◌, ◌-◌, ◌^◌, min, ◌++◌, ◌∷◌, [], true, false, sym, ap, subst, refl, vec_len, vec_capacity, List}
use Rattle.ap_paths.specs.declared.entries.Entry.{Entry}
use Rattle.ap_paths.specs.declared.entries.Entry.TheVariants.{Skip}
use Rattle.ap_paths.specs.History.{is_open, open_of, answers_before}
use Rattle.ap_paths.specs.Entries.{entries_of}
use Rattle.ap_book.specs.Counts.{IsTallied}
use Rattle.ap_book.specs.Kept.{paths_of}
use Rattle.ap_book.specs.Answers.{HasEnough}
use Rattle.ap_book.proofs.Keeping.{kept_skip, open_there}
use Rattle.ap_book.proofs.Tallying.{tallied_more}
use Rattle.ap_book.proofs.book.Book.skip.Goals as goal

pub returns-then-not-has : goal.returns-then-not-has
returns-then-not-has c =
    let b = c.self.inside in
    let p = c.args.path.now in (
      subst (λ (l : List Entry). is_open p (open_of (entries_of l)) ≡ false) c.self.view_is (open_there (entries_of b.history.items) (paths_of b.opened.keys) b.stopped p false c.self.invariant.0 (sym c.if-not-has.true ∙ c.has.ensures)),
      refl,
    )

pub returns-in_default : goal.returns-in_default
returns-in_default c =
    let b = c.self.inside in
    let p = c.args.path.now in
    let h = b.history.items in
    let found : c.before-found.result ≡ min (answers_before p (entries_of h)) (2 ^ 64 - 1) = search rules in (
      (
        subst (λ (l : List Entry). is_open p (open_of (entries_of l)) ≡ true) c.self.view_is (open_there (entries_of h) (paths_of b.opened.keys) b.stopped p true c.self.invariant.0 (sym c.if-not-has.false ∙ c.has.ensures)),
        subst (λ (l : List Entry). c.before-found.result ≡ min (answers_before p (entries_of l)) (2 ^ 64 - 1)) c.self.view_is found,
        c.in_default.ensures,
      ),
      c.self.view_is,
    )

pub returns-then-is_err : goal.returns-then-is_err
returns-then-is_err c =
    let b = c.self.inside in
    let p = c.args.path.now in
    let h = b.history.items in
    let w = c.in-Some.wanted in
    let found : c.before-found.result ≡ min (answers_before p (entries_of h)) (2 ^ 64 - 1) = search rules in
    let enough : w ≤ answers_before p (entries_of h) = (let z = c.in-Some.ensures.1 in omega arith) in (
      (
        subst (λ (l : List Entry). is_open p (open_of (entries_of l)) ≡ true) c.self.view_is (open_there (entries_of h) (paths_of b.opened.keys) b.stopped p true c.self.invariant.0 (sym c.if-not-has.false ∙ c.has.ensures)),
        (w, subst (λ (l : List Entry). HasEnough l p c.args.limit w) c.self.view_is (c.in-Some.ensures.0, enough)),
      ),
      c.reserve.ensures.items ∙ c.self.view_is,
    )

pub invariant_of-self-2 : goal.invariant_of-self-2
invariant_of-self-2 c =
    let b = c.self.inside in
    let p = c.args.path.now in
    let h = b.history.items in
    let w = c.in-Some.wanted in
    let found : c.before-found.result ≡ min (answers_before p (entries_of h)) (2 ^ 64 - 1) = search rules in
    let enough : w ≤ answers_before p (entries_of h) = (let z = c.in-Some.ensures.1 in omega arith) in
    let is : c.push_reserved.new.self.items ≡ h ++ Skip c.args.seat p w ∷ [] = search rules in
    let room : vec_len c.push_reserved.new.self < vec_capacity c.push_reserved.new.self = search rules in
    (kept_skip h c.push_reserved.new.self.items c.args.seat p w (paths_of b.opened.keys) (paths_of c.take_out-taken.new.opened.keys) b.stopped c.self.invariant.0 is (sym c.has.ensures ∙ c.if-not-has.false) enough c.take_out-taken.ensures.taken, (λ _. room), tallied_more h c.push_reserved.new.self.items (Skip c.args.seat p w) c.look.new.self.places.items c.look.new.self.seen is (subst (λ (l : List Entry). IsTallied l c.look.new.self.places.items c.look.new.self.seen) c.as_slice.ensures.value c.look.ensures))

pub returns : goal.returns
returns c =
    let b = c.self.inside in
    let p = c.args.path.now in
    let h = b.history.items in
    let w = c.in-Some.wanted in
    let found : c.before-found.result ≡ min (answers_before p (entries_of h)) (2 ^ 64 - 1) = search rules in
    let enough : w ≤ answers_before p (entries_of h) = (let z = c.in-Some.ensures.1 in omega arith) in
    let is : c.push_reserved.new.self.items ≡ h ++ Skip c.args.seat p w ∷ [] = search rules in (
      subst (λ (l : List Entry). is_open p (open_of (entries_of l)) ≡ true) c.self.view_is (open_there (entries_of h) (paths_of b.opened.keys) b.stopped p true c.self.invariant.0 (sym c.if-not-has.false ∙ c.has.ensures)),
      (
        w,
        subst (λ (l : List Entry). HasEnough l p c.args.limit w) c.self.view_is (c.in-Some.ensures.0, enough),
        is ∙ ap (λ l. l ++ Skip c.args.seat p w ∷ []) c.self.view_is,
      ),
    )
