use Rattle.std.proofs.Common.{rules, arith, ◌≡◌, ◌∙◌, ◌<◌, ◌++◌, ◌∷◌, [], true, false, sym, ap, subst, refl, vec_len, vec_capacity}
use Rattle.ap_paths.specs.declared.entries.Entry.TheVariants.{Split}
use Rattle.ap_paths.specs.History.{is_open, open_of}
use Rattle.ap_paths.specs.Entries.{entries_of}
use Rattle.ap_paths.specs.Weights.{weigh, is_it}
use Rattle.std.specs.Prelude.{IfOk}
use Rattle.ap_paths.specs.Trees.{Ascends}
use Rattle.ap_book.specs.Kept.{paths_of, AreKidsOf}
use Rattle.ap_book.proofs.Opening.{same_open}
use Rattle.ap_book.proofs.Keeping.{kept_split, kids_once, open_there}
use Rattle.ap_book.proofs.Tallying.{tallied_more}
use Rattle.ap_book.proofs.book.Book.enter_split.Goals as goal

pub returns-then-not-has : goal.returns-then-not-has
returns-then-not-has c = λ ks are.
    let b = c.self.inside in
    let p = c.args.path.now in (
      subst (λ l. is_open p (open_of (entries_of l)) ≡ false) c.self.view_is (open_there (entries_of b.history.items) (paths_of b.opened.keys) b.stopped p false c.self.invariant.0 (sym c.if-not-has.true ∙ c.has.ensures)),
      refl,
    )

pub returns-in_default : goal.returns-in_default
returns-in_default c = λ ks are.
    let b = c.self.inside in
    let p = c.args.path.now in (
      subst (λ l. is_open p (open_of (entries_of l)) ≡ true) c.self.view_is (open_there (entries_of b.history.items) (paths_of b.opened.keys) b.stopped p true c.self.invariant.0 (sym c.if-not-has.false ∙ c.has.ensures)),
      refl,
    )

pub returns-then-is_err : goal.returns-then-is_err
returns-then-is_err c = λ ks are.
    let b = c.self.inside in
    let p = c.args.path.now in (
      subst (λ l. is_open p (open_of (entries_of l)) ≡ true) c.self.view_is (open_there (entries_of b.history.items) (paths_of b.opened.keys) b.stopped p true c.self.invariant.0 (sym c.if-not-has.false ∙ c.has.ensures)),
      c.reserve.ensures.items ∙ c.self.view_is,
    )

pub returns-then-is_err-2 : goal.returns-then-is_err-2
returns-then-is_err-2 c = λ ks are.
    let b = c.self.inside in
    let p = c.args.path.now in (
      subst (λ l. is_open p (open_of (entries_of l)) ≡ true) c.self.view_is (open_there (entries_of b.history.items) (paths_of b.opened.keys) b.stopped p true c.self.invariant.0 (sym c.if-not-has.false ∙ c.has.ensures)),
      c.reserve.ensures.items ∙ c.self.view_is,
    )

pub replace-taken-requires-clause-there : goal.replace-taken-requires-clause-there
replace-taken-requires-clause-there c =
    let p = c.args.path.now in
    same_open p (paths_of c.make_room.new.opened.keys) (paths_of c.self.inside.opened.keys) c.make_room.ensures.same ∙ sym c.has.ensures ∙ c.if-not-has.false

pub replace-taken-requires-clause-once : goal.replace-taken-requires-clause-once
replace-taken-requires-clause-once c = λ q.
    let b = c.self.inside in
    let p = c.args.path.now in
    let kids = c.in-Ok.field-0 in
    let ready : AreKidsOf p kids.choices.items kids = subst (λ r. IfOk r (λ k. AreKidsOf p k.choices.items k)) c.in-Ok.is c.requires.ready in
    let ascending : Ascends 1 kids.choices.items = subst (λ r. IfOk r (λ k. Ascends 1 k.choices.items)) c.in-Ok.is c.requires.ascends in
    let once = kids_once (entries_of b.history.items) (paths_of b.opened.keys) b.stopped p kids.choices.items c.self.invariant.0 (sym c.has.ensures ∙ c.if-not-has.false) ascending q in
    let same = c.make_room.ensures.same (is_it q) in
    let m = ap (weigh (is_it q)) ready.1 in
    omega arith

pub invariant_of-self-2 : goal.invariant_of-self-2
invariant_of-self-2 c =
    let b = c.self.inside in
    let p = c.args.path.now in
    let kids = c.in-Ok.field-0 in
    let ready : AreKidsOf p kids.choices.items kids = subst (λ r. IfOk r (λ k. AreKidsOf p k.choices.items k)) c.in-Ok.is c.requires.ready in
    let ascending : Ascends 1 kids.choices.items = subst (λ r. IfOk r (λ k. Ascends 1 k.choices.items)) c.in-Ok.is c.requires.ascends in
    let is : c.push_reserved.new.self.items ≡ b.history.items ++ Split c.args.seat p kids.choices.items ∷ [] = search rules in
    let room : vec_len c.push_reserved.new.self < vec_capacity c.push_reserved.new.self = search rules in (
      kept_split b.history.items c.push_reserved.new.self.items c.args.seat p kids.choices.items (paths_of b.opened.keys) (paths_of c.replace-taken.new.opened.keys) b.stopped c.self.invariant.0 is (sym c.has.ensures ∙ c.if-not-has.false) ascending
          (λ h. let r = c.replace-taken.ensures.replaced h in let same = c.make_room.ensures.same h in let m = ap (weigh h) ready.1 in omega arith),
      (λ _. room),
      tallied_more b.history.items c.push_reserved.new.self.items (Split c.args.seat p kids.choices.items) b.answered.places.items b.answered.seen is c.self.invariant.2,
    )

pub returns : goal.returns
returns c = λ ks are.
    let b = c.self.inside in
    let p = c.args.path.now in
    let kids = c.in-Ok.field-0 in
    let these : kids.choices.items ≡ ks = subst (λ r. IfOk r (λ k. k.choices.items ≡ ks)) c.in-Ok.is are in
    let is : c.push_reserved.new.self.items ≡ b.history.items ++ Split c.args.seat p kids.choices.items ∷ [] = search rules in (
      subst (λ l. is_open p (open_of (entries_of l)) ≡ true) c.self.view_is (open_there (entries_of b.history.items) (paths_of b.opened.keys) b.stopped p true c.self.invariant.0 (sym c.if-not-has.false ∙ c.has.ensures)),
      is ∙ ap (λ l. l ++ Split c.args.seat p kids.choices.items ∷ []) c.self.view_is ∙ ap (λ l. c.args.self.now ++ Split c.args.seat p l ∷ []) these,
    )
