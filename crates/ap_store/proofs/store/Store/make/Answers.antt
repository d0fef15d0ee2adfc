use Rattle.std.proofs.Common.{◌≡◌, ◌<◌, ◌+◌, ◌^◌, ◌++◌, [], ◌∷◌, List, length, ap, subst, sym, ◌∙◌, arith}
use Rattle.ap_store.specs.Changes.{Made, empty}
use Rattle.ap_store.specs.Likes.{like_in}
use Rattle.ap_store.specs.Marks.{ground_in}
use Rattle.ap_store.specs.Slots.{AreKeptBelow, bound_in, changes_in}
use Rattle.ap_store.specs.Views.{changes, versions}
use Rattle.ap_store.specs.declared.changes.Entry.{Entry}
use Rattle.ap_store.specs.declared.changes.Entry.TheVariants as entries
use Rattle.ap_store.specs.declared.slots.Slot.{Slot}
use Rattle.ap_store.proofs.HeldLemmas.{held_made}
use Rattle.ap_store.proofs.LikeLemmas.{likes_made}
use Rattle.ap_store.proofs.MarkLemmas.{marked_made}
use Rattle.ap_store.proofs.MentionLemmas.{mentioned_same}
use Rattle.ap_store.proofs.SoundLemmas.{ranked_after}
use Rattle.ap_store.proofs.StoredLemmas.{made_changes, stored_made}
use Rattle.ap_store.proofs.TrailLemmas.{goes_on_one, present_new, versions_after, versions_new}
use Rattle.ap_store.proofs.store.Store.make.Goals as goal

pub invariant_of-self-2 : goal.invariant_of-self-2
invariant_of-self-2 c =
    let s = c.args.self.now in
    let n = length c.args.locals.now in
    let us = c.add_slots.new.table.items in
    let ts = c.push_reserved.new.self.items in
    let l : length us ≡ length s.table.items + n = omega (arith, c.add_slots.ensures.length, ap length c.reserve.ensures.items) in
    let e : ts ≡ s.trail.items ++ entries.Made n ∷ [] = c.push_reserved.ensures.items ∙ ap (λ (es : List Entry). es ++ entries.Made n ∷ []) c.reserve-2.ensures.items in
    let f : (i : _) → bound_in us i ≡ bound_in s.table.items i = λ i. c.add_slots.ensures.bound i ∙ ap (λ (ss : List Slot). bound_in ss i) c.reserve.ensures.items in
    let marks : (i : _) → ground_in us i ≡ ground_in s.table.items i = λ i. c.add_slots.ensures.marks i ∙ ap (λ (ss : List Slot). ground_in ss i) c.reserve.ensures.items in
    let k : AreKeptBelow s.reach us = c.add_slots.ensures.below s.reach (subst (λ (ss : List Slot). AreKeptBelow s.reach ss) (sym c.reserve.ensures.items) s.stored.4) in
    let m : length us < 2 ^ 32 = omega (arith, l, c.len-first.ensures) in
    let kept = stored_made s.table.items us s.trail.items ts s.noted.items s.reach n s.stored l f k m e in
    let g = made_changes s.table.items us s.trail.items ts s.noted.items n f e in
    record { stored = kept; holds = held_made s.held.items (changes s) (changes_in us ts s.noted.items) n s.holds g; marked = marked_made s.table.items us (changes s) (changes_in us ts s.noted.items) s.marked n g marks; likened = likes_made (like_in s.likes.items) (changes s) (changes_in us ts s.noted.items) s.likened n g; mentioned = mentioned_same s.mentions s.table.items us s.mentioned f marks; ranked = ranked_after (changes_in us ts s.noted.items) kept.0 }

pub returns-clause-present : goal.returns-clause-present
returns-clause-present c =
    let s = c.args.self.now in
    let n = length c.args.locals.now in
    let us = c.add_slots.new.table.items in
    let ts = c.push_reserved.new.self.items in
    let e : ts ≡ s.trail.items ++ entries.Made n ∷ [] = c.push_reserved.ensures.items ∙ ap (λ (es : List Entry). es ++ entries.Made n ∷ []) c.reserve-2.ensures.items in
    let f : (i : _) → bound_in us i ≡ bound_in s.table.items i = λ i. c.add_slots.ensures.bound i ∙ ap (λ (ss : List Slot). bound_in ss i) c.reserve.ensures.items in
    present_new (changes s) (changes_in us ts s.noted.items) (Made n) empty (made_changes s.table.items us s.trail.items ts s.noted.items n f e)

pub returns-clause-past : goal.returns-clause-past
returns-clause-past c =
    let s = c.args.self.now in
    let n = length c.args.locals.now in
    let us = c.add_slots.new.table.items in
    let ts = c.push_reserved.new.self.items in
    let e : ts ≡ s.trail.items ++ entries.Made n ∷ [] = c.push_reserved.ensures.items ∙ ap (λ (es : List Entry). es ++ entries.Made n ∷ []) c.reserve-2.ensures.items in
    let f : (i : _) → bound_in us i ≡ bound_in s.table.items i = λ i. c.add_slots.ensures.bound i ∙ ap (λ (ss : List Slot). bound_in ss i) c.reserve.ensures.items in
    goes_on_one (versions s) (versions_after (changes_in us ts s.noted.items) empty) _
    (versions_new (changes s) (changes_in us ts s.noted.items) (Made n) empty (made_changes s.table.items us s.trail.items ts s.noted.items n f e))
