use Rattle.std.proofs.Common.{◌≡◌, ◌++◌, [], ◌∷◌, List, ap, ap₂, sym, subst, ◌∙◌}
use Rattle.ap_perm.specs.Lookups.{IsRanked}
use Rattle.ap_store.specs.Changes.{Added, Change, empty}
use Rattle.ap_store.specs.Likes.{AreLikes, like_in}
use Rattle.ap_store.specs.Marks.{AreGroundMarks, ground_in}
use Rattle.ap_store.specs.Slots.{AreHeld, IsStored, changes_in}
use Rattle.ap_store.specs.Trails.{no_rank, nothing_bound, rank_after, raw_after}
use Rattle.ap_store.specs.Views.{changes, versions}
use Rattle.ap_store.specs.declared.changes.Entry.{Entry}
use Rattle.ap_store.specs.declared.changes.Entry.TheVariants as entries
use Rattle.ap_store.specs.declared.changes.Noted.{Noted}
use Rattle.ap_store.specs.declared.changes.Noted.TheVariants as notes
use Rattle.ap_store.proofs.HeldLemmas.{held_added, held_kept}
use Rattle.ap_store.proofs.LikeLemmas.{likes_noted}
use Rattle.ap_store.proofs.MarkLemmas.{marked_noted}
use Rattle.ap_store.proofs.SoundLemmas.{ranked_after}
use Rattle.ap_store.proofs.StoredLemmas.{noted_changes, stored_added}
use Rattle.ap_store.proofs.TrailLemmas.{goes_on_one, present_new, versions_after, versions_new}
use Rattle.ap_store.proofs.store.Store.add_one.Goals as goal

pub invariant_of-self-in-Break-branch-3 : goal.invariant_of-self-in-Break-branch-3
invariant_of-self-in-Break-branch-3 c =
    let s = c.args.self.now in
    let es = c.reserve.new.self.items in
    let ns = c.reserve-2.new.self.items in
    let e : s.trail.items ≡ es = sym c.reserve.ensures.items in
    let f : s.noted.items ≡ ns = sym c.reserve-2.ensures.items in
    let g : changes s ≡ changes_in s.table.items es ns = ap₂ (changes_in s.table.items) e f in
    record {
      stored = subst (λ (ms : List Noted). IsStored s.table.items es ms s.reach) f (subst (λ (fs : List Entry). IsStored s.table.items fs s.noted.items s.reach) e s.stored);
      holds = held_kept s.held.items c.hold.new.held.items (changes_in s.table.items es ns) (subst (AreHeld s.held.items) g s.holds) c.hold.ensures.length c.in_err-hold.ensures.unchanged;
      marked = subst (λ (cs : List Change). AreGroundMarks (ground_in s.table.items) cs empty) g s.marked;
      likened = subst (λ (cs : List Change). AreLikes (like_in s.likes.items) cs empty) g s.likened;
      mentioned = s.mentioned;
      ranked = subst (λ (cs : List Change). IsRanked (raw_after cs nothing_bound) (rank_after cs empty no_rank)) g s.ranked;
    }

pub invariant_of-self-2 : goal.invariant_of-self-2
invariant_of-self-2 c =
    let s = c.args.self.now in
    let d = c.args.c in
    let ts = c.push_reserved-2.new.self.items in
    let ms = c.push_reserved.new.self.items in
    let e : ts ≡ s.trail.items ++ entries.Noted ∷ [] = c.push_reserved-2.ensures.items ∙ ap (λ (es : List Entry). es ++ entries.Noted ∷ []) c.reserve.ensures.items in
    let f : ms ≡ s.noted.items ++ notes.Added d ∷ [] = c.push_reserved.ensures.items ∙ ap (λ (ns : List Noted). ns ++ notes.Added d ∷ []) c.reserve-2.ensures.items in
    let g = noted_changes s.table.items s.trail.items ts s.noted.items ms (notes.Added d) s.stored.5 e f in
    let kept = stored_added s.table.items s.trail.items ts s.noted.items ms s.reach d s.stored c.requires e f in
    let held = held_added s.held.items c.hold.new.held.items (changes s) (changes_in s.table.items ts ms) d s.holds c.hold.ensures.length c.in_ok-hold.ensures.held g in
    record { stored = kept; holds = held; marked = marked_noted s.table.items s.table.items (changes s) (changes_in s.table.items ts ms) s.marked (notes.Added d) g; likened = likes_noted (like_in s.likes.items) (changes s) (changes_in s.table.items ts ms) s.likened (notes.Added d) g; mentioned = s.mentioned; ranked = ranked_after (changes_in s.table.items ts ms) kept.0 }

pub returns-clause-present : goal.returns-clause-present
returns-clause-present c =
    let s = c.args.self.now in
    let d = c.args.c in
    let ts = c.push_reserved-2.new.self.items in
    let ms = c.push_reserved.new.self.items in
    let e : ts ≡ s.trail.items ++ entries.Noted ∷ [] = c.push_reserved-2.ensures.items ∙ ap (λ (es : List Entry). es ++ entries.Noted ∷ []) c.reserve.ensures.items in
    let f : ms ≡ s.noted.items ++ notes.Added d ∷ [] = c.push_reserved.ensures.items ∙ ap (λ (ns : List Noted). ns ++ notes.Added d ∷ []) c.reserve-2.ensures.items in
    present_new (changes s) (changes_in s.table.items ts ms) (Added d) empty (noted_changes s.table.items s.trail.items ts s.noted.items ms (notes.Added d) s.stored.5 e f)

pub returns-clause-past : goal.returns-clause-past
returns-clause-past c =
    let s = c.args.self.now in
    let d = c.args.c in
    let ts = c.push_reserved-2.new.self.items in
    let ms = c.push_reserved.new.self.items in
    let e : ts ≡ s.trail.items ++ entries.Noted ∷ [] = c.push_reserved-2.ensures.items ∙ ap (λ (es : List Entry). es ++ entries.Noted ∷ []) c.reserve.ensures.items in
    let f : ms ≡ s.noted.items ++ notes.Added d ∷ [] = c.push_reserved.ensures.items ∙ ap (λ (ns : List Noted). ns ++ notes.Added d ∷ []) c.reserve-2.ensures.items in
    goes_on_one (versions s) (versions_after (changes_in s.table.items ts ms) empty) _
    (versions_new (changes s) (changes_in s.table.items ts ms) (Added d) empty (noted_changes s.table.items s.trail.items ts s.noted.items ms (notes.Added d) s.stored.5 e f))
