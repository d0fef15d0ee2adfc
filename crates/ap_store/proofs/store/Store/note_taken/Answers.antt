use Rattle.std.proofs.Common.{◌∙◌}
use Rattle.ap_store.specs.Likes.{like_in}
use Rattle.ap_store.specs.Changes.{Taken, empty}
use Rattle.ap_store.specs.Slots.{changes_in}
use Rattle.ap_store.specs.Views.{changes}
use Rattle.ap_store.specs.declared.changes.Noted.TheVariants as notes
use Rattle.ap_store.proofs.HeldLemmas.{held_taken}
use Rattle.ap_store.proofs.LikeLemmas.{likes_noted}
use Rattle.ap_store.proofs.MarkLemmas.{marked_noted}
use Rattle.ap_store.proofs.SoundLemmas.{ranked_after}
use Rattle.ap_store.proofs.StoredLemmas.{noted_changes, stored_taken}
use Rattle.ap_store.proofs.TrailLemmas.{present_new, versions_new}
use Rattle.ap_store.proofs.store.Store.note_taken.Goals as goal

pub take_out-conds-requires : goal.take_out-conds-requires
take_out-conds-requires c = c.requires.held

pub invariant_of-self : goal.invariant_of-self
invariant_of-self c =
    let s = c.args.self.now in
    let cs = c.take_out-conds.result in
    let ts = c.push_reserved-2.new.self.items in
    let ms = c.push_reserved.new.self.items in
    let kept = stored_taken s.table.items s.trail.items ts s.noted.items ms s.reach c.args.x cs s.stored c.requires.made (c.take_out-conds.ensures.taken ∙ s.holds.1 c.args.x.num) c.push_reserved-2.ensures.items c.push_reserved.ensures.items in
    let g = noted_changes s.table.items s.trail.items ts s.noted.items ms (notes.Taken c.args.x cs) s.stored.5 c.push_reserved-2.ensures.items c.push_reserved.ensures.items in
    let held = held_taken s.held.items c.take_out-conds.new.held.items (changes s) (changes_in s.table.items ts ms) c.args.x cs.items s.holds c.requires.held c.take_out-conds.ensures.length c.take_out-conds.ensures.held g in
    record { stored = kept; holds = held; marked = marked_noted s.table.items s.table.items (changes s) (changes_in s.table.items ts ms) s.marked (notes.Taken c.args.x cs) g; likened = likes_noted (like_in s.likes.items) (changes s) (changes_in s.table.items ts ms) s.likened (notes.Taken c.args.x cs) g; mentioned = s.mentioned; ranked = ranked_after (changes_in s.table.items ts ms) kept.0 }

pub returns-clause-present : goal.returns-clause-present
returns-clause-present c =
    let s = c.args.self.now in
    let cs = c.take_out-conds.result in
    let ts = c.push_reserved-2.new.self.items in
    let ms = c.push_reserved.new.self.items in
    present_new (changes s) (changes_in s.table.items ts ms) (Taken c.args.x cs.items) empty
    (noted_changes s.table.items s.trail.items ts s.noted.items ms (notes.Taken c.args.x cs) s.stored.5 c.push_reserved-2.ensures.items c.push_reserved.ensures.items)

pub returns-clause-versions : goal.returns-clause-versions
returns-clause-versions c =
    let s = c.args.self.now in
    let cs = c.take_out-conds.result in
    let ts = c.push_reserved-2.new.self.items in
    let ms = c.push_reserved.new.self.items in
    versions_new (changes s) (changes_in s.table.items ts ms) (Taken c.args.x cs.items) empty
    (noted_changes s.table.items s.trail.items ts s.noted.items ms (notes.Taken c.args.x cs) s.stored.5 c.push_reserved-2.ensures.items c.push_reserved.ensures.items)
