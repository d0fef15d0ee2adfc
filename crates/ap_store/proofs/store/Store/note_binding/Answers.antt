use Rattle.std.proofs.Common.{◌≡◌, ◌≤◌, ◌==◌, ap, ◌∙◌, arith}
use Rattle.std.specs.Prelude.{Some, if◌then◌else◌}
use Rattle.ap_store.specs.Changes.{Bound, empty}
use Rattle.ap_store.specs.Likes.{like_in}
use Rattle.ap_store.specs.Marks.{is_ground_value}
use Rattle.ap_store.specs.Slots.{AreKeptBelow, bound_in, changes_in, kept_term}
use Rattle.ap_store.specs.Views.{bindings_of, changes}
use Rattle.ap_store.proofs.HeldLemmas.{held_bound}
use Rattle.ap_store.proofs.LikeLemmas.{here_alike, likes_bound}
use Rattle.ap_store.proofs.MarkLemmas.{marked_bound}
use Rattle.ap_store.proofs.MentionLemmas.{mentioned_put}
use Rattle.ap_store.proofs.ReachLemmas.{all_kept_rises, kept_rises}
use Rattle.ap_store.proofs.SoundLemmas.{ranked_after}
use Rattle.ap_store.proofs.StoredLemmas.{bound_changes, stored_bound, unbound_raw}
use Rattle.ap_store.proofs.TrailLemmas.{present_new, versions_new}
use Rattle.ap_store.proofs.store.Store.note_binding.Goals as goal

pub invariant_of-self : goal.invariant_of-self
invariant_of-self c =
    let s = c.args.self.now in
    let x = c.args.x in
    let t = kept_term c.args.value in
    let us = c.put_value.new.table.items in
    let ts = c.push_reserved.new.self.items in
    let q = c.max-self.result in
    let f : (j : _) → bound_in us j ≡ (if j == x.num then Some t else bound_in s.table.items j) = λ j. c.put_value.ensures.bound j ∙ ap (λ o. if j == x.num then o else bound_in s.table.items j) c.requires.bound in
    let low : s.reach ≤ q = omega (arith, c.max-self.ensures) in
    let high : c.args.end ≤ q = omega (arith, c.max-self.ensures) in
    let k : AreKeptBelow q us = c.put_value.ensures.below q (kept_rises c.args.end q high c.args.value c.requires.within) (all_kept_rises s.reach q low s.table.items s.stored.4) in
    let kept = stored_bound s.table.items us s.trail.items ts s.noted.items s.reach q x t s.stored (c.requires.made, c.requires.unbound, c.requires.term, c.requires.absent, c.requires.apart) c.put_value.ensures.length f k c.push_reserved.ensures.items in
    let g = bound_changes s.table.items us s.trail.items ts s.noted.items s.reach x t s.stored c.requires.unbound f c.push_reserved.ensures.items in
    let marks = marked_bound s.table.items us (changes s) (changes_in us ts s.noted.items) s.marked x t (is_ground_value c.args.value) (unbound_raw (changes s) x s.stored.0 c.requires.unbound) g c.put_value.ensures.marks c.requires.mark in
    let likes = likes_bound (like_in s.likes.items) (changes s) (changes_in us ts s.noted.items) s.likened (like_in c.keep_like.new.likes.items) x t (unbound_raw (changes s) x s.stored.0 c.requires.unbound) g c.keep_like.ensures.others
    (here_alike (bindings_of s) t _ c.args.like c.keep_like.ensures.here c.requires.like) in
    let mentions = mentioned_put s.mentions s.table.items us s.mentioned x.num (Some t) (is_ground_value c.args.value) f c.put_value.ensures.marks c.requires.mentioned in
    record { stored = kept; holds = held_bound s.held.items (changes s) (changes_in us ts s.noted.items) x t s.holds g; marked = marks; likened = likes; mentioned = mentions; ranked = ranked_after (changes_in us ts s.noted.items) kept.0 }

pub returns-clause-present : goal.returns-clause-present
returns-clause-present c =
    let s = c.args.self.now in
    let x = c.args.x in
    let t = kept_term c.args.value in
    let us = c.put_value.new.table.items in
    let ts = c.push_reserved.new.self.items in
    let f : (j : _) → bound_in us j ≡ (if j == x.num then Some t else bound_in s.table.items j) = λ j. c.put_value.ensures.bound j ∙ ap (λ o. if j == x.num then o else bound_in s.table.items j) c.requires.bound in
    present_new (changes s) (changes_in us ts s.noted.items) (Bound x t) empty (bound_changes s.table.items us s.trail.items ts s.noted.items s.reach x t s.stored c.requires.unbound f c.push_reserved.ensures.items)

pub returns-clause-versions : goal.returns-clause-versions
returns-clause-versions c =
    let s = c.args.self.now in
    let x = c.args.x in
    let t = kept_term c.args.value in
    let us = c.put_value.new.table.items in
    let ts = c.push_reserved.new.self.items in
    let f : (j : _) → bound_in us j ≡ (if j == x.num then Some t else bound_in s.table.items j) = λ j. c.put_value.ensures.bound j ∙ ap (λ o. if j == x.num then o else bound_in s.table.items j) c.requires.bound in
    versions_new (changes s) (changes_in us ts s.noted.items) (Bound x t) empty (bound_changes s.table.items us s.trail.items ts s.noted.items s.reach x t s.stored c.requires.unbound f c.push_reserved.ensures.items)
