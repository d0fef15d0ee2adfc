use Rattle.std.proofs.Common.{◌≡◌, ◌≤◌, ◌-◌, ◌++◌, [], ◌∷◌, List, length, take, min, refl, ap, sym, subst, ◌∙◌, arith}
use Rattle.std.specs.Prelude.{None, false}
use Rattle.ap_store.specs.Changes.{Made, empty, present_after}
use Rattle.ap_store.specs.Likes.{like_in}
use Rattle.ap_store.specs.Marks.{ground_in}
use Rattle.ap_store.specs.Mentions.{IsMentioned}
use Rattle.ap_store.specs.Slots.{IsStored, changes_in}
use Rattle.ap_store.specs.Views.{changes}
use Rattle.ap_store.specs.declared.changes.Entry.{Entry}
use Rattle.ap_store.specs.declared.changes.Entry.TheVariants as entries
use Rattle.ap_store.specs.declared.changes.Noted.{Noted}
use Rattle.ap_store.specs.declared.changes.Noted.TheVariants as notes
use Rattle.ap_store.specs.declared.slots.Slot.{Slot}
use Rattle.ap_store.proofs.HeldLemmas.{added_fits, taken_fits, taken_link, unheld_added, unheld_bound, unheld_made, unheld_taken}
use Rattle.ap_store.proofs.LikeLemmas.{likes_before}
use Rattle.ap_store.proofs.MarkLemmas.{mark_off, marked_before}
use Rattle.ap_store.proofs.MentionLemmas.{mentioned_put, mentioned_take, no_var}
use Rattle.ap_store.proofs.SoundLemmas.{ranked_after}
use Rattle.ap_store.proofs.StoredLemmas.{bound_fits, kinds_kept, kinds_left, some_noted, undone_bound, undone_made, undone_noted}
use Rattle.ap_store.proofs.TableLemmas.{mark_in_take}
use Rattle.ap_store.proofs.TrailLemmas.{next_last, versions_last}
use Rattle.ap_store.proofs.store.Store.undo_last.Goals as goal

pub overflow_sub-left : goal.overflow_sub-left
overflow_sub-left c =
    let s = c.args.self.now in
    let n = c.in-Some-Made.count in
    let e : s.trail.items ≡ c.pop.new.self.items ++ entries.Made n ∷ [] = c.in-Some-Made.ensures.items ∙ ap (λ (d : Entry). c.pop.new.self.items ++ d ∷ []) c.in-Some-Made.field-0-is in
    let l : n ≤ length s.table.items = (undone_made s.table.items _ c.pop.new.self.items s.trail.items s.noted.items s.reach n s.stored e refl).2 in
    omega (arith, l, c.len.ensures)

pub invariant_of-self-in-Some-Made : goal.invariant_of-self-in-Some-Made
invariant_of-self-in-Some-Made c =
    let s = c.args.self.now in
    let n = c.in-Some-Made.count in
    let es = c.pop.new.self.items in
    let us = c.truncate.new.self.items in
    let e : s.trail.items ≡ es ++ entries.Made n ∷ [] = c.in-Some-Made.ensures.items ∙ ap (λ (d : Entry). es ++ d ∷ []) c.in-Some-Made.field-0-is in
    let m : c.len.result ≡ length s.table.items = omega (arith, c.len.ensures) in
    let left : c.len.result - n ≡ length s.table.items - n = ap (λ k. k - n) m in
    let k = undone_made s.table.items us es s.trail.items s.noted.items s.reach n s.stored e (c.truncate.ensures.items ∙ ap (λ j. take j s.table.items) left) in
    let kept : IsStored us es s.noted.items c.min-self.result = subst (IsStored us es s.noted.items) (sym (c.min-self.ensures ∙ ap (min s.reach) left)) k.0 in
    let marks = marked_before s.table.items us (changes_in us es s.noted.items) (changes s) (Made n) s.marked k.1 (λ i l. mark_in_take s.table.items (c.len.result - n) i (ap (λ (vs : List Slot). ground_in vs i) (sym c.truncate.ensures.items) ∙ l)) in
    record { stored = kept; holds = unheld_made s.held.items (changes_in us es s.noted.items) (changes s) n s.holds k.1; marked = marks; likened = likes_before (like_in s.likes.items) (changes_in us es s.noted.items) (changes s) s.likened (Made n) k.1; mentioned = mentioned_take s.mentions s.table.items us s.mentioned (c.len.result - n) c.truncate.ensures.items; ranked = ranked_after (changes_in us es s.noted.items) kept.0 }

pub returns-in-Some-Made-clause-versions : goal.returns-in-Some-Made-clause-versions
returns-in-Some-Made-clause-versions c =
    let s = c.args.self.now in
    let n = c.in-Some-Made.count in
    let es = c.pop.new.self.items in
    let us = c.truncate.new.self.items in
    let e : s.trail.items ≡ es ++ entries.Made n ∷ [] = c.in-Some-Made.ensures.items ∙ ap (λ (d : Entry). es ++ d ∷ []) c.in-Some-Made.field-0-is in
    let m : c.len.result ≡ length s.table.items = omega (arith, c.len.ensures) in
    let k = undone_made s.table.items us es s.trail.items s.noted.items s.reach n s.stored e (c.truncate.ensures.items ∙ ap (λ j. take (j - n) s.table.items) m) in
    versions_last (changes_in us es s.noted.items) (changes s) _ k.1

pub returns-in-Some-Made-clause-next : goal.returns-in-Some-Made-clause-next
returns-in-Some-Made-clause-next c =
    let s = c.args.self.now in
    let n = c.in-Some-Made.count in
    let es = c.pop.new.self.items in
    let us = c.truncate.new.self.items in
    let e : s.trail.items ≡ es ++ entries.Made n ∷ [] = c.in-Some-Made.ensures.items ∙ ap (λ (d : Entry). es ++ d ∷ []) c.in-Some-Made.field-0-is in
    let m : c.len.result ≡ length s.table.items = omega (arith, c.len.ensures) in
    let k = undone_made s.table.items us es s.trail.items s.noted.items s.reach n s.stored e (c.truncate.ensures.items ∙ ap (λ j. take (j - n) s.table.items) m) in
    next_last (changes_in us es s.noted.items) (changes s) _ k.1

pub returns-in-Some-Made-clause-kinds : goal.returns-in-Some-Made-clause-kinds
returns-in-Some-Made-clause-kinds c =
    let s = c.args.self.now in
    let n = c.in-Some-Made.count in
    let es = c.pop.new.self.items in
    let us = c.truncate.new.self.items in
    let e : s.trail.items ≡ es ++ entries.Made n ∷ [] = c.in-Some-Made.ensures.items ∙ ap (λ (d : Entry). es ++ d ∷ []) c.in-Some-Made.field-0-is in
    let m : c.len.result ≡ length s.table.items = omega (arith, c.len.ensures) in
    let k = undone_made s.table.items us es s.trail.items s.noted.items s.reach n s.stored e (c.truncate.ensures.items ∙ ap (λ j. take (j - n) s.table.items) m) in
    kinds_left s.table.items us (c.len.result - n) (present_after (changes_in us es s.noted.items) empty).next c.truncate.ensures.items (omega (arith, c.len.ensures)) k.0.2

pub put_value-requires : goal.put_value-requires
put_value-requires c =
    let s = c.args.self.now in
    bound_fits s.table.items c.pop.new.self.items s.trail.items s.noted.items s.reach c.in-Some-Bound.num s.stored
    (c.in-Some-Bound.ensures.items ∙ ap (λ (d : Entry). c.pop.new.self.items ++ d ∷ []) c.in-Some-Bound.field-0-is)

pub invariant_of-self-in-Some-Bound : goal.invariant_of-self-in-Some-Bound
invariant_of-self-in-Some-Bound c =
    let s = c.args.self.now in
    let i = c.in-Some-Bound.num in
    let es = c.pop.new.self.items in
    let us = c.put_value.new.table.items in
    let e : s.trail.items ≡ es ++ entries.Bound i ∷ [] = c.in-Some-Bound.ensures.items ∙ ap (λ (d : Entry). es ++ d ∷ []) c.in-Some-Bound.field-0-is in
    let k = undone_bound s.table.items us es s.trail.items s.noted.items s.reach i s.stored e c.put_value.ensures.length c.put_value.ensures.bound (c.put_value.ensures.below s.reach tt s.stored.4) in
    let marks = marked_before s.table.items us (changes_in us es s.noted.items) (changes s) _ s.marked k.1 (λ j l. mark_off i j (ground_in s.table.items j) (ground_in us j) (c.put_value.ensures.marks j) l) in
    record { stored = k.0; holds = unheld_bound s.held.items (changes_in us es s.noted.items) (changes s) _ _ s.holds k.1; marked = marks; likened = likes_before (like_in s.likes.items) (changes_in us es s.noted.items) (changes s) s.likened _ k.1; mentioned = mentioned_put s.mentions s.table.items us s.mentioned i None false c.put_value.ensures.bound c.put_value.ensures.marks (λ l g. no_var (IsMentioned s.mentions)); ranked = ranked_after (changes_in us es s.noted.items) k.0.0 }

pub returns-in-Some-Bound-clause-versions : goal.returns-in-Some-Bound-clause-versions
returns-in-Some-Bound-clause-versions c =
    let s = c.args.self.now in
    let i = c.in-Some-Bound.num in
    let es = c.pop.new.self.items in
    let us = c.put_value.new.table.items in
    let e : s.trail.items ≡ es ++ entries.Bound i ∷ [] = c.in-Some-Bound.ensures.items ∙ ap (λ (d : Entry). es ++ d ∷ []) c.in-Some-Bound.field-0-is in
    let k = undone_bound s.table.items us es s.trail.items s.noted.items s.reach i s.stored e c.put_value.ensures.length c.put_value.ensures.bound (c.put_value.ensures.below s.reach tt s.stored.4) in
    versions_last (changes_in us es s.noted.items) (changes s) _ k.1

pub returns-in-Some-Bound-clause-next : goal.returns-in-Some-Bound-clause-next
returns-in-Some-Bound-clause-next c =
    let s = c.args.self.now in
    let i = c.in-Some-Bound.num in
    let es = c.pop.new.self.items in
    let us = c.put_value.new.table.items in
    let e : s.trail.items ≡ es ++ entries.Bound i ∷ [] = c.in-Some-Bound.ensures.items ∙ ap (λ (d : Entry). es ++ d ∷ []) c.in-Some-Bound.field-0-is in
    let k = undone_bound s.table.items us es s.trail.items s.noted.items s.reach i s.stored e c.put_value.ensures.length c.put_value.ensures.bound (c.put_value.ensures.below s.reach tt s.stored.4) in
    next_last (changes_in us es s.noted.items) (changes s) _ k.1

pub returns-in-Some-Bound-clause-kinds : goal.returns-in-Some-Bound-clause-kinds
returns-in-Some-Bound-clause-kinds c =
    let s = c.args.self.now in
    let i = c.in-Some-Bound.num in
    let es = c.pop.new.self.items in
    let us = c.put_value.new.table.items in
    let e : s.trail.items ≡ es ++ entries.Bound i ∷ [] = c.in-Some-Bound.ensures.items ∙ ap (λ (d : Entry). es ++ d ∷ []) c.in-Some-Bound.field-0-is in
    let k = undone_bound s.table.items us es s.trail.items s.noted.items s.reach i s.stored e c.put_value.ensures.length c.put_value.ensures.bound (c.put_value.ensures.below s.reach tt s.stored.4) in
    kinds_kept s.table.items us (present_after (changes_in us es s.noted.items) empty).next c.put_value.ensures.kinds (sym c.put_value.ensures.length ∙ k.0.2)

pub invariant_of-self-in-None-pop : goal.invariant_of-self-in-None-pop
invariant_of-self-in-None-pop c =
    let s = c.args.self.now in
    let l = some_noted s.table.items c.pop.new.self.items s.trail.items s.noted.items s.reach s.stored (c.in-Some-Noted.ensures.items ∙ ap (λ (d : Entry). c.pop.new.self.items ++ d ∷ []) c.in-Some-Noted.field-0-is) in
    absurd (omega (arith, l, c.in-None-pop.ensures.cases.0))

pub returns-in-None-pop-clause-versions : goal.returns-in-None-pop-clause-versions
returns-in-None-pop-clause-versions c =
    let s = c.args.self.now in
    let l = some_noted s.table.items c.pop.new.self.items s.trail.items s.noted.items s.reach s.stored (c.in-Some-Noted.ensures.items ∙ ap (λ (d : Entry). c.pop.new.self.items ++ d ∷ []) c.in-Some-Noted.field-0-is) in
    absurd (omega (arith, l, c.in-None-pop.ensures.cases.0))

pub let_go-requires : goal.let_go-requires
let_go-requires c =
    let s = c.args.self.now in
    let d = c.in-Some-Added.c in
    let es = c.pop.new.self.items in
    let ns = c.pop-in-Some-Noted.new.self.items in
    let e : s.trail.items ≡ es ++ entries.Noted ∷ [] = c.in-Some-Noted.ensures.items ∙ ap (λ (n : Entry). es ++ n ∷ []) c.in-Some-Noted.field-0-is in
    let f : s.noted.items ≡ ns ++ notes.Added d ∷ [] = c.in-Some-Added.ensures.items ∙ ap (λ (n : Noted). ns ++ n ∷ []) c.in-Some-Added.field-0-is in
    let k = undone_noted s.table.items es s.trail.items ns s.noted.items s.reach (notes.Added d) s.stored e f in
    added_fits s.held.items (changes_in s.table.items es ns) (changes s) d s.holds k.1

pub invariant_of-self-in-Some-Added : goal.invariant_of-self-in-Some-Added
invariant_of-self-in-Some-Added c =
    let s = c.args.self.now in
    let d = c.in-Some-Added.c in
    let es = c.pop.new.self.items in
    let ns = c.pop-in-Some-Noted.new.self.items in
    let e : s.trail.items ≡ es ++ entries.Noted ∷ [] = c.in-Some-Noted.ensures.items ∙ ap (λ (n : Entry). es ++ n ∷ []) c.in-Some-Noted.field-0-is in
    let f : s.noted.items ≡ ns ++ notes.Added d ∷ [] = c.in-Some-Added.ensures.items ∙ ap (λ (n : Noted). ns ++ n ∷ []) c.in-Some-Added.field-0-is in
    let k = undone_noted s.table.items es s.trail.items ns s.noted.items s.reach (notes.Added d) s.stored e f in
    let held = unheld_added s.held.items c.let_go.new.held.items (changes_in s.table.items es ns) (changes s) d s.holds k.1 c.let_go.ensures.length c.let_go.ensures.held in
    record { stored = k.0; holds = held; marked = marked_before s.table.items s.table.items (changes_in s.table.items es ns) (changes s) _ s.marked k.1 (λ i l. l); likened = likes_before (like_in s.likes.items) (changes_in s.table.items es ns) (changes s) s.likened _ k.1; mentioned = s.mentioned; ranked = ranked_after (changes_in s.table.items es ns) k.0.0 }

pub returns-in-Some-Added-clause-versions : goal.returns-in-Some-Added-clause-versions
returns-in-Some-Added-clause-versions c =
    let s = c.args.self.now in
    let d = c.in-Some-Added.c in
    let es = c.pop.new.self.items in
    let ns = c.pop-in-Some-Noted.new.self.items in
    let e : s.trail.items ≡ es ++ entries.Noted ∷ [] = c.in-Some-Noted.ensures.items ∙ ap (λ (n : Entry). es ++ n ∷ []) c.in-Some-Noted.field-0-is in
    let f : s.noted.items ≡ ns ++ notes.Added d ∷ [] = c.in-Some-Added.ensures.items ∙ ap (λ (n : Noted). ns ++ n ∷ []) c.in-Some-Added.field-0-is in
    let k = undone_noted s.table.items es s.trail.items ns s.noted.items s.reach (notes.Added d) s.stored e f in
    versions_last (changes_in s.table.items es ns) (changes s) _ k.1

pub put_back-requires : goal.put_back-requires
put_back-requires c =
    let s = c.args.self.now in
    let x = c.in-Some-Taken.x in
    let cs = c.in-Some-Taken.conds in
    let es = c.pop.new.self.items in
    let ns = c.pop-in-Some-Noted.new.self.items in
    let e : s.trail.items ≡ es ++ entries.Noted ∷ [] = c.in-Some-Noted.ensures.items ∙ ap (λ (n : Entry). es ++ n ∷ []) c.in-Some-Noted.field-0-is in
    let f : s.noted.items ≡ ns ++ notes.Taken x cs ∷ [] = c.in-Some-Taken.ensures.items ∙ ap (λ (n : Noted). ns ++ n ∷ []) c.in-Some-Taken.field-0-is in
    let k = undone_noted s.table.items es s.trail.items ns s.noted.items s.reach (notes.Taken x cs) s.stored e f in
    taken_fits s.held.items (changes_in s.table.items es ns) (changes s) x cs.items s.holds k.1

pub invariant_of-self-in-Some-Taken : goal.invariant_of-self-in-Some-Taken
invariant_of-self-in-Some-Taken c =
    let s = c.args.self.now in
    let x = c.in-Some-Taken.x in
    let cs = c.in-Some-Taken.conds in
    let es = c.pop.new.self.items in
    let ns = c.pop-in-Some-Noted.new.self.items in
    let e : s.trail.items ≡ es ++ entries.Noted ∷ [] = c.in-Some-Noted.ensures.items ∙ ap (λ (n : Entry). es ++ n ∷ []) c.in-Some-Noted.field-0-is in
    let f : s.noted.items ≡ ns ++ notes.Taken x cs ∷ [] = c.in-Some-Taken.ensures.items ∙ ap (λ (n : Noted). ns ++ n ∷ []) c.in-Some-Taken.field-0-is in
    let k = undone_noted s.table.items es s.trail.items ns s.noted.items s.reach (notes.Taken x cs) s.stored e f in
    let held = unheld_taken s.held.items c.put_back.new.held.items (changes_in s.table.items es ns) (changes s) x cs.items s.holds k.1
    (taken_link (changes_in s.table.items es ns) (changes s) x cs.items s.stored.1 k.1) c.put_back.ensures.length c.put_back.ensures.held in
    record { stored = k.0; holds = held; marked = marked_before s.table.items s.table.items (changes_in s.table.items es ns) (changes s) _ s.marked k.1 (λ i l. l); likened = likes_before (like_in s.likes.items) (changes_in s.table.items es ns) (changes s) s.likened _ k.1; mentioned = s.mentioned; ranked = ranked_after (changes_in s.table.items es ns) k.0.0 }

pub returns-in-Some-Taken-clause-versions : goal.returns-in-Some-Taken-clause-versions
returns-in-Some-Taken-clause-versions c =
    let s = c.args.self.now in
    let x = c.in-Some-Taken.x in
    let cs = c.in-Some-Taken.conds in
    let es = c.pop.new.self.items in
    let ns = c.pop-in-Some-Noted.new.self.items in
    let e : s.trail.items ≡ es ++ entries.Noted ∷ [] = c.in-Some-Noted.ensures.items ∙ ap (λ (n : Entry). es ++ n ∷ []) c.in-Some-Noted.field-0-is in
    let f : s.noted.items ≡ ns ++ notes.Taken x cs ∷ [] = c.in-Some-Taken.ensures.items ∙ ap (λ (n : Noted). ns ++ n ∷ []) c.in-Some-Taken.field-0-is in
    let k = undone_noted s.table.items es s.trail.items ns s.noted.items s.reach (notes.Taken x cs) s.stored e f in
    versions_last (changes_in s.table.items es ns) (changes s) _ k.1
