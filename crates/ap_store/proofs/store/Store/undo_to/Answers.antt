use Rattle.std.proofs.Common.{◌≡◌, ◌+◌, [], ◌∷◌, length, ap, arith}
use Rattle.std.proofs.lemmas.List.{length-append}
use Rattle.ap_store.specs.Changes.{empty}
use Rattle.ap_store.specs.Views.{changes, kinds, present, versions}
use Rattle.ap_store.proofs.StoredLemmas.{changes_length}
use Rattle.ap_store.proofs.TrailLemmas.{goes_on_both, goes_on_one, past_length, prefix_is, take_further, versions_length}
use Rattle.ap_store.proofs.store.Store.undo_to.Goals as goal

pub undo_last-requires : goal.undo_last-requires
undo_last-requires c =
    let s = c.undoing.self in
    omega (arith, past_length (changes s) empty, changes_length s.table.items s.trail.items s.noted.items s.stored.5, c.len.ensures)

pub undoing-preserved : goal.undoing-preserved
undoing-preserved c =
    let s = c.undoing.self in
    let r = c.undo_last.new.self in
    record {
      versions = goes_on_both (versions r) (versions s) (versions c.args.self.now) (goes_on_one (versions r) (versions s) (present s) c.undo_last.ensures.versions) c.undoing.invariant.versions;
      kinds = take_further (present r).next (present s).next (kinds r) (kinds s) (kinds c.args.self.now) c.undo_last.ensures.kinds c.undoing.invariant.kinds c.undo_last.ensures.next;
      place = omega (arith, c.len.ensures, ap length c.undo_last.ensures.versions, length-append (versions r) (present s ∷ []), versions_length (changes s) empty, versions_length (changes r) empty, past_length (changes r) empty, changes_length s.table.items s.trail.items s.noted.items s.stored.5);
    }

pub returns-clause-versions : goal.returns-clause-versions
returns-clause-versions c =
    let s = c.undoing.self in
    let l : length (versions s) ≡ c.args.m.place + 1 = omega (arith, c.len.ensures, c.undoing.invariant.place, versions_length (changes s) empty, past_length (changes s) empty, changes_length s.table.items s.trail.items s.noted.items s.stored.5) in
    prefix_is (versions s) (versions c.args.self.now) (c.args.m.place + 1) c.undoing.invariant.versions l
