use Rattle.std.proofs.Common.{◌+◌, List, take, sym, subst}
use Rattle.ap_store.specs.Triples.{Triple}
use Rattle.ap_store.specs.Views.{versions}
use Rattle.ap_machine.specs.Looks.{HasLooked}
use Rattle.ap_machine.specs.declared.brought.Brought.{Brought}
use Rattle.ap_machine.proofs.MachineLemmas.{back_below, back_next, back_position, back_track}
use Rattle.ap_machine.proofs.machine.Machine.undo.Goals as goal

pub invariant_of-self : goal.invariant_of-self
invariant_of-self c =
    let s = c.args.save in
    let b = c.args.self.now in
    let r = c.undo_to.new.self in
    let a = c.back_to.new.self in
    let path = c.truncate.new.self.items in
    let brought = c.truncate-2.new.self.items in
    let e = back_track s b r a path brought c.undo_to.ensures.versions c.undo_to.ensures.kinds c.back_to.ensures.cells c.truncate.ensures.items c.truncate-2.ensures.items in
    let l = c.go_back.new.self in
    record {
      seen = subst (λ (vs : List Triple). HasLooked vs brought l) (sym c.undo_to.ensures.versions)
          (subst (λ (bs : List Brought). HasLooked (take (s.mark.place + 1) (versions b.store)) bs l) (sym c.truncate-2.ensures.items)
          (c.go_back.ensures (versions b.store) b.brought.items b.seen c.requires.within.mark c.requires.within.brought));
      below = back_below s b r a path brought e c.back_to.ensures.first c.requires.waiting;
    }

pub returns-clause-track : goal.returns-clause-track
returns-clause-track c =
    back_track c.args.save c.args.self.now c.undo_to.new.self c.back_to.new.self c.truncate.new.self.items c.truncate-2.new.self.items
    c.undo_to.ensures.versions c.undo_to.ensures.kinds c.back_to.ensures.cells c.truncate.ensures.items c.truncate-2.ensures.items

pub returns-clause-position : goal.returns-clause-position
returns-clause-position c =
    back_position c.args.save c.args.self.now c.undo_to.new.self c.back_to.new.self c.truncate.new.self.items c.truncate-2.new.self.items
    (returns-clause-track c) c.back_to.ensures.first

pub returns-clause-next : goal.returns-clause-next
returns-clause-next c =
    back_next c.args.save c.args.self.now c.undo_to.new.self c.back_to.new.self c.truncate.new.self.items c.truncate-2.new.self.items (returns-clause-track c)
