use Rattle.std.proofs.Common.{List, ap}
use Rattle.ap_store.specs.Changes.{empty, present_after}
use Rattle.ap_store.specs.Slots.{changes_in}
use Rattle.ap_store.specs.declared.changes.Entry.{Entry}
use Rattle.ap_store.proofs.TrailLemmas.{versions_after}
use Rattle.ap_store.proofs.store.Store.make_room.Goals as goal

pub returns-clause-present : goal.returns-clause-present
returns-clause-present c = let s = c.args.self.now in ap (λ (es : List Entry). present_after (changes_in s.table.items es s.noted.items) empty) c.reserve.ensures.items

pub returns-clause-versions : goal.returns-clause-versions
returns-clause-versions c = let s = c.args.self.now in ap (λ (es : List Entry). versions_after (changes_in s.table.items es s.noted.items) empty) c.reserve.ensures.items
