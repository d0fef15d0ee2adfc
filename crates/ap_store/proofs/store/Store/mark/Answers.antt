use Rattle.std.proofs.Common.{arith}
use Rattle.ap_store.specs.Changes.{empty}
use Rattle.ap_store.specs.Views.{changes}
use Rattle.ap_store.proofs.StoredLemmas.{changes_length}
use Rattle.ap_store.proofs.TrailLemmas.{past_length}
use Rattle.ap_store.proofs.store.Store.mark.Goals as goal

pub returns : goal.returns
returns c =
    let s = c.args.self.now in
    omega (arith, c.len.ensures, past_length (changes s) empty, changes_length s.table.items s.trail.items s.noted.items s.stored.5)
