use Rattle.std.proofs.Common.{◌≡◌, ◌∙◌}
use Rattle.std.specs.Prelude.{Some}
use Rattle.std.proofs.lemmas.Result.{IfOk-weaker}
use Rattle.ap_defs.specs.Terms.{susp, term_of}
use Rattle.ap_store.specs.Views.{raw_bound}
use Rattle.ap_machine.specs.Views.{state_in}
use Rattle.ap_machine.proofs.ChainLemmas.{link_closes}
use Rattle.ap_machine.proofs.chains.closed_by.Goals as goal

pub returns-in-Some-made : goal.returns-in-Some-made
returns-in-Some-made c =
    let s = c.args.store.now in
    let x = c.args.x in
    let w = c.in-Some.waiting in
    let t = term_of c.in-Some-made.t.now in
    let bound : raw_bound s x ≡ Some (susp w.swaps.items w.var) = rw c.in-Some.is at c.in_ok-waiting.ensures in
    IfOk-weaker c.moved_term.result _ _ (λ u e. e ∙ link_closes s x w.var w.swaps.items t bound (c.in-Some-made.ensures (state_in s) c.requires.right))
    (rw c.deref.ensures.value at c.moved_term.ensures)
