use Rattle.std.proofs.Common.{◌≡◌, ◌++◌, ap, ◌∙◌}
use Rattle.ap_defs.specs.Permutations.{inverse}
use Rattle.ap_defs.specs.Terms.{act_term}
use Rattle.ap_equations.specs.Plain.{plain_term}
use Rattle.ap_theory.proofs.TermLemmas.{act_term-append}
use Rattle.ap_unify.proofs.sides.moved_back.Goals as goal
use Rattle.ap_unify.specs.Moved.{waiting}

pub returns : goal.returns
returns c =
    let q = inverse (waiting c.args.back.now) in
    let p = waiting c.args.side.now in
    let t = plain_term c.args.p in
    let first : c.put_undoing_swaps.new.swaps.items ≡ q = c.in_ok-put_undoing_swaps.ensures ∙ ap (λ r. r ++ q) c.in_ok-swaps.ensures.items in
    let both : c.put_waiting_swaps.new.swaps.items ≡ q ++ p = c.in_ok-put_waiting_swaps.ensures ∙ ap (λ r. r ++ p) first in
    c.settled.ensures ∙ ap (λ r. act_term r t) both ∙ act_term-append q p t
