use Rattle.std.proofs.Common.{◌≡◌, ◌∙◌, List, length, subst, sym, arith}
use Rattle.std.proofs.lemmas.Result.{err_from_is_err_and}
use Rattle.ap_types.specs.declared.nodes.Node.{Node}
use Rattle.ap_types.specs.Triangular.{shapes_of_nodes, IsSettledTable}
use Rattle.ap_types.specs.Joining.{Rewrites, Settles}
use Rattle.ap_types.specs.Walking.{AreInOrder, NoneFits}
use Rattle.ap_types.proofs.JoinLemmas.{written_back}
use Rattle.ap_types.proofs.SettledLemmas.{settles, never_settles}
use Rattle.ap_types.proofs.equations.settled.Goals as goal

pub returns-in_err-order-clause-clash : goal.returns-in_err-order-clause-clash
returns-in_err-order-clause-clash c =
    let p = err_from_is_err_and c.from_residual-in_err-order.result c.from_residual-in_err-order.ensures.1 in
    let ns = c.in_ok-nodes.nodes.items in
    let new = c.shorten_all.new.nodes in
    let kept : length new ≡ length c.deref_mut.result.now = c.shorten_all.auto.nodes in
    let as_long : length new ≡ c.in_ok-nodes.nodes.len = omega (arith, c.deref_mut.ensures.len) in
    let value : c.as_slice.result.now ≡ new = c.as_slice.ensures.value ∙ written_back new ns c.in_ok-nodes.nodes.len as_long in
    let rewrites : Rewrites (shapes_of_nodes ns) (shapes_of_nodes new) = subst (λ (ms : List Node). Rewrites (shapes_of_nodes ms) (shapes_of_nodes new)) c.deref_mut.ensures.value c.shorten_all.ensures in
    rw (p.1, p.2) (λ i. never_settles (shapes_of_nodes c.args.loaded.nodes.items) (shapes_of_nodes ns) (shapes_of_nodes new) c.args.loaded.pairs.items c.in_ok-nodes.ensures.ok rewrites
    (subst (λ (ms : List Node). NoneFits (shapes_of_nodes ms)) value (c.in_err-order.ensures.clash i)))

pub returns-clause-ok : goal.returns-clause-ok
returns-clause-ok c =
    let ns = c.in_ok-nodes.nodes.items in
    let new = c.shorten_all.new.nodes in
    let kept : length new ≡ length c.deref_mut.result.now = c.shorten_all.auto.nodes in
    let as_long : length new ≡ c.in_ok-nodes.nodes.len = omega (arith, c.deref_mut.ensures.len) in
    let back = written_back new ns c.in_ok-nodes.nodes.len as_long in
    let value : c.as_slice.result.now ≡ new = c.as_slice.ensures.value ∙ back in
    let rewrites : Rewrites (shapes_of_nodes ns) (shapes_of_nodes new) = subst (λ (ms : List Node). Rewrites (shapes_of_nodes ms) (shapes_of_nodes new)) c.deref_mut.ensures.value c.shorten_all.ensures in
    subst (λ (ms : List Node). Settles (shapes_of_nodes c.args.loaded.nodes.items) c.args.loaded.pairs.items (shapes_of_nodes ms)) (sym back)
    (settles (shapes_of_nodes c.args.loaded.nodes.items) (shapes_of_nodes ns) (shapes_of_nodes new) c.args.loaded.pairs.items c.in_ok-nodes.ensures.ok rewrites
    (subst (λ (ms : List Node). IsSettledTable (shapes_of_nodes ms)) value c.in_ok-order.ensures.ok))

pub returns-clause-order : goal.returns-clause-order
returns-clause-order c =
    let ns = c.in_ok-nodes.nodes.items in
    let new = c.shorten_all.new.nodes in
    let kept : length new ≡ length c.deref_mut.result.now = c.shorten_all.auto.nodes in
    let as_long : length new ≡ c.in_ok-nodes.nodes.len = omega (arith, c.deref_mut.ensures.len) in
    let back = written_back new ns c.in_ok-nodes.nodes.len as_long in
    let value : c.as_slice.result.now ≡ new = c.as_slice.ensures.value ∙ back in
    subst (λ (ms : List Node). AreInOrder (shapes_of_nodes ms) c.in_ok-order.order.items) (value ∙ sym back) c.in_ok-order.ensures.order
