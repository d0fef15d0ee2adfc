use Rattle.std.proofs.Common.{◌∙◌, List, length, ap, arith}
use Rattle.std.proofs.lemmas.List.{length_push}
use Rattle.ap_types.specs.declared.nodes.Node.{Node}
use Rattle.ap_types.specs.declared.nodes.Node.TheVariants as nodes
use Rattle.ap_types.proofs.GrowLemmas.{place_pushed}
use Rattle.ap_types.proofs.loading.with_places.Goals as goal

pub loop-x-preserved : goal.loop-x-preserved
loop-x-preserved c =
    let before = c.loop-x.wider.items in
    let items = c.in_ok-push.ensures.items in
    let same = c.loop-x.invariant.1 in
    let long = ap (λ (ns : List Node). length ns) items in
    let more = length_push before (nodes.Place c.loop-x.x) in
    ((λ y. place_pushed before c.push.new.self.items c.loop-x.x y same items ∙ c.loop-x.invariant.0 y), omega (arith, long, more, same))
