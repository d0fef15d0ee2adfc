use Rattle.std.proofs.Common.{◌++◌, sym, ap, ◌∙◌, arith}
use Rattle.ap_cover.specs.Waiting.{paths_waiting, weight_waiting}
use Rattle.ap_cover.proofs.PathLemmas.{last_path, last_weight}
use Rattle.ap_cover.proofs.path.path_of.Goals as goal

pub walking-smaller : goal.walking-smaller
walking-smaller c =
    let whole = ap weight_waiting c.in-Some.ensures.items ∙ last_weight c.pop.new.self.items c.in-Some.node in
    let less = c.in_ok-add_node.ensures.weight in
    omega (arith, whole, less)

pub walking-preserved : goal.walking-preserved
walking-preserved c =
    c.in_ok-add_node.ensures.path
    ∙ ap (λ l. c.walking.choices.items ++ l) (sym (ap paths_waiting c.in-Some.ensures.items ∙ last_path c.pop.new.self.items c.in-Some.node))
    ∙ c.walking.invariant
