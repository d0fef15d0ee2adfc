use Rattle.std.proofs.Common.{ap, ◌∙◌}
use Rattle.ap_scopes.specs.Flaws.{least_kind}
use Rattle.ap_scopes.specs.Views.{declared_of}
use Rattle.ap_scopes.proofs.FlawLemmas.{types_next}
use Rattle.ap_scopes.proofs.types.types_flaw.Goals as goal

pub loop-tree-preserved : goal.loop-tree-preserved
loop-tree-preserved c =
    types_next (declared_of c.args.declared.now).signature c.args.trees.now c.loop-tree.tree-index c.tree-item.result c.tree-item.result c.loop-tree.flaw c.least-flaw.result
    c.loop-tree-test.true c.tree-item.is (c.least-flaw.ensures ∙ ap (least_kind c.loop-tree.flaw) c.type_flaw.ensures) c.loop-tree.invariant
