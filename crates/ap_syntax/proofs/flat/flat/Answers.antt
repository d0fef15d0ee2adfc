use Rattle.std.proofs.Common.{ap, ◌∙◌}
use Rattle.ap_trees.specs.Symbols.{syms}
use Rattle.ap_trees.proofs.Lists.{gives_as}
use Rattle.ap_syntax.specs.GoalReader.{read_flat, applied_goal}
use Rattle.ap_syntax.proofs.Applied.{flat_applied}
use Rattle.ap_syntax.proofs.flat.flat.Goals as goal

pub returns-in-Some : goal.returns-in-Some
returns-in-Some c =
    gives_as _ c.applied_goal.result _ _ c.applied_goal.ensures (ap read_flat c.in-Some.ensures ∙ flat_applied c.in-Some.word.now (syms c.in-Some.inside.now))
