use Rattle.std.proofs.Common.{◌≡◌, ◌∙◌, sym, ap}
use Rattle.ap_defs.specs.Goals.{both, goal_of}
use Rattle.ap_defs.specs.declared.spines.GoalLayer.TheVariants as around
use Rattle.ap_defs.proofs.SpineLemmas.{goal_goes_in}
use Rattle.ap_property.specs.Properties.{before_conclusion}
use Rattle.ap_instance.proofs.parts.before_conclusion.Goals as goal

pub walking-preserved : goal.walking-preserved
walking-preserved c =
    let copied = c.in_ok-copy_goal.field-0 in
    let part = before_conclusion (goal_of c.in-Some.left.now) (goal_of c.in-Some.right.now) in
    let e : before_conclusion (goal_of c.walking.last.now) (goal_of c.walking.rest.now) ≡ both (goal_of copied) part =
    ap (before_conclusion (goal_of c.walking.last.now)) c.in-Some.ensures ∙ ap (λ g. both g part) (sym c.in_ok-copy_goal.ensures) in
    goal_goes_in c.walking.layers.items c.push.new.self.items (around.Both copied) _ part _ c.in_ok-push.ensures.items e c.walking.invariant
