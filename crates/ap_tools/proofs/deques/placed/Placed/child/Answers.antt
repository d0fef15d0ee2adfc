use Rattle.std.proofs.Common.{subst, sym, List, ℕ}
use Rattle.ap_paths.specs.Trees.{IsChoice, InChoiceTree}
use Rattle.ap_tools.proofs.Placing.{child_in_tree}
use Rattle.ap_tools.proofs.deques.placed.Placed.child.Goals as goal

pub new-requires : goal.new-requires
new-requires g c =
    let w = g.W.Shape.choices in
    let choice = subst (λ (p : List ℕ). IsChoice (w p) c.args.k) (sym c.self.view_is) c.requires in
    subst (λ (p : List ℕ). InChoiceTree w p) (sym c.in_ok-path.ensures) (child_in_tree w c.self.inside.path c.args.k c.self.invariant choice)
