use Rattle.std.proofs.Common.{◌≡◌, ◌-◌, ◌≤◌, drop, length, suc}
use Rattle.ap_play.specs.Covers.{covers}
use Rattle.ap_play.proofs.kids.cover.Given as goal

abbrev pub invariant-loop-i : goal.invariant-loop-i
invariant-loop-i g l = (covers (g.T.Tree.at l.tree) l.path 1 l.width l.kids ≡ covers (g.T.Tree.at l.tree) l.path (suc l.i) (l.width - l.i) (drop l.next l.kids)) × (l.next ≤ length l.kids)
