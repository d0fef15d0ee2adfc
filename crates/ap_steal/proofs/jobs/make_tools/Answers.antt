use Rattle.std.proofs.Common.{rules, arith, ◌≡◌, ◌∷◌, ◌++◌, [], length, sym, subst}
use Rattle.ap_tools.specs.Hands.{AreFreshTools}
use Rattle.ap_tools.proofs.Fresh.{fresh_more}
use Rattle.ap_steal.proofs.jobs.make_tools.Goals as goal

pub loop-number-preserved : goal.loop-number-preserved
loop-number-preserved g c =
    let before = c.loop-number.all.items in
    let number : c.loop-number.number ≡ length before = search rules in
    let more : c.push.new.self.items ≡ before ++ c.in_ok-tools.tools ∷ [] = search rules in
    (search rules, subst (AreFreshTools 0) (sym more) (fresh_more 0 c.loop-number.number before c.in_ok-tools.tools (omega (arith, number)) c.loop-number.invariant.1 c.in_ok-tools.ensures))
