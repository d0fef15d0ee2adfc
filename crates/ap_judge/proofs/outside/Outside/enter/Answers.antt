use Rattle.std.proofs.Common.{◌≡◌, ◌+◌, ap, arith}
use Rattle.ap_defs.specs.declared.spines.TermLayer.TheVariants as around
use Rattle.ap_defs.specs.Unification.{size}
use Rattle.ap_judge.specs.declared.closures.Head.{Head}
use Rattle.ap_judge.specs.Closures.{head_term, scoped_term}
use Rattle.ap_judge.proofs.OutsideLemmas.{next_halved, next_wrapped}
use Rattle.ap_judge.proofs.outside.Outside.enter.Goals as goal

pub returns-in_ok-halve-in-Pair : goal.returns-in_ok-halve-in-Pair
returns-in_ok-halve-in-Pair c =
    let sizes : size (head_term c.args.part) ≡ 1 + size (scoped_term c.in-Pair.left) + size (scoped_term c.in-Pair.right) = ap (λ (h : Head). size (head_term h)) c.in-Pair.is in
    next_halved c.args.self.now c.halve.new.self c.in-Pair.left c.in-Pair.right c.in_ok-halve-in-Pair.ensures.halves c.in_ok-halve-in-Pair.ensures.layers
    (size (head_term c.args.part)) (head_term c.args.part) (ap head_term c.in-Pair.is) (omega (arith, sizes))

pub returns-in_ok-wrap-in-App : goal.returns-in_ok-wrap-in-App
returns-in_ok-wrap-in-App c =
    let sizes : size (head_term c.args.part) ≡ 1 + size (scoped_term c.in-App.argument) = ap (λ (h : Head). size (head_term h)) c.in-App.is in
    next_wrapped c.args.self.now c.wrap.new.self (around.App c.in-App.f) c.in-App.argument (size (head_term c.args.part)) (head_term c.args.part)
    c.wrap.ensures.halves c.in_ok-wrap-in-App.ensures.layers (ap head_term c.in-App.is) (omega (arith, sizes))

pub returns-in_ok-wrap-in-Abs : goal.returns-in_ok-wrap-in-Abs
returns-in_ok-wrap-in-Abs c =
    let sizes : size (head_term c.args.part) ≡ 1 + size (scoped_term c.in-Abs.body) = ap (λ (h : Head). size (head_term h)) c.in-Abs.is in
    next_wrapped c.args.self.now c.wrap-in-Abs.new.self (around.Abs c.in-Abs.a) c.in-Abs.body (size (head_term c.args.part)) (head_term c.args.part)
    c.wrap-in-Abs.ensures.halves c.in_ok-wrap-in-Abs.ensures.layers (ap head_term c.in-Abs.is) (omega (arith, sizes))
