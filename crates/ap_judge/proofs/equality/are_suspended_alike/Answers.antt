use Rattle.std.proofs.Common.{◌≡◌, ◌==◌, true, false, sym, subst, arith}
use Rattle.std.proofs.lemmas.Bool.Decides.{nat_tests}
use Rattle.std.specs.Prelude.{Bool, IfOk}
use Rattle.ap_judge.proofs.SettledLemmas.{other_vars, settled_all}
use Rattle.ap_judge.proofs.equality.are_suspended_alike.Goals as goal

pub returns-then-x-y : goal.returns-then-x-y
returns-then-x-y c =
    let other : (c.args.x.num == c.args.y.num) ≡ false = grind (arith, nat_tests, c.if-x-y.true) in
    sym (other_vars c.args.answer.now.conds c.args.binders.now.pairs.items c.args.p.now c.args.q.now c.args.x c.args.y other)

pub returns : goal.returns
returns c =
    let same : (c.args.x.num == c.args.y.num) ≡ true = grind (arith, nat_tests, c.if-x-y.false) in
    subst (λ (b : Bool). IfOk c.are_all_settled.result (λ yes. yes ≡ b))
    (settled_all c.args.answer.now.conds c.args.binders.now.pairs.items c.args.p.now c.args.q.now c.args.x c.args.y same)
    c.are_all_settled.ensures
