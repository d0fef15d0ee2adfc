use Rattle.std.proofs.Common.{arith, ◌≡◌, ◌-◌, ◌+◌, ◌∙◌, [], ap, subst}
use Rattle.std.specs.declared.alloc.Global.{Global}
use Rattle.atomic_blocks.specs.Lent.{RowsId}
use Rattle.crossbeam_deque.specs.Handles.{IsPassOf}
use Rattle.ap_tools.specs.Rule.{hand}
use Rattle.ap_tools.specs.declared.deques.hand.Hand.{Hand}
use Rattle.ap_tools.proofs.Closings.{forks_at, cut_view}
use Rattle.ap_tools.proofs.Spares.{spare_more}
use Rattle.ap_tools.proofs.deques.closing.cut_spare.Goals as goal

pub another-requires : goal.another-requires
another-requires g c =
    let v = c.loop.invariant in
    let n = ap (λ (u : Hand). u.parts) v.4 in
    let t = c.loop-test.true in
    forks_at _ _ v.0.0 (omega arith) (ap (λ (u : Hand). u.stolen) v.4)

pub loop-preserved : goal.loop-preserved
loop-preserved g c =
    let v = c.loop.invariant in
    let t = c.loop-test.true in
    let same = c.another.ensures.same in
    let rule = c.another.ensures.rule in
    let cap = c.push_reserved.ensures.capacity in
    let len = c.push_reserved.ensures.len in
    let n : (1023 - c.loop.counter) - 1 ≡ 1023 - (c.loop.counter + 1) = omega arith in (
      (same.0.2 ∙ v.0.0, same.0.1 ∙ v.0.1),
      same.0.0 ∙ v.1,
      (let a = same.0.3 in let b = v.2 in omega arith),
      same.1 ∙ v.3,
      cut_view _ _ _ v.4 rule.0 ∙ ap (λ k. hand k [] [] []) n,
      spare_more _ _ _ _ c.push_reserved.ensures.items v.5 (subst (λ (d : RowsId × Global). IsPassOf d c.another.result) v.1 same.2) rule.1,
      (let b = v.6 in omega arith),
      (let b = v.7 in omega arith),
    )
