use Rattle.std.proofs.Common.{arith, ◌∙◌, ◌∷◌, [], length, length-append, ap, sym, subst}
use Rattle.std.specs.declared.alloc.Global.{Global}
use Rattle.atomic_blocks.specs.Lent.{RowsId}
use Rattle.crossbeam_deque.specs.Handles.{IsPassOf}
use Rattle.ap_tools.specs.declared.deques.hand.Hand.{Hand}
use Rattle.ap_tools.proofs.Spares.{spare_last, spare_rest}
use Rattle.ap_tools.proofs.Closings.{merges_at, absorbed}
use Rattle.ap_tools.proofs.deques.closing.absorb_spare.Goals as goal

pub absorb-requires-clause-table : goal.absorb-requires-clause-table
absorb-requires-clause-table g c =
    let v = c.loop-pass.invariant in
    subst (λ (d : RowsId × Global). IsPassOf d c.in-Some.pass) (sym v.1) (spare_last _ _ _ _ c.in-Some.ensures.items v.2).0

pub absorb-requires-clause-rule : goal.absorb-requires-clause-rule
absorb-requires-clause-rule g c = merges_at _ _ _ _ c.loop-pass.invariant.0.0

pub loop-pass-preserved : goal.loop-pass-preserved
loop-pass-preserved g c =
    let v = c.loop-pass.invariant in
    let same = c.absorb.ensures.same in
    let w = absorbed _ _ _ c.absorb.ensures.rule (spare_last _ _ _ _ c.in-Some.ensures.items v.2).1 in
    let n = ap length c.in-Some.ensures.items in
    let k = v.3 in
    let p = ap (λ (u : Hand). u.parts) w in (
      (same.0.2 ∙ v.0.0, same.0.1 ∙ v.0.1),
      same.0.0 ∙ v.1,
      spare_rest _ _ _ _ c.in-Some.ensures.items v.2,
      omega (arith, length-append c.pop.new.self.items (c.in-Some.pass ∷ [])),
      ap (λ (u : Hand). u.pushed) w ∙ v.4,
      ap (λ (u : Hand). u.popped) w ∙ v.5,
      ap (λ (u : Hand). u.stolen) w ∙ v.6,
    )
