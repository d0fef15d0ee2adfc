use Rattle.std.proofs.Common.{arith, ◌∙◌, ap, sym}
use Rattle.crossbeam_deque.specs.Handles.{worker_view}
use Rattle.ap_paths.specs.Weights.{weigh}
use Rattle.ap_tools.proofs.Moves.{weigh-append}
use Rattle.ap_tools.proofs.Closings.{parts_of-last, stolen_of-last, of_last}
use Rattle.ap_tools.proofs.deques.closing.absorb_all.Goals as goal

pub absorb_thief-requires : goal.absorb_thief-requires
absorb_thief-requires g c =
    let v = c.loop-thief.invariant in (v.0, (of_last _ _ _ _ c.in-Some.ensures.items v.2).1 ∙ sym v.1)

pub loop-thief-preserved : goal.loop-thief-preserved
loop-thief-preserved g c =
    let v = c.loop-thief.invariant in
    let same = c.absorb_thief.ensures.same in
    let w = c.absorb_thief.ensures.view in
    let items = c.in-Some.ensures.items in
    let k = v.3 in
    let p = w.0 in (
      same.0,
      same.1 ∙ v.1,
      (of_last _ _ _ _ items v.2).0,
      omega (arith, parts_of-last _ _ _ items),
      w.1 ∙ v.4,
      w.2 ∙ v.5,
      λ h. (let a = v.6 h in let b = ap (weigh h) w.3 in omega (arith, stolen_of-last h _ _ _ items, weigh-append h (worker_view c.loop-thief.deque).stolen c.in-Some.thief.stolen)),
    )
