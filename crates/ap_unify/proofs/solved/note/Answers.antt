use Rattle.std.proofs.Common.{[]}
use Rattle.ap_defs.specs.Terms.{susp}
use Rattle.ap_unify.proofs.SolvedLemmas.{awaited_between, one_awaited}
use Rattle.ap_unify.proofs.solved.note.Goals as goal
use Rattle.ap_unify.specs.Moved.{waiting}
use Rattle.ap_unify.specs.declared.solved.Awaited.{Awaited}

pub returns : goal.returns
returns c = λ r k h.
    let m = c.args.sides.now in
    let a : Awaited = record { pair = record { x = c.args.x; swaps = c.in_ok-swaps.swaps; y = c.args.y }; behind = c.args.behind } in (
      k.0,
      one_awaited r c.args.solved.now.awaited.items c.push.new.self.items a c.in_ok-push.ensures.items k.1
          (awaited_between (waiting m.left) (waiting m.right) (susp [] c.args.x) (susp [] c.args.y) r c.args.behind c.in_ok-swaps.swaps.items c.in_ok-swaps.ensures h),
    )
