use Rattle.std.proofs.Common.{rules, subst, ◌≡◌}
use Rattle.std.specs.declared.alloc.Global.{Global}
use Rattle.atomic_blocks.specs.Lent.{RowsId}
use Rattle.crossbeam_deque.specs.Handles.{worker_deque, stealer_deque}
use Rattle.ap_tools.specs.Ends.{AreSpare}
use Rattle.ap_tools.proofs.Closings.{forks_at}
use Rattle.ap_tools.proofs.deques.closing.tasks.Goals as goal

pub another-pass-requires : goal.another-pass-requires
another-pass-requires g c = forks_at _ _ (search rules) (search rules) (search rules)

pub invariant_of-thief : goal.invariant_of-thief
invariant_of-thief g c =
    let e : worker_deque c.another-pass.new.self ≡ stealer_deque c.in_ok-stealer.stealer = search rules in
    (search rules, search rules, search rules, subst (λ (d : RowsId × Global). AreSpare d c.cut_spare-deque.result.1.items) e c.cut_spare-deque.ensures.spare.0)
