use Rattle.std.proofs.Common.{◌≡◌, true, false, List, subst, sym, arith}
use Rattle.ap_types.specs.declared.walking.Mark.{Mark}
use Rattle.ap_types.specs.Triangular.{shapes_of_nodes}
use Rattle.ap_types.specs.Walking.{is_left, walk_mark_at}
use Rattle.ap_types.proofs.TableLemmas.{length_table}
use Rattle.ap_types.proofs.WalkLemmas.{left_already, leaves_at_once}
use Rattle.ap_types.proofs.walking.explore.Goals as goal

pub returns-then-is_left-clause-left : goal.returns-then-is_left-clause-left
returns-then-is_left-clause-left c =
    let h : true ≡ is_left (walk_mark_at c.args.walk.now.marks.items c.args.start) = subst (λ (ms : List Mark). true ≡ is_left (walk_mark_at ms c.args.start)) c.as_slice-marks.ensures.value c.if-is_left.ensures in
    left_already (shapes_of_nodes c.args.nodes.now) c.args.walk.now.marks.items c.args.walk.now.order.items c.args.start c.requires.walk (sym h)

pub leave-requires : goal.leave-requires
leave-requires c = omega (arith, c.requires.within, c.requires.walk.as_long, length_table c.args.nodes.now)

pub returns-in_ok-leave-in-None-clause-left : goal.returns-in_ok-leave-in-None-clause-left
returns-in_ok-leave-in-None-clause-left c =
    let ms = c.args.walk.now.marks.items in
    let value = c.as_slice-marks.ensures.value in
    let h : false ≡ is_left (walk_mark_at ms c.args.start) = subst (λ (ns : List Mark). false ≡ is_left (walk_mark_at ns c.args.start)) value c.if-is_left.ensures in
    leaves_at_once (shapes_of_nodes c.args.nodes.now) ms c.leave.new.walk.marks.items c.args.walk.now.order.items c.leave.new.walk.order.items c.args.start c.requires.walk
    (omega (arith, c.requires.within, length_table c.args.nodes.now)) (sym h) (λ d p. subst (λ (ns : List Mark). is_left (walk_mark_at ns d) ≡ true) value (c.in-None.ensures d p))
    c.in_ok-leave-in-None.ensures.marks c.in_ok-leave-in-None.ensures.order
