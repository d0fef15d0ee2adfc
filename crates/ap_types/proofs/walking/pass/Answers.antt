use Rattle.std.proofs.Common.{◌≡◌, ◌++◌, ◌∷◌, [], ◌∙◌, true, false, List, ℕ, subst, sym, ap, arith}
use Rattle.ap_types.specs.declared.walking.Mark.{Mark}
use Rattle.ap_types.specs.Triangular.{shapes_of_nodes}
use Rattle.ap_types.specs.Walking.{is_left, is_unvisited, walk_mark_at}
use Rattle.ap_types.proofs.TableLemmas.{length_table}
use Rattle.ap_types.proofs.WalkLemmas.{last_within, passes_left, passes_back, part_within, passes_on, refuses, passes_as}
use Rattle.ap_types.proofs.walking.pass.Goals as goal

pub returns-then-is_left-clause-ok : goal.returns-then-is_left-clause-ok
returns-then-is_left-clause-ok c =
    let h : true ≡ is_left (walk_mark_at c.args.walk.now.marks.items c.args.last) = subst (λ (ms : List Mark). true ≡ is_left (walk_mark_at ms c.args.last)) c.as_slice-marks.ensures.value c.if-is_left.ensures in
    passes_left (shapes_of_nodes c.args.nodes.now) c.args.walk.now.marks.items c.args.walk.now.order.items c.args.walk.now.path.items c.args.last c.requires.walk (sym h)

pub waiting_part-requires : goal.waiting_part-requires
waiting_part-requires c =
    let l = last_within (shapes_of_nodes c.args.nodes.now) c.args.walk.now.marks.items c.args.walk.now.order.items c.args.walk.now.path.items c.args.last c.requires.walk in
    omega (arith, l, length_table c.args.nodes.now)

pub leave-requires : goal.leave-requires
leave-requires c =
    let l = last_within (shapes_of_nodes c.args.nodes.now) c.args.walk.now.marks.items c.args.walk.now.order.items c.args.walk.now.path.items c.args.last c.requires.walk in
    let m = c.requires.walk.as_long in
    omega (arith, l, m)

pub returns-then-not-is_new-clause-clash : goal.returns-then-not-is_new-clause-clash
returns-then-not-is_new-clause-clash c = λ e.
    let ms = c.args.walk.now.marks.items in
    let value = c.as_slice-marks.ensures.value in
    let fresh : is_unvisited (walk_mark_at ms c.in-Some.c) ≡ false =
    subst (λ (ns : List Mark). is_unvisited (walk_mark_at ns c.in-Some.c) ≡ false) value (sym c.if-not-is_new.ensures) in
    refuses (shapes_of_nodes c.args.nodes.now) ms c.args.walk.now.order.items c.args.walk.now.path.items c.args.last c.requires.walk c.in-Some.c c.requires.formed c.in-Some.ensures.0
    (subst (λ (ns : List Mark). is_left (walk_mark_at ns c.in-Some.c) ≡ false) value c.in-Some.ensures.1) fresh

pub enter-requires : goal.enter-requires
enter-requires c =
    let ms = c.args.walk.now.marks.items in
    let value = c.as_slice-marks.ensures.value in
    let fresh : is_unvisited (walk_mark_at ms c.in-Some.c) ≡ true =
    subst (λ (ns : List Mark). is_unvisited (walk_mark_at ns c.in-Some.c) ≡ true) value (sym c.if-not-is_new.ensures) in
    part_within (shapes_of_nodes c.args.nodes.now) ms c.args.walk.now.order.items c.args.walk.now.path.items c.args.last c.requires.walk c.in-Some.c c.requires.formed c.in-Some.ensures.0 fresh

pub returns-in_ok-leave-in-None-clause-ok : goal.returns-in_ok-leave-in-None-clause-ok
returns-in_ok-leave-in-None-clause-ok c =
    let ms = c.args.walk.now.marks.items in
    let ts = shapes_of_nodes c.args.nodes.now in
    let value = c.as_slice-marks.ensures.value in
    let l = last_within ts ms c.args.walk.now.order.items c.args.walk.now.path.items c.args.last c.requires.walk in
    let m = c.requires.walk.as_long in
    let h : false ≡ is_left (walk_mark_at ms c.args.last) = subst (λ (ns : List Mark). false ≡ is_left (walk_mark_at ns c.args.last)) value c.if-is_left.ensures in
    passes_as ts ms (c.args.walk.now.path.items ++ c.args.last ∷ []) c.leave.new.walk.marks.items c.leave.new.walk.order.items c.leave.new.walk.path.items
    c.in_ok-leave-in-None.ensures.marks c.in_ok-leave-in-None.ensures.order c.in_ok-leave-in-None.ensures.path
    (passes_back ts ms c.args.walk.now.order.items c.args.walk.now.path.items c.args.last c.requires.walk (sym h) (omega (arith, l, m))
    (λ d p. subst (λ (ns : List Mark). is_left (walk_mark_at ns d) ≡ true) value (c.in-None.ensures d p)))

pub returns-in_ok-enter-in-Some-clause-ok : goal.returns-in_ok-enter-in-Some-clause-ok
returns-in_ok-enter-in-Some-clause-ok c =
    let ms = c.args.walk.now.marks.items in
    let ts = shapes_of_nodes c.args.nodes.now in
    let value = c.as_slice-marks.ensures.value in
    let fresh : is_unvisited (walk_mark_at ms c.in-Some.c) ≡ true =
    subst (λ (ns : List Mark). is_unvisited (walk_mark_at ns c.in-Some.c) ≡ true) value (sym c.if-not-is_new.ensures) in
    passes_as ts ms (c.args.walk.now.path.items ++ c.args.last ∷ []) c.enter.new.walk.marks.items c.enter.new.walk.order.items c.enter.new.walk.path.items
    c.in_ok-enter-in-Some.ensures.marks c.in_ok-enter-in-Some.ensures.order
    (c.in_ok-enter-in-Some.ensures.path ∙ ap (λ (xs : List ℕ). xs ++ c.in-Some.c ∷ []) c.in_ok-push-in-Some.ensures.items)
    (passes_on ts ms c.args.walk.now.order.items c.args.walk.now.path.items c.args.last c.requires.walk c.in-Some.c c.requires.formed c.in-Some.ensures.0 fresh)
