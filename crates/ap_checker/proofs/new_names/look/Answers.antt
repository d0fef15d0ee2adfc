use Rattle.std.proofs.Common.{◌&&◌, ◌++◌, [], ◌∷◌, length, sym, ap, ◌∙◌, arith}
use Rattle.ap_defs.specs.declared.terms.Id.TheVariants as ids
use Rattle.ap_defs.specs.Goals.{goal_of}
use Rattle.ap_defs.specs.Occurrences.{free_names, free_vars}
use Rattle.ap_checker.specs.declared.new_names.Part.{Part}
use Rattle.ap_checker.specs.NewNames.{goal_size, is_new_inside, mark_of_part, size_of_part}
use Rattle.ap_sides.specs.Brought.{are_apart, are_fresh}
use Rattle.ap_judge.specs.Scopes.{environment_of}
use Rattle.ap_checker.proofs.NewNameLemmas.{inside_exists, inside_new}
use Rattle.ap_judge.proofs.StackLemmas.{left_brought}
use Rattle.ap_checker.proofs.new_names.look.Goals as goal

pub returns-in_ok-put-in-Exists : goal.returns-in_ok-put-in-Exists
returns-in_ok-put-in-Exists c =
    let ds = c.args.answer.now.conds in
    let e = environment_of c.args.scope.now in
    let bs = c.args.parts.now.brought.items in
    let what = ids.Var c.in-Exists.x in
    let inner = c.in-Exists.inner.value in
    let next : Part = record { goal = c.deref-in-Exists.result; mark = length c.bring.new.self.brought.items } in
    let whole = ap (λ g. goal_size (goal_of g)) c.in-Exists.is in
    let part = ap (λ g. goal_size (goal_of g)) c.deref-in-Exists.ensures in
    left_brought mark_of_part (is_new_inside ds c.args.c e) size_of_part c.args.at next what bs c.put.new.self.brought.items c.args.parts.now.pending.items c.put.new.self.pending.items c.requires
    (c.put.ensures.brought ∙ c.in_ok-bring-in-Exists.ensures.brought) (ap length (sym c.put.ensures.brought))
    (c.in_ok-put-in-Exists.ensures.pending ∙ ap (λ zs. zs ++ next ∷ []) c.bring.ensures.pending)
    (ap (λ g. are_apart c.args.c e bs (free_names (goal_of g)) && are_fresh ds c.args.c e bs (free_vars (goal_of g))) c.in-Exists.is
    ∙ inside_exists ds c.args.c e bs c.in-Exists.x (free_names (goal_of inner)) (free_vars (goal_of inner))
    ∙ ap (λ g. are_apart c.args.c e (bs ++ what ∷ []) (free_names (goal_of g)) && are_fresh ds c.args.c e (bs ++ what ∷ []) (free_vars (goal_of g))) (sym c.deref-in-Exists.ensures))
    (omega (arith, whole, part))

pub returns-in_ok-put-in-New : goal.returns-in_ok-put-in-New
returns-in_ok-put-in-New c =
    let ds = c.args.answer.now.conds in
    let e = environment_of c.args.scope.now in
    let bs = c.args.parts.now.brought.items in
    let what = ids.Name c.in-New.a in
    let inner = c.in-New.inner.value in
    let next : Part = record { goal = c.deref-in-New.result; mark = length c.bring-in-New.new.self.brought.items } in
    let whole = ap (λ g. goal_size (goal_of g)) c.in-New.is in
    let part = ap (λ g. goal_size (goal_of g)) c.deref-in-New.ensures in
    left_brought mark_of_part (is_new_inside ds c.args.c e) size_of_part c.args.at next what bs c.put-in-New.new.self.brought.items c.args.parts.now.pending.items c.put-in-New.new.self.pending.items c.requires
    (c.put-in-New.ensures.brought ∙ c.in_ok-bring-in-New.ensures.brought) (ap length (sym c.put-in-New.ensures.brought))
    (c.in_ok-put-in-New.ensures.pending ∙ ap (λ zs. zs ++ next ∷ []) c.bring-in-New.ensures.pending)
    (ap (λ g. are_apart c.args.c e bs (free_names (goal_of g)) && are_fresh ds c.args.c e bs (free_vars (goal_of g))) c.in-New.is
    ∙ inside_new ds c.args.c e bs c.in-New.a (free_names (goal_of inner)) (free_vars (goal_of inner))
    ∙ ap (λ g. are_apart c.args.c e (bs ++ what ∷ []) (free_names (goal_of g)) && are_fresh ds c.args.c e (bs ++ what ∷ []) (free_vars (goal_of g))) (sym c.deref-in-New.ensures))
    (omega (arith, whole, part))
