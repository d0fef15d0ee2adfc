use Rattle.std.proofs.Common.{◌≡◌, ◌<◌, ◌+◌, List, length, get_or, take, drop, sym, ap, ◌∙◌, subst, arith}
use Rattle.std.proofs.lemmas.Iterator.Adapters.{YieldsList-from_vec}
use Rattle.std.proofs.lemmas.Iterator.Consumers.{YieldsList-turn, YieldsList-end}
use Rattle.std.proofs.lemmas.List.{length_push, take_all}
use Rattle.ap_trees.specs.Trees.{items_of_text}
use Rattle.ap_trees.specs.declared.trees.Item.{Item}
use Rattle.ap_typecheck.specs.Typings.{IsTypingOf}
use Rattle.ap_typecheck.specs.Views.{IsRefusedByTypes}
use Rattle.ap_typecheck.proofs.Steps.{around, taken}
use Rattle.ap_whole.proofs.checking.check_items.Goals as goal

pub returns-in-Err-clause-err : goal.returns-in-Err-clause-err
returns-in-Err-clause-err c =
    let items = c.args.items.items in
    let at = length c.loop-item.yielded in
    let t = YieldsList-turn (YieldsList-from_vec {s = c.into_iter-item-iterator.result} items c.into_iter-item-iterator.ensures.into_iter_gives.0 (c.into_iter-item-iterator.ensures.into_iter_gives.1 ∙ c.args.items.ok.0)) c.loop-item.yielded c.loop-item.item-iterator c.loop-item.yielded_by c.next.result c.next.new.self c.in-Some.item c.in-Some.is c.next.ensures.steps in
    subst (IsRefusedByTypes c.in-Err.error) (around items at c.in-Some.item t.0 t.1)
    (c.in-Err.ensures.fault (items_of_text (take at items)) (items_of_text (drop (at + 1) items)) c.loop-item.invariant)

pub loop-item-preserved : goal.loop-item-preserved
loop-item-preserved c =
    let items = c.args.items.items in
    let at = length c.loop-item.yielded in
    let t = YieldsList-turn (YieldsList-from_vec {s = c.into_iter-item-iterator.result} items c.into_iter-item-iterator.ensures.into_iter_gives.0 (c.into_iter-item-iterator.ensures.into_iter_gives.1 ∙ c.args.items.ok.0)) c.loop-item.yielded c.loop-item.item-iterator c.loop-item.yielded_by c.next.result c.next.new.self c.in-Some.item c.in-Some.is c.next.ensures.steps in
    subst (λ is. IsTypingOf is c.add.new.self)
    (sym (ap (λ n. items_of_text (take n items)) (length_push c.loop-item.yielded c.in-Some.item) ∙ taken items at c.in-Some.item t.0 t.1))
    (c.in-Ok.ensures.made (items_of_text (take at items)) c.loop-item.invariant)

pub returns-clause-made : goal.returns-clause-made
returns-clause-made c =
    let items = c.args.items.items in
    let e = YieldsList-end (YieldsList-from_vec {s = c.into_iter-item-iterator.result} items c.into_iter-item-iterator.ensures.into_iter_gives.0 (c.into_iter-item-iterator.ensures.into_iter_gives.1 ∙ c.args.items.ok.0)) c.loop-item.yielded c.loop-item.item-iterator c.loop-item.yielded_by c.next.result c.next.new.self c.in-None.is c.next.ensures.steps in
    subst (λ (xs : List Item). IsTypingOf (items_of_text xs) c.loop-item.typing) (take_all (length c.loop-item.yielded) items (omega (arith, e.1))) c.loop-item.invariant
