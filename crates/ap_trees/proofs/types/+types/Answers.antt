use Rattle.std.proofs.Common.{◌≡◌, ◌+◌, ◌++◌, ◌∷◌, [], Some, vec_len, arith, sym, ◌∙◌, ap, refl}
use Rattle.std.proofs.lemmas.List.{map-append}
use Rattle.std.proofs.lemmas.Result.{err_from_is_err_and}
use Rattle.ap_trees.specs.Readers.{after_comma}
use Rattle.ap_trees.specs.Symbols.{syms}
use Rattle.ap_trees.specs.Trees.{type_of_tree, types_of}
use Rattle.ap_trees.specs.TypeReader.{read_type}
use Rattle.ap_trees.proofs.Lists.{separated_first, further_on, further_fails, separated_fails, fails_on}
use Rattle.ap_trees.proofs.TypeLaws.{type_shorter}
use Rattle.ap_trees.proofs.types.+types.Goals as goal

pub type_list-returns-in_err-first-clause-value : goal.type_list-returns-in_err-first-clause-value
type_list-returns-in_err-first-clause-value t c =
    let p = err_from_is_err_and c.from_residual.result c.from_residual.ensures.1 in
    rw (p.1, p.2) (fails_on c.in_err-first.field-0.0 _ _ (separated_fails _ _ _ _) c.in_err-first.ensures)

pub type_list-loop-after-init : goal.type_list-loop-after-init
type_list-loop-after-init t c =
    let items : types_of c.push.new.self.items ≡ type_of_tree c.in_ok-first.first ∷ [] = rw (c.in_ok-push.ensures.items, c.new-all.ensures.items) refl in
    let one : vec_len c.push.new.self ≡ 1 = omega (arith, c.in_ok-push.ensures.len, c.new-all.ensures.len) in
    let shorter = type_shorter c.args.levels c.args.symbols.now _ _ c.in_ok-first.ensures in
    record {
      read = rw items (separated_first after_comma (read_type c.args.levels) _ _ _ _ _ (omega arith) c.in_ok-first.ensures);
      enough = omega arith;
      some = shorter;
    }

pub type_list-returns-in_err-next-clause-value : goal.type_list-returns-in_err-next-clause-value
type_list-returns-in_err-next-clause-value t c =
    let p = err_from_is_err_and c.from_residual-in_err-next.result c.from_residual-in_err-next.ensures.1 in
    let comma : after_comma (syms c.loop-after.rest.now) ≡ Some (syms c.in-Some.after.now) = sym c.in-Some.ensures.value in
    rw (p.1, p.2) (fails_on c.in_err-next.field-0.0 _ _ (λ none. sym c.loop-after.invariant.read ∙ further_fails after_comma (read_type c.args.levels) _ _ _ _ comma none) c.in_err-next.ensures)

pub type_list-loop-after-preserved : goal.type_list-loop-after-preserved
type_list-loop-after-preserved t c =
    let items : types_of c.push-in-Some.new.self.items ≡ types_of c.loop-after.all.items ++ type_of_tree c.in_ok-next.next ∷ [] =
    ap types_of c.in_ok-push-2.ensures.items ∙ map-append type_of_tree c.loop-after.all.items (c.in_ok-next.next ∷ []) in
    let comma : after_comma (syms c.loop-after.rest.now) ≡ Some (syms c.in-Some.after.now) = sym c.in-Some.ensures.value in
    let more : vec_len c.push-in-Some.new.self ≡ vec_len c.loop-after.all + 1 = c.in_ok-push-2.ensures.len in
    let first = c.in-Some.ensures.shorter in
    let second = type_shorter c.args.levels _ _ _ c.in_ok-next.ensures in
    record {
      read = rw items (further_on after_comma (read_type c.args.levels) _ _ _ _ _ _ _ (omega arith) comma c.in_ok-next.ensures ∙ c.loop-after.invariant.read);
      enough = omega arith;
      some = omega arith;
    }

pub type_list-loop-after-smaller : goal.type_list-loop-after-smaller
type_list-loop-after-smaller t c =
    let first = c.in-Some.ensures.shorter in
    let second = type_shorter c.args.levels _ _ _ c.in_ok-next.ensures in
    omega arith
