use Rattle.std.proofs.Common.{◌≡◌, ◌+◌, ◌++◌, ◌∷◌, [], Some, vec_len, arith, sym, ◌∙◌, ap}
use Rattle.std.proofs.lemmas.List.{map-append, length-map}
use Rattle.std.proofs.lemmas.Result.{err_from_is_err_and}
use Rattle.ap_trees.specs.Readers.{after_comma}
use Rattle.ap_trees.specs.Symbols.{syms, sym as symbol}
use Rattle.ap_trees.specs.TermReader.{read_term, before_close, before_close_list}
use Rattle.ap_trees.specs.Trees.{term_of, trees_of, name_of_binder}
use Rattle.ap_trees.proofs.Lists.{separated_first, further_on, further_fails, separated_fails, fails_on, gives_as, gives_ok}
use Rattle.ap_trees.proofs.TermLaws.{term_shorter, terms_shorter}
use Rattle.ap_trees.proofs.TermSteps as steps
use Rattle.ap_trees.proofs.terms.+terms.Goals as goal

pub variable-returns-in-Some : goal.variable-returns-in-Some
variable-returns-in-Some t c = gives_as _ c.abstraction.result _ _ c.abstraction.ensures (steps.variable_under (read_term c.args.levels) c.args.word.now _ _ (sym c.in-Some.ensures.value))

pub variable-returns-in-None : goal.variable-returns-in-None
variable-returns-in-None t c = steps.variable_alone (read_term c.args.levels) c.args.word.now _ (sym c.in-None.ensures.value)

pub word_term-returns-in-Some : goal.word_term-returns-in-Some
word_term-returns-in-Some t c = gives_as _ c.abstraction.result _ _ c.abstraction.ensures (steps.word_under (read_term c.args.levels) c.args.word.now _ _ (sym c.in-Some.ensures.value))

pub word_term-returns-in-Some-after_open : goal.word_term-returns-in-Some-after_open
word_term-returns-in-Some-after_open t c =
    gives_as _ c.application.result _ _ c.application.ensures (steps.word_applied (read_term c.args.levels) c.args.word.now _ _ (sym c.in-None.ensures.value) (sym c.in-Some-after_open.ensures.value))

pub word_term-returns-in-None-after_open : goal.word_term-returns-in-None-after_open
word_term-returns-in-None-after_open t c = steps.word_alone (read_term c.args.levels) c.args.word.now _ (sym c.in-None.ensures.value) (sym c.in-None-after_open.ensures.value)

pub abstraction-returns-in_err-body : goal.abstraction-returns-in_err-body
abstraction-returns-in_err-body t c =
    let p = err_from_is_err_and c.from_residual.result c.from_residual.ensures.1 in
    rw (p.1, p.2) (fails_on c.in_err-body.field-0.0 _ _ (steps.abstraction_fails (read_term c.args.levels) (name_of_binder c.args.binder) (syms c.args.symbols.now)) c.in_err-body.ensures)

pub abstraction-returns : goal.abstraction-returns
abstraction-returns t c =
    rw c.in_ok-whole.ensures (steps.abstraction_gives (read_term c.args.levels) (name_of_binder c.args.binder) (syms c.args.symbols.now) _ _ c.in_ok-body.ensures)

pub longer_application-returns-in_err-parts : goal.longer_application-returns-in_err-parts
longer_application-returns-in_err-parts t c =
    let p = err_from_is_err_and c.from_residual.result c.from_residual.ensures.1 in
    rw (p.1, p.2) (fails_on c.in_err-parts.field-0.0 _ _ (steps.no_arguments (read_term c.args.levels) c.args.word.now c.args.symbols.now) c.in_err-parts.ensures)

pub longer_application-returns : goal.longer_application-returns
longer_application-returns t c =
    gives_as _ c.closed.result _ _ c.closed.ensures
    (steps.some_arguments (read_term c.args.levels) c.args.word.now c.args.symbols.now _ _ c.in_ok-parts.ensures ∙ ap (λ whole. before_close whole (syms c.in_ok-parts.rest.now)) (sym c.in_ok-whole.ensures))

pub application-returns-in_err-first : goal.application-returns-in_err-first
application-returns-in_err-first t c =
    let p = err_from_is_err_and c.from_residual.result c.from_residual.ensures.1 in
    rw (p.1, p.2) (fails_on c.in_err-first.field-0.0 _ _ (steps.no_argument (read_term c.args.levels) c.args.word.now (syms c.args.symbols.now)) c.in_err-first.ensures)

pub application-returns-in-Some : goal.application-returns-in-Some
application-returns-in-Some t c = c.longer_application.ensures

pub application-returns-in-None : goal.application-returns-in-None
application-returns-in-None t c =
    let shorter = term_shorter c.args.levels c.args.symbols.now _ _ c.in_ok-first.ensures in
    gives_as _ c.sole_application.result _ _ c.sole_application.ensures
    (steps.one_argument (read_term c.args.levels) c.args.word.now _ _ _ (omega (arith, shorter, length-map c.args.symbols.now symbol)) c.in_ok-first.ensures (sym c.in-None.ensures.value))

pub group-returns-in-Some : goal.group-returns-in-Some
group-returns-in-Some t c = steps.group_empty (read_term c.args.levels) _ _ (sym c.in-Some.ensures.value)

pub group-returns-in_err-parts-in-None : goal.group-returns-in_err-parts-in-None
group-returns-in_err-parts-in-None t c =
    let p = err_from_is_err_and c.from_residual.result c.from_residual.ensures.1 in
    rw (p.1, p.2) (fails_on c.in_err-parts-in-None.field-0.0 _ _ (steps.group_fails (read_term c.args.levels) c.args.symbols.now (sym c.in-None.ensures.value)) c.in_err-parts-in-None.ensures.value)

pub group-returns-in_ok-whole-in-None : goal.group-returns-in_ok-whole-in-None
group-returns-in_ok-whole-in-None t c =
    gives_as _ c.closed.result _ _ c.closed.ensures
    (steps.group_gives (read_term c.args.levels) c.args.symbols.now _ _ (sym c.in-None.ensures.value) c.in_ok-parts-in-None.ensures.value ∙ ap (λ whole. before_close whole (syms c.in_ok-parts-in-None.rest.now)) (sym c.in_ok-whole-in-None.ensures))

pub list-returns-in-Some : goal.list-returns-in-Some
list-returns-in-Some t c = steps.list_empty (read_term c.args.levels) _ _ (sym c.in-Some.ensures.value)

pub list-returns-in-None : goal.list-returns-in-None
list-returns-in-None t c = gives_as _ c.full_list.result _ _ c.full_list.ensures (steps.list_full (read_term c.args.levels) (syms c.args.symbols.now) (sym c.in-None.ensures.value))

pub full_list-returns-in_err-first : goal.full_list-returns-in_err-first
full_list-returns-in_err-first t c =
    let p = err_from_is_err_and c.from_residual.result c.from_residual.ensures.1 in
    rw (p.1, p.2) (fails_on c.in_err-first.field-0.0 _ _ (steps.full_none (read_term c.args.levels) (syms c.args.symbols.now)) c.in_err-first.ensures)

pub full_list-returns-in_ok-whole-in-Some : goal.full_list-returns-in_ok-whole-in-Some
full_list-returns-in_ok-whole-in-Some t c =
    let shorter = term_shorter c.args.levels c.args.symbols.now _ _ c.in_ok-first.ensures in
    rw c.in_ok-whole-in-Some.ensures (steps.full_alone (read_term c.args.levels) (syms c.args.symbols.now) _ _ _ (omega (arith, shorter, length-map c.args.symbols.now symbol)) c.in_ok-first.ensures (sym c.in-Some.ensures.value))

pub full_list-returns-in-None : goal.full_list-returns-in-None
full_list-returns-in-None t c = c.longer_list.ensures

pub longer_list-returns-in_err-parts : goal.longer_list-returns-in_err-parts
longer_list-returns-in_err-parts t c =
    let p = err_from_is_err_and c.from_residual.result c.from_residual.ensures.1 in
    rw (p.1, p.2) (fails_on c.in_err-parts.field-0.0 _ _ (steps.full_fails (read_term c.args.levels) c.args.symbols.now) c.in_err-parts.ensures)

pub longer_list-returns-in_err-end : goal.longer_list-returns-in_err-end
longer_list-returns-in_err-end t c =
    let p = err_from_is_err_and c.from_residual-in_err-end.result c.from_residual-in_err-end.ensures.1 in
    rw (p.1, p.2) (fails_on c.in_err-end.field-0.0 _ _ (steps.full_endless (read_term c.args.levels) c.args.symbols.now _ _ c.in_ok-parts.ensures) c.in_err-end.ensures)

pub longer_list-returns : goal.longer_list-returns
longer_list-returns t c =
    gives_as _ c.closed_list.result _ _ c.closed_list.ensures
    (steps.full_gives (read_term c.args.levels) c.args.symbols.now _ _ _ _ c.in_ok-parts.ensures c.in_ok-end.ensures ∙ ap (λ whole. before_close_list whole (syms c.in_ok-end.rest.now)) (sym c.in_ok-whole.ensures))

pub list_end-returns-in-Some : goal.list_end-returns-in-Some
list_end-returns-in-Some t c = gives_as _ c.any_term.result _ _ c.any_term.ensures (steps.end_behind (read_term c.args.levels) (syms c.args.symbols.now) _ (sym c.in-Some.ensures.value))

pub list_end-returns-in-None : goal.list_end-returns-in-None
list_end-returns-in-None t c = steps.end_absent (read_term c.args.levels) _ (sym c.in-None.ensures.value)

pub swapped-returns-in_err-body : goal.swapped-returns-in_err-body
swapped-returns-in_err-body t c =
    let p = err_from_is_err_and c.from_residual.result c.from_residual.ensures.1 in
    rw (p.1, p.2) (fails_on c.in_err-body.field-0.0 _ _ (steps.swapped_fails (read_term c.args.levels) (syms c.args.symbols.now) _ _ (sym c.in-Some.ensures)) c.in_err-body.ensures)

pub swapped-returns : goal.swapped-returns
swapped-returns t c =
    gives_as _ c.closed.result _ _ c.closed.ensures
    (steps.swapped_gives (read_term c.args.levels) (syms c.args.symbols.now) _ _ _ _ (sym c.in-Some.ensures) c.in_ok-body.ensures ∙ ap (λ whole. before_close whole (syms c.in_ok-body.rest.now)) (sym c.in_ok-whole.ensures))

pub term_list-returns-in_err-first-clause-value : goal.term_list-returns-in_err-first-clause-value
term_list-returns-in_err-first-clause-value t c =
    let p = err_from_is_err_and c.from_residual.result c.from_residual.ensures.1 in
    rw (p.1, p.2) (fails_on c.in_err-first.field-0.0 _ _ (separated_fails _ _ _ _) c.in_err-first.ensures)

pub term_list-returns-clause-value : goal.term_list-returns-clause-value
term_list-returns-clause-value t c = c.further_terms.ensures

pub term_list-returns-clause-shorter : goal.term_list-returns-clause-shorter
term_list-returns-clause-shorter t c = gives_ok _ _ c.further_terms.result _ c.further_terms.ensures (λ x e. terms_shorter c.args.levels _ c.args.symbols.now _ _ e)

pub further_terms-loop-after-init : goal.further_terms-loop-after-init
further_terms-loop-after-init t c =
    let all = c.in_ok-all.all in
    let items : trees_of all.items ≡ term_of c.args.first ∷ [] = ap trees_of c.in_ok-all.ensures.first in
    let one : vec_len all ≡ 1 = c.in_ok-all.ensures.one in
    let behind = c.in_ok-all.ensures.behind in
    let shorter = term_shorter c.args.levels c.args.symbols.now c.args.after.now _ c.requires in
    record {
      read = rw (items, behind) (separated_first after_comma (read_term c.args.levels) _ _ _ _ _ (omega arith) c.requires);
      enough = rw behind (omega arith);
      some = rw behind shorter;
    }

pub further_terms-returns-in_err-next : goal.further_terms-returns-in_err-next
further_terms-returns-in_err-next t c =
    let p = err_from_is_err_and c.from_residual-in_err-next.result c.from_residual-in_err-next.ensures.1 in
    let comma : after_comma (syms c.loop-after.rest.now) ≡ Some (syms c.in-Some.after.now) = sym c.in-Some.ensures.value in
    rw (p.1, p.2) (fails_on c.in_err-next.field-0.0 _ _ (λ none. sym c.loop-after.invariant.read ∙ further_fails after_comma (read_term c.args.levels) _ _ _ _ comma none) c.in_err-next.ensures)

pub further_terms-loop-after-smaller : goal.further_terms-loop-after-smaller
further_terms-loop-after-smaller t c =
    let first = c.in-Some.ensures.shorter in
    let second = term_shorter c.args.levels _ _ _ c.in_ok-next.ensures in
    omega arith

pub further_terms-loop-after-preserved : goal.further_terms-loop-after-preserved
further_terms-loop-after-preserved t c =
    let items : trees_of c.push.new.self.items ≡ trees_of c.loop-after.all.items ++ term_of c.in_ok-next.next ∷ [] =
    ap trees_of c.in_ok-push.ensures.items ∙ map-append term_of c.loop-after.all.items (c.in_ok-next.next ∷ []) in
    let comma : after_comma (syms c.loop-after.rest.now) ≡ Some (syms c.in-Some.after.now) = sym c.in-Some.ensures.value in
    let more : vec_len c.push.new.self ≡ vec_len c.loop-after.all + 1 = c.in_ok-push.ensures.len in
    let first = c.in-Some.ensures.shorter in
    let second = term_shorter c.args.levels _ _ _ c.in_ok-next.ensures in
    record {
      read = rw items (further_on after_comma (read_term c.args.levels) _ _ _ _ _ _ _ (omega arith) comma c.in_ok-next.ensures ∙ c.loop-after.invariant.read);
      enough = omega arith;
      some = omega arith;
    }
