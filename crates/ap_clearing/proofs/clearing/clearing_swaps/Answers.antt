use Rattle.std.proofs.Common.{◌∙◌, List, map, ap}
use Rattle.std.proofs.lemmas.Result.{IfOk-weaker}
use Rattle.ap_answers.specs.Occurring.{more_names}
use Rattle.ap_defs.specs.declared.terms.Name.{Name}
use Rattle.ap_defs.specs.Answers.{answer_of}
use Rattle.ap_defs.specs.Occurrences.{names_of_terms}
use Rattle.ap_defs.specs.Terms.{term_of}
use Rattle.ap_defs.specs.Types.{locals_of}
use Rattle.ap_clearing.specs.Clearing.{Clears, in_the_way, used_names}
use Rattle.ap_clearing.proofs.ClearsLemmas.{clears_known}
use Rattle.ap_clearing.proofs.clearing.clearing_swaps.Goals as goal

pub returns : goal.returns
returns c =
    let locals = locals_of c.args.locals.now in
    let a = answer_of c.args.answer.now in
    let ts = map term_of c.args.terms.now in
    let n = c.in_ok-names.names in
    let used = c.add_names_of_terms-2.new.names.keys in
    let there = c.add_names_of_terms.new.names.keys in
    let found = c.deref.result.now in
    IfOk-weaker c.exchanges.result (λ v. Clears used found v.items) (λ v. Clears (used_names locals a ts) (in_the_way locals a ts) v.items)
    (λ v h.
    clears_known locals a ts n.known.keys there used found n.free c.in_ok-names.ensures.known c.in_ok-names.ensures.free
    (c.in_ok-add_names_of_terms.ensures ∙ ap (λ (ks : List Name). more_names ks (names_of_terms ts)) c.new-there.ensures.empty)
    (c.deref.ensures.value ∙ c.in_ok-found.ensures) c.in_ok-add_names_of_terms-2.ensures v.items h)
    c.exchanges.ensures
