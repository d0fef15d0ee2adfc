use Rattle.std.proofs.Common.{◌∙◌, length, map, sym, ap}
use Rattle.ap_defs.specs.Occurrences.{names_of_terms}
use Rattle.ap_defs.specs.Renaming.{local_names}
use Rattle.ap_defs.specs.Terms.{term_of}
use Rattle.ap_defs.specs.Types.{local_of, locals_of}
use Rattle.std.proofs.lemmas.List.{length-map}
use Rattle.ap_answers.specs.Occurring.{more_names}
use Rattle.ap_answers.proofs.OccurrenceLemmas.{more_names_append}
use Rattle.ap_instance.specs.Settled.{name_of_cond}
use Rattle.ap_instance.proofs.names.names_of_answer.Goals as goal

pub returns : goal.returns
returns c =
    let free = local_names 0 (locals_of c.args.locals.now) in
    let xs = names_of_terms (map term_of c.args.answer.now.binds) in
    let ys = map name_of_cond c.args.answer.now.conds in
    let a = c.in_ok-known.ensures in
    let b = c.in_ok-add_names_of_terms.ensures in
    let d = c.in_ok-add_names_of_conds.ensures in
    let all = d ∙ ap (λ ks. more_names ks (map name_of_cond c.items-2.result.now)) (b ∙ ap (λ ks. more_names ks (names_of_terms (map term_of c.items.result.now))) a) in
    let lists = ap (λ l. more_names (more_names free (names_of_terms (map term_of c.items.result.now))) (map name_of_cond l)) c.items-2.ensures
    ∙ ap (λ l. more_names (more_names free (names_of_terms (map term_of l))) ys) c.items.ensures in
    record { known = all ∙ lists ∙ sym (more_names_append free xs ys); free = c.len-free.ensures.len ∙ ap length a; first = sym (length-map c.args.locals.now local_of) }
