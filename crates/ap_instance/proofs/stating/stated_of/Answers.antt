use Rattle.std.proofs.Common.{◌∙◌, ℕ, List, length, map, ap}
use Rattle.ap_defs.specs.declared.terms.Var.{Var}
use Rattle.ap_defs.specs.Answers.{answer_of, typed_var_of}
use Rattle.ap_defs.specs.Terms.{term_of, unit}
use Rattle.ap_defs.specs.Types.{constructor_of, locals_of}
use Rattle.ap_defs.specs.Typing.{embedded}
use Rattle.ap_instance.specs.Settled.{replaced, settled_name}
use Rattle.ap_instance.specs.Tables.{term_beside}
use Rattle.ap_property.specs.Stated.{given, picks_from}
use Rattle.ap_instance.proofs.StatingLemmas.{answer_stated, sorts_stated}
use Rattle.ap_instance.proofs.stating.stated_of.Goals as goal

pub returns : goal.returns
returns c =
    let locals = locals_of c.args.locals.now in
    let a = answer_of c.args.answer.now in
    let cs = map constructor_of c.args.picker.now.constructors.now in
    let n = c.in_ok-names.names in
    let k = c.in_ok-names.ensures in
    let g = term_beside c.in_ok-picks.picks.vars.keys c.in_ok-picks.picks.terms.items (λ y. unit) in
    let f = replaced (settled_name n.free n.first n.known.keys) g in
    let sorts = c.in_ok-sorts.ensures ∙ sorts_stated locals a n k in
    let picked = λ (m : ℕ) (ss : List ℕ). picks_from cs m a.vars ss in
    let table = λ (x : Var).
    c.in_ok-picks.ensures.terms x
    ∙ ap (λ vs. embedded (given (picks_from cs n.first (map typed_var_of vs) c.in_ok-sorts.sorts.items).0 x)) c.items.ensures
    ∙ ap (λ m. embedded (given (picked m c.in_ok-sorts.sorts.items).0 x)) k.first
    ∙ ap (λ ss. embedded (given (picked (length locals) ss).0 x)) sorts in
    record {
      terms = c.in_ok-terms.ensures ∙ ap (λ ts. map f (map term_of ts)) c.items-2.ensures ∙ answer_stated locals a n k g cs c.requires.inhabited table;
      sorts = c.in_ok-picks.ensures.sorts ∙ ap (λ vs. (picks_from cs n.first (map typed_var_of vs) c.in_ok-sorts.sorts.items).1) c.items.ensures ∙ ap (λ m. (picked m c.in_ok-sorts.sorts.items).1) k.first ∙ ap (λ ss. (picked (length locals) ss).1) sorts;
    }
