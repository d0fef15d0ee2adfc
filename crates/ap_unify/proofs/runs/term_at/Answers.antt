use Rattle.std.proofs.Common.{◌<◌, ◌+◌, ◌∷◌, ap, drop, length, sym, ◌∙◌, arith}
use Rattle.std.proofs.lemmas.List.{drop_more}
use Rattle.ap_defs.specs.Renaming.{rename_term}
use Rattle.ap_defs.specs.Terms.{NominalTerm, term_of}
use Rattle.ap_rules.proofs.WorkLemmas.{term_at_place, term_below_at, terms_length}
use Rattle.ap_unify.proofs.runs.term_at.Goals as goal
use Rattle.ap_unify.specs.Lists.{renamed_terms_in}

pub returns-clause-term : goal.returns-clause-term
returns-clause-term c =
    let ts = c.args.terms in
    let i = c.args.i in
    let d = c.index-terms-i.result in
    let l : i < length (renamed_terms_in ts) = omega (arith, c.requires.place, terms_length ts.base ts.terms.now) in
    drop_more (renamed_terms_in ts) i (rename_term ts.base (term_of d)) l
    ∙ ap (λ (t : NominalTerm). t ∷ drop (i + 1) (renamed_terms_in ts)) (sym (term_at_place ts.base ts.terms.now i d c.requires.place))

pub invariant_of-result : goal.invariant_of-result
invariant_of-result c =
    let ts = c.args.terms in
    record { below = term_below_at ts.end ts.base ts.terms.now c.args.i c.index-terms-i.result c.requires.place c.requires.below }
