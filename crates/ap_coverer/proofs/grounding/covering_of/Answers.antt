use Rattle.std.proofs.Common.{◌≡◌, ◌∙◌, List, map, ap, ap₂, subst}
use Rattle.ap_cover.specs.Ground.{ground_terms}
use Rattle.ap_cover.specs.Matched.{given_by, matched_each}
use Rattle.ap_cover.specs.StatementsOnMatching.{matched_with}
use Rattle.ap_defs.specs.declared.terms.Swap.{Swap}
use Rattle.ap_defs.specs.declared.terms.Term.{Term}
use Rattle.ap_defs.specs.declared.terms.Ty.{Ty}
use Rattle.ap_defs.specs.declared.terms.Var.{Var}
use Rattle.ap_defs.specs.Answers.{answer_of, typed_var_of}
use Rattle.ap_defs.specs.Groundings.{Grounding}
use Rattle.ap_defs.specs.Renaming.{replace_names}
use Rattle.ap_defs.specs.Terms.{NominalTerm, term_of, unit}
use Rattle.ap_defs.specs.Types.{constructor_of}
use Rattle.ap_defs.specs.Typing.{embedded}
use Rattle.ap_instance.specs.Tables.{term_beside}
use Rattle.ap_coverer.specs.Covering.{IsFilled, pairs_by}
use Rattle.ap_coverer.specs.Matches.{gives}
use Rattle.ap_coverer.proofs.FillLemmas.{matched_filled}
use Rattle.ap_coverer.proofs.grounding.covering_of.Goals as goal

pub returns-clause-grounding : goal.returns-clause-grounding
returns-clause-grounding c =
    let cs = map constructor_of c.args.picker.now.constructors.now in
    let a = answer_of c.args.answer.now in
    let gs = ground_terms (map term_of c.args.terms.now) in
    let swaps = c.in_ok-swaps.swaps.items in
    let picks = c.in_ok-picks.picks in
    let others = c.in_ok-others.others in
    let f : Var → NominalTerm = term_beside picks.vars.keys picks.terms.items (λ y. term_beside others.vars.keys others.terms.items (λ z. unit) y) in
    let table : (other : Grounding) (y : Var) → gives picks other y ≡ embedded (matched_with a gs swaps other y) = λ other y.
    c.in_ok-picks.ensures other y
    ∙ ap₂ (λ (ss : List Swap) (bs : List Term). embedded (given_by (matched_each (map (replace_names ss) (map term_of bs)) gs) other y)) c.deref.ensures.value c.items.ensures in
    matched_filled cs a gs swaps picks others c.in_ok-grounding.grounding.items table
    (subst (λ (ss : List Swap). IsFilled cs a ss others) c.deref-2.ensures.value c.in_ok-others.ensures)
    (c.in_ok-grounding.ensures ∙ ap (λ (vs : List (Var × Ty)). pairs_by f (map typed_var_of vs)) c.items-2.ensures)
