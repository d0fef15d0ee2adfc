use Rattle.std.proofs.Common.{List, [], ◌∷◌, ◌++◌, ℕ, sym, ap, ◌∙◌, arith}
use Rattle.std.specs.Prelude.{Option}
use Rattle.std.proofs.lemmas.List.{append-nil, map-append}
use Rattle.ap_defs.specs.Types.{NominalLocal}
use Rattle.ap_spelling.specs.Spelt.{given_of, givens_of}
use Rattle.ap_spelling.specs.Words.{name}
use Rattle.ap_steps.specs.Givens.{by_local}
use Rattle.ap_steps.proofs.GivenLemmas.{local_past, local_there}
use Rattle.ap_steps.proofs.givens.add_name_at.Goals as goal

pub returns-then-place-locals : goal.returns-then-place-locals
returns-then-place-locals c =
    let given = givens_of c.args.given.now.items in
    sym (append-nil given)
    ∙ ap (λ (o : Option NominalLocal). given ++ by_local o (λ w. name c.args.own w ∷ [])) (sym (local_past c.args.locals.now c.args.number (omega arith)))

pub returns : goal.returns
returns c =
    let given = givens_of c.args.given.now.items in
    ap givens_of c.in_ok-push.ensures.items ∙ map-append given_of c.args.given.now.items _
    ∙ ap (λ (w : List ℕ). given ++ name c.args.own w ∷ []) c.as_str.ensures
    ∙ ap (λ (o : Option NominalLocal). given ++ by_local o (λ w. name c.args.own w ∷ []))
    (sym (local_there c.args.locals.now c.args.number c.index-locals-place.result (omega arith) c.index-locals-place.is))
