use Rattle.std.proofs.Common.{◌∙◌, ℕ, List, map, ap₂, subst}
use Rattle.std.proofs.lemmas.Result.{IfOk-weaker}
use Rattle.ap_defs.specs.declared.terms.Ty.{Ty}
use Rattle.ap_defs.specs.declared.terms.Var.{Var}
use Rattle.ap_defs.specs.Answers.{answer_of, typed_var_of}
use Rattle.ap_defs.specs.Types.{constructor_of}
use Rattle.ap_defs.specs.Typing.{embedded}
use Rattle.ap_property.specs.Stated.{given, picks_from}
use Rattle.ap_instance.specs.Tables.{IsTableOf}
use Rattle.ap_coverer.specs.Covering.{AreNamesBelow, IsFilled}
use Rattle.ap_coverer.proofs.FillLemmas.{filled}
use Rattle.ap_coverer.proofs.filling.filling.Goals as goal

pub returns : goal.returns
returns c =
    let cs = map constructor_of c.args.picker.now.constructors.now in
    let a = answer_of c.args.answer.now in
    let swaps = c.args.swaps.now in
    let n = c.in_ok-first.first in
    let below = subst (AreNamesBelow n swaps) c.items.ensures c.in_ok-first.ensures in
    IfOk-weaker c.picks_of.result (λ p. IsTableOf p (picks_from cs n (map typed_var_of c.items-2.result.now) c.new-sorts.result.items).0) (λ p. IsFilled cs a swaps p)
    (λ p h. filled cs a swaps p n c.requires.typed below (λ x.
    h x ∙ ap₂ (λ (vs : List (Var × Ty)) (ss : List ℕ). embedded (given (picks_from cs n (map typed_var_of vs) ss).0 x)) c.items-2.ensures c.new-sorts.ensures.items))
    c.picks_of.ensures.terms
