use Rattle.std.proofs.Common.{◌≡◌, [], ◌∷◌, ◌++◌, Bor, MatchOption, ap, ◌∙◌, subst}
use Rattle.std.specs.Prelude.{Option}
use Rattle.ap_defs.specs.Occurrences.{vars_at}
use Rattle.ap_defs.specs.Terms.{term_of}
use Rattle.ap_defs.specs.Unification.{vars_then}
use Rattle.ap_defs.specs.Walks.{parts_left}
use Rattle.ap_defs.specs.declared.terms.Term.{Term}
use Rattle.ap_defs.proofs.PartLemmas.{vars_by_parts, vars_of_parts}
use Rattle.ap_search.specs.Records.{SameVars}
use Rattle.ap_machine.proofs.SetLemmas.{same_more, same_with}
use Rattle.ap_machine.proofs.vars.add_vars_of_parts.Goals as goal

pub loop-parts-init : goal.loop-parts-init
loop-parts-init c = same_with _ _ (ap (λ xs. c.args.vars.now.items ++ xs) (ap vars_of_parts c.in_ok-parts.ensures ∙ vars_by_parts (term_of c.args.t.now)))

pub loop-parts-preserved : goal.loop-parts-preserved
loop-parts-preserved c =
    let xs = c.loop-parts.vars.items in
    let left = parts_left c.loop-parts.parts in
    let more = parts_left c.next.new.self in
    let all = c.args.vars.now.items ++ vars_then (term_of c.args.t.now) [] in
    let next : left ≡ term_of c.in-Some.part.now ∷ more =
    subst (λ (o : Option (Bor Term)). MatchOption o (left ≡ []) (λ t. left ≡ term_of t.now ∷ more)) c.in-Some.is c.in_ok-part.ensures in
    same_more xs c.add_vars_at.new.vars.items (vars_at (term_of c.in-Some.part.now)) (vars_of_parts more) all c.in_ok-add_vars_at.ensures
    (subst (λ ps. SameVars (xs ++ vars_of_parts ps) all) next c.loop-parts.invariant)
