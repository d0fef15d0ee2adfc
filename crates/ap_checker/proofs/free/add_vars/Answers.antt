use Rattle.std.proofs.Common.{◌≡◌, [], ◌∷◌, ◌++◌, Bor, MatchOption, sym, ap, ◌∙◌, subst, append_assoc}
use Rattle.std.specs.Prelude.{Option}
use Rattle.ap_defs.specs.Occurrences.{vars_at}
use Rattle.ap_defs.specs.Terms.{term_of}
use Rattle.ap_defs.specs.Walks.{parts_left}
use Rattle.ap_defs.specs.declared.terms.Term.{Term}
use Rattle.ap_defs.proofs.PartLemmas.{vars_by_parts, vars_of_parts}
use Rattle.ap_checker.proofs.free.add_vars.Goals as goal

pub loop-parts-init : goal.loop-parts-init
loop-parts-init c = ap (λ zs. c.args.vars.now.items ++ zs) (ap vars_of_parts c.in_ok-parts.ensures ∙ vars_by_parts (term_of c.args.t.now))

pub loop-parts-preserved : goal.loop-parts-preserved
loop-parts-preserved c =
    let zs = c.loop-parts.vars.items in
    let left = parts_left c.loop-parts.parts in
    let more = parts_left c.next.new.self in
    let next : left ≡ term_of c.in-Some.part.now ∷ more =
    subst (λ (o : Option (Bor Term)). MatchOption o (left ≡ []) (λ t. left ≡ term_of t.now ∷ more)) c.in-Some.is c.in_ok-part.ensures in
    ap (λ ys. ys ++ vars_of_parts more) c.in_ok-add_vars_at.ensures ∙ append_assoc zs (vars_at (term_of c.in-Some.part.now)) (vars_of_parts more)
    ∙ ap (λ ps. zs ++ vars_of_parts ps) (sym next) ∙ c.loop-parts.invariant
