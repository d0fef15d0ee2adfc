use Rattle.std.proofs.Common.{◌≡◌, [], ◌∷◌, Bor, MatchOption, sym, ap, ◌∙◌, subst}
use Rattle.std.specs.Prelude.{Option}
use Rattle.ap_defs.specs.Occurrences.{names_at}
use Rattle.ap_defs.specs.Terms.{term_of}
use Rattle.ap_defs.specs.Walks.{parts_left}
use Rattle.ap_defs.specs.declared.terms.Term.{Term}
use Rattle.ap_defs.proofs.PartLemmas.{names_by_parts, names_of_parts}
use Rattle.ap_answers.specs.Occurring.{more_names}
use Rattle.ap_answers.proofs.OccurrenceLemmas.{more_names_append}
use Rattle.ap_answers.proofs.occurrences.add_names.Goals as goal

pub loop-parts-init : goal.loop-parts-init
loop-parts-init c = ap (more_names c.args.names.now.keys) (ap names_of_parts c.in_ok-parts.ensures ∙ names_by_parts (term_of c.args.term.now))

pub loop-parts-preserved : goal.loop-parts-preserved
loop-parts-preserved c =
    let ks = c.loop-parts.names.keys in
    let left = parts_left c.loop-parts.parts in
    let more = parts_left c.next.new.self in
    let next : left ≡ term_of c.in-Some.part.now ∷ more =
    subst (λ (o : Option (Bor Term)). MatchOption o (left ≡ []) (λ t. left ≡ term_of t.now ∷ more)) c.in-Some.is c.in_ok-part.ensures in
    ap (λ js. more_names js (names_of_parts more)) c.in_ok-add_names_at.ensures ∙ sym (more_names_append ks (names_at (term_of c.in-Some.part.now)) (names_of_parts more))
    ∙ ap (λ ps. more_names ks (names_of_parts ps)) (sym next) ∙ c.loop-parts.invariant
