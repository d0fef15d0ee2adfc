use Rattle.std.proofs.Common.{◌≡◌, [], ◌∷◌, Bor, MatchOption, sym, ap, ◌∙◌, subst}
use Rattle.std.specs.Prelude.{Option}
use Rattle.ap_defs.specs.Occurrences.{names_at, vars_at}
use Rattle.ap_defs.specs.Terms.{term_of}
use Rattle.ap_defs.specs.Walks.{parts_left}
use Rattle.ap_defs.specs.declared.terms.Term.{Term}
use Rattle.ap_defs.proofs.PartLemmas.{names_by_parts, names_of_parts, vars_by_parts, vars_of_parts}
use Rattle.ap_answers.specs.Occurring.{more_names, more_vars}
use Rattle.ap_answers.specs.VarSets.{vars_of_set}
use Rattle.ap_answers.proofs.OccurrenceLemmas.{more_names_append, more_vars_append}
use Rattle.ap_answers.proofs.shown.add_names_and_vars.Goals as goal

pub loop-parts-init : goal.loop-parts-init
loop-parts-init c = record {
  names = ap (more_names c.args.names.now.keys) (ap names_of_parts c.in_ok-parts.ensures ∙ names_by_parts (term_of c.args.term.now));
  vars = ap (more_vars (vars_of_set c.args.vars.now)) (ap vars_of_parts c.in_ok-parts.ensures ∙ vars_by_parts (term_of c.args.term.now));
}

pub loop-parts-preserved : goal.loop-parts-preserved
loop-parts-preserved c =
    let names = c.loop-parts.names.keys in
    let vars = vars_of_set c.loop-parts.vars in
    let left = parts_left c.loop-parts.parts in
    let more = parts_left c.next.new.self in
    let next : left ≡ term_of c.in-Some.part.now ∷ more =
    subst (λ (o : Option (Bor Term)). MatchOption o (left ≡ []) (λ t. left ≡ term_of t.now ∷ more)) c.in-Some.is c.in_ok-part.ensures in
    record {
      names = ap (λ js. more_names js (names_of_parts more)) c.in_ok-add_names_at.ensures ∙ sym (more_names_append names (names_at (term_of c.in-Some.part.now)) (names_of_parts more))
          ∙ ap (λ ps. more_names names (names_of_parts ps)) (sym next) ∙ c.loop-parts.invariant.names;
      vars = ap (λ js. more_vars js (vars_of_parts more)) c.in_ok-add_var_at.ensures ∙ sym (more_vars_append vars (vars_at (term_of c.in-Some.part.now)) (vars_of_parts more))
          ∙ ap (λ ps. more_vars vars (vars_of_parts ps)) (sym next) ∙ c.loop-parts.invariant.vars;
    }
