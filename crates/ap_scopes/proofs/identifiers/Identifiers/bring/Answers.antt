use Rattle.std.proofs.Common.{◌≡◌, ◌∙◌, ap, ◌++◌, ◌∷◌, []}
use Rattle.ap_trees.specs.Terms.{OfWord, OfVar}
use Rattle.ap_trees.specs.Trees.{name_of_binder}
use Rattle.ap_scopes.specs.Identifiers.{free_place, bound_one}
use Rattle.ap_scopes.specs.Views.{number_at, found_of}
use Rattle.ap_scopes.proofs.Numbering.{free_place-bound, in_tables}
use Rattle.ap_scopes.proofs.identifiers.Identifiers.bring.Goals as goal

pub returns-clause-numbered : goal.returns-clause-numbered
returns-clause-numbered c =
    let spelling = name_of_binder c.args.spelling in
    let old = found_of c.args.self.now in
    let grown : found_of c.push.new.self ≡ old ++ bound_one spelling ∷ [] = ap (λ p. p.1) c.in_ok-number.ensures.value in
    record {
      names = λ w.
          ap (λ t. number_at t w) c.in_ok-number.ensures.names ∙ c.requires.names w
          ∙ in_tables _ _ _ _ c.in_ok-number.ensures.tables (ap (λ f. free_place f (OfWord w)) grown ∙ free_place-bound old (OfWord w) spelling);
      variables = λ w other.
          ap (λ t. number_at t w) c.in_ok-number.ensures.variables ∙ c.requires.variables w other
          ∙ in_tables _ _ _ _ c.in_ok-number.ensures.tables (ap (λ f. free_place f (OfVar w)) grown ∙ free_place-bound old (OfVar w) spelling);
    }
