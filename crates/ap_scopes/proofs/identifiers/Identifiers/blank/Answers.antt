use Rattle.std.proofs.Common.{◌≡◌, ◌∙◌, ap, ◌++◌, ◌∷◌, []}
use Rattle.ap_trees.specs.Terms.{OfWord, OfVar}
use Rattle.ap_trees.specs.Trees.{name_of_binder}
use Rattle.ap_scopes.specs.Identifiers.{free_place, free_one}
use Rattle.ap_scopes.specs.Views.{number_at, found_of}
use Rattle.ap_scopes.proofs.Numbering.{free_place-other, name-blank, variable-blank, in_tables}
use Rattle.ap_scopes.proofs.identifiers.Identifiers.blank.Goals as goal

pub returns-clause-numbered : goal.returns-clause-numbered
returns-clause-numbered c =
    let spelling = name_of_binder c.args.spelling in
    let old = found_of c.args.self.now in
    let grown : found_of c.push.new.self ≡ old ++ free_one spelling ∷ [] = ap (λ p. p.1) c.in_ok-number.ensures.value in
    record {
      names = λ w.
          ap (λ t. number_at t w) c.in_ok-number.ensures.names ∙ c.requires.numbered.names w
          ∙ in_tables _ _ _ _ c.in_ok-number.ensures.tables (ap (λ f. free_place f (OfWord w)) grown ∙ free_place-other old (OfWord w) spelling (name-blank spelling w c.requires.blank));
      variables = λ w other.
          ap (λ t. number_at t w) c.in_ok-number.ensures.variables ∙ c.requires.numbered.variables w other
          ∙ in_tables _ _ _ _ c.in_ok-number.ensures.tables (ap (λ f. free_place f (OfVar w)) grown ∙ free_place-other old (OfVar w) spelling (variable-blank spelling w c.requires.blank other));
    }
