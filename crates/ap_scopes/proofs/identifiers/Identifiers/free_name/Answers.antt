use Rattle.std.proofs.Common.{◌≡◌, ◌∙◌, sym, ap, ◌++◌, ◌∷◌, [], refl, None, Some, length, if◌then◌else◌}
use Rattle.std.specs.Str.{bytes_eq}
use Rattle.ap_trees.specs.Terms.{Name, OfWord, OfVar}
use Rattle.ap_scopes.specs.Identifiers.{free_place, free_one}
use Rattle.ap_scopes.specs.Views.{number_at, found_of}
use Rattle.ap_scopes.proofs.Numbering.{free_place-other, one_more, in_tables}
use Rattle.ap_scopes.proofs.identifiers.Identifiers.free_name.Goals as goal

pub returns-in_ok-set-in-None-clause-numbered : goal.returns-in_ok-set-in-None-clause-numbered
returns-in_ok-set-in-None-clause-numbered c =
    let word = c.args.word.now in
    let old = found_of c.args.self.now in
    let grown : found_of c.push.new.self ≡ old ++ free_one (OfWord word) ∷ [] = ap (λ p. p.1) c.in_ok-number-in-None.ensures.value in
    let last : c.in_ok-number-in-None.number ≡ length old = ap (λ p. p.0) c.in_ok-number-in-None.ensures.value in
    let before : (n : Name) → (if c.args.self.now.has_tables then free_place old n else None) ≡ free_place old n = λ n. ap (λ b. if b then free_place old n else None) c.requires.tables in
    let after : (n : Name) → free_place (found_of c.push.new.self) n ≡ (if c.push.new.self.has_tables then free_place (found_of c.push.new.self) n else None) =
    λ n. sym (ap (λ b. if b then free_place (found_of c.push.new.self) n else None) (c.in_ok-number-in-None.ensures.tables ∙ c.requires.tables)) in
    let none : free_place old (OfWord word) ≡ None = sym (c.requires.numbered.names word ∙ before (OfWord word)) ∙ sym c.get.ensures ∙ c.in-None.is in
    record {
      names = λ w.
          c.in_ok-set-in-None.ensures w ∙ ap (λ n. if bytes_eq word w then Some n else number_at c.push.new.self.names w) last
          ∙ one_more old OfWord (λ u v. refl) word w _ (ap (λ t. number_at t w) c.in_ok-number-in-None.ensures.names ∙ c.requires.numbered.names w ∙ before (OfWord w)) none
          ∙ sym (ap (λ f. free_place f (OfWord w)) grown) ∙ after (OfWord w);
      variables = λ w other.
          ap (λ t. number_at t w) c.in_ok-number-in-None.ensures.variables ∙ c.requires.numbered.variables w other
          ∙ in_tables _ _ _ _ c.in_ok-number-in-None.ensures.tables (ap (λ f. free_place f (OfVar w)) grown ∙ free_place-other old (OfVar w) (OfWord word) refl);
    }
