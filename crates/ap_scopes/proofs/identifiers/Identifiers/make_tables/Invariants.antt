-- The tables have those before.
use Rattle.std.proofs.Common.{◌≡◌, ℕ, false, List, take, position, codes}
use Rattle.std.specs.Str.{bytes_eq}
use Rattle.ap_trees.specs.Terms.{OfWord, OfVar}
use Rattle.ap_scopes.specs.Identifiers.{is_free_identifier}
use Rattle.ap_scopes.specs.Views.{identifier_of, number_at}
use Rattle.ap_scopes.proofs.identifiers.Identifiers.make_tables.Given as goal

abbrev pub invariant-noting : goal.invariant-noting
invariant-noting l = record {
  found : l.self.found ≡ l.initial.self.found;
  names : (w : List ℕ) → number_at l.self.names w ≡ position (λ k. is_free_identifier (OfWord w) (identifier_of k)) (take l.place l.self.found.items);
  variables : (w : List ℕ) → bytes_eq w (codes "_") ≡ false → number_at l.self.variables w ≡ position (λ k. is_free_identifier (OfVar w) (identifier_of k)) (take l.place l.self.found.items);
}
