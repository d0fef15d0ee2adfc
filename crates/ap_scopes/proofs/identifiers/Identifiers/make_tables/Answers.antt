use Rattle.std.proofs.Common.{rules, ◌≡◌, ◌+◌, map, take, refl, sym, ap, ◌∙◌, position}
use Rattle.ap_trees.specs.Terms.{Name, OfWord, OfVar}
use Rattle.ap_scopes.specs.Identifiers.{is_free_identifier, free_place}
use Rattle.ap_scopes.specs.Views.{identifier_of, number_at}
use Rattle.ap_scopes.proofs.FewLemmas.{noted_next, passed_next, position_end}
use Rattle.ap_scopes.proofs.Numbering.{no_tables}
use Rattle.ap_scopes.proofs.Tables.{position-map}
use Rattle.ap_scopes.proofs.identifiers.Identifiers.make_tables.Goals as goal
use Rattle.ap_scopes.proofs.identifiers.Identifiers.make_tables.Goals.{then-not-identifier+in_ok-note, else-not-identifier}

pub noting-init : goal.noting-init
noting-init c = record {
  found = refl;
  names = λ w. c.requires.numbered.names w ∙ no_tables _ _ c.requires.few;
  variables = λ w other. c.requires.numbered.variables w other ∙ no_tables _ _ c.requires.few;
}

pub noting-preserved : goal.noting-preserved
noting-preserved c = elim c.if-not-identifier.branch [
  | then-not-identifier+in_ok-note w ↦
      let items = c.noting.self.found.items in
      let x = c.index-identifier.result.now in
      let same : c.if-not-identifier.self.found.items ≡ items = ap (λ s. s.found.items) w.self-is ∙ ap (λ v. v.items) w.in_ok-note.ensures.found in
      record {
        found = ap (λ s. s.found) w.self-is ∙ w.in_ok-note.ensures.found ∙ c.noting.invariant.found;
        names = λ v.
            ap (λ s. number_at s.names v) w.self-is
            ∙ noted_next (OfWord v) items c.noting.place x (search rules) c.index-identifier.ensures _ _ w.if-not-identifier.true (c.noting.invariant.names v) (w.in_ok-note.ensures.names v)
            ∙ ap (λ ks. position (λ k. is_free_identifier (OfWord v) (identifier_of k)) (take (c.noting.place + 1) ks)) (sym same);
        variables = λ v other.
            ap (λ s. number_at s.variables v) w.self-is
            ∙ noted_next (OfVar v) items c.noting.place x (search rules) c.index-identifier.ensures _ _ w.if-not-identifier.true (c.noting.invariant.variables v other) (w.in_ok-note.ensures.variables v)
            ∙ ap (λ ks. position (λ k. is_free_identifier (OfVar v) (identifier_of k)) (take (c.noting.place + 1) ks)) (sym same);
      }
  | else-not-identifier w ↦
      let items = c.noting.self.found.items in
      let x = c.index-identifier.result.now in
      record {
        found = ap (λ s. s.found) w.self-is ∙ c.noting.invariant.found;
        names = λ v.
            ap (λ s. number_at s.names v) w.self-is ∙ passed_next (OfWord v) items c.noting.place x (search rules) c.index-identifier.ensures _ w.if-not-identifier.false (c.noting.invariant.names v)
            ∙ ap (λ s. position (λ k. is_free_identifier (OfWord v) (identifier_of k)) (take (c.noting.place + 1) s.found.items)) (sym w.self-is);
        variables = λ v other.
            ap (λ s. number_at s.variables v) w.self-is ∙ passed_next (OfVar v) items c.noting.place x (search rules) c.index-identifier.ensures _ w.if-not-identifier.false (c.noting.invariant.variables v other)
            ∙ ap (λ s. position (λ k. is_free_identifier (OfVar v) (identifier_of k)) (take (c.noting.place + 1) s.found.items)) (sym w.self-is);
      }
]

pub returns-clause-numbered : goal.returns-clause-numbered
returns-clause-numbered c =
    let found = c.noting.self.found.items in
    let all : (n : Name) → position (λ k. is_free_identifier n (identifier_of k)) (take c.noting.place found) ≡ free_place (map identifier_of found) n =
    λ n. position_end (λ k. is_free_identifier n (identifier_of k)) found c.noting.place (search rules) ∙ position-map identifier_of (is_free_identifier n) found in
    record {
      names = λ w. c.noting.invariant.names w ∙ all (OfWord w);
      variables = λ w other. c.noting.invariant.variables w other ∙ all (OfVar w);
    }
