use Rattle.std.proofs.Common.{◌≡◌, ◌∙◌, ◌+◌, sym, ap, ◌++◌, ◌∷◌, [], map, length, length-append}
use Rattle.std.proofs.lemmas.List.{map-append}
use Rattle.ap_defs.specs.RawTerms.{raw_of}
use Rattle.ap_defs.specs.Goals.{clause_over, query_over}
use Rattle.ap_defs.specs.Types.{type_of}
use Rattle.ap_trees.specs.Trees.{types_of}
use Rattle.ap_scopes.specs.Types.{resolved_types}
use Rattle.ap_scopes.specs.Views.{words_in, declared_of}
use Rattle.ap_typecheck.proofs.Tables.{new_word}
use Rattle.ap_typecheck.proofs.declaring.declare_predicate.Goals as goal

pub returns-clause-made : goal.returns-clause-made
returns-clause-made c =
    let word = c.args.word.now in
    let old = c.args.state.now in
    let sig = (declared_of old.declared).signature in
    let words : words_in c.add.new.self ≡ words_in old.declared.predicates ++ word ∷ [] = c.in_ok-add.ensures ∙ new_word word (words_in old.declared.predicates) c.requires.new in
    let types : map (map type_of) c.push.new.list ≡ map (map type_of) old.declared.signature.predicates ++ resolved_types sig (types_of c.args.args.now) ∷ [] =
    ap (map (map type_of)) c.in_ok-push.ensures ∙ map-append (map type_of) old.declared.signature.predicates (c.in_ok-types.types ∷ [])
    ∙ ap (λ t. map (map type_of) old.declared.signature.predicates ++ t ∷ []) c.in_ok-types.ensures in
    let clauses : map (λ cs. map (clause_over raw_of) cs.items) c.push-2.new.self.items ≡ map (λ cs. map (clause_over raw_of) cs.items) old.clauses.items ++ [] ∷ [] =
    ap (map (λ cs. map (clause_over raw_of) cs.items)) c.in_ok-push-2.ensures.items ∙ map-append (λ cs. map (clause_over raw_of) cs.items) old.clauses.items (c.new.result ∷ [])
    ∙ ap (λ l. map (λ cs. map (clause_over raw_of) cs.items) old.clauses.items ++ map (clause_over raw_of) l ∷ []) c.new.ensures.items in
    λ j. record {
      declared = record {
        signature = record { name_types = sig.name_types; data_types = sig.data_types; constructors = sig.constructors; predicates = types j };
        predicates = words j;
      };
      clauses = clauses j;
      queries = map (query_over raw_of) old.queries.items;
    }

pub returns-clause-kept : goal.returns-clause-kept
returns-clause-kept c =
    let k = c.requires.kept.indexed in
    let word = c.args.word.now in
    let old = c.args.state.now in
    let words : words_in c.add.new.self ≡ words_in old.declared.predicates ++ word ∷ [] = c.in_ok-add.ensures ∙ new_word word (words_in old.declared.predicates) c.requires.new in
    let more_words : length (words_in c.add.new.self) ≡ length (words_in old.declared.predicates) + 1 = ap length words ∙ length-append (words_in old.declared.predicates) (word ∷ []) in
    let more_types : length c.push.new.list ≡ length old.declared.signature.predicates + 1 = ap length c.in_ok-push.ensures ∙ length-append old.declared.signature.predicates (c.in_ok-types.types ∷ []) in
    let more_lists : length c.push-2.new.self.items ≡ length old.clauses.items + 1 = ap length c.in_ok-push-2.ensures.items ∙ length-append old.clauses.items (c.new.result ∷ []) in
    record {
      indexed = record {
        name_types = k.name_types;
        data_types = k.data_types;
        constructors = k.constructors;
        predicates = more_words ∙ ap (λ n. n + 1) k.predicates ∙ sym more_types;
      };
      inhabited = c.requires.kept.inhabited;
      listed = more_lists ∙ ap (λ n. n + 1) c.requires.kept.listed ∙ sym more_types;
    }
