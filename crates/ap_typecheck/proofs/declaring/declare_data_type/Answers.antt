use Rattle.std.proofs.Common.{◌≡◌, ◌∙◌, sym, ap, ◌++◌, ◌∷◌, [], None}
use Rattle.ap_scopes.specs.Declarations.{place}
use Rattle.ap_scopes.specs.Views.{words_in}
use Rattle.ap_typecheck.proofs.Tables.{new_word, no_data_type}
use Rattle.ap_typecheck.proofs.declaring.declare_data_type.Goals as goal

pub returns-clause-kept : goal.returns-clause-kept
returns-clause-kept c =
    let k = c.requires.kept.indexed in
    let word = c.args.word.now in
    let old = words_in c.args.state.now.declared.data_types in
    let absent : place word old ≡ None = ap (place word) k.data_types ∙ no_data_type _ _ c.requires.new in
    let added : words_in c.add.new.self ≡ c.push.new.list =
    c.in_ok-add.ensures ∙ new_word word old absent ∙ ap (λ ws. ws ++ word ∷ []) k.data_types ∙ sym (c.in_ok-push.ensures ∙ ap (λ t. c.args.state.now.declared.signature.data_types ++ t ∷ []) c.in_ok-text.ensures) in
    record {
      indexed = record { name_types = k.name_types; data_types = added; constructors = k.constructors; predicates = k.predicates };
      inhabited = c.requires.kept.inhabited;
      listed = c.requires.kept.listed;
    }
