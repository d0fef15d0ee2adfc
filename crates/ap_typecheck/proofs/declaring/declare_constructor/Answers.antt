use Rattle.std.proofs.Common.{◌≡◌, ◌∙◌, sym, ap, ◌++◌, ◌∷◌, [], None, map}
use Rattle.ap_defs.specs.Types.{constructor_of}
use Rattle.ap_scopes.specs.Declarations.{place}
use Rattle.ap_scopes.specs.Views.{words_in}
use Rattle.ap_typecheck.proofs.Tables.{new_word, words_append, inhabitants_more}
use Rattle.ap_typecheck.proofs.declaring.declare_constructor.Goals as goal

pub returns-clause-kept : goal.returns-clause-kept
returns-clause-kept c =
    let k = c.requires.kept.indexed in
    let word = c.args.word.now in
    let old = words_in c.args.state.now.declared.constructors in
    let known = map (λ b. b.text) (map constructor_of c.args.state.now.declared.signature.constructors) in
    let absent : place word old ≡ None = ap (place word) k.constructors ∙ c.requires.new in
    let added : words_in c.add.new.self ≡ map (λ b. b.text) (map constructor_of c.push.new.list) =
    c.in_ok-add.ensures ∙ new_word word old absent ∙ ap (λ ws. ws ++ word ∷ []) k.constructors
    ∙ sym (ap (λ l. map (λ b. b.text) (map constructor_of l)) c.in_ok-push.ensures ∙ words_append _ _ ∙ ap (λ t. known ++ t ∷ []) c.in_ok-text_of.ensures) in
    let declared = c.args.state.now.declared.signature.constructors in
    record {
      indexed = record { name_types = k.name_types; data_types = k.data_types; constructors = added; predicates = k.predicates };
      inhabited = inhabitants_more declared c.push.new.list _ c.declare.new.inhabitants c.in_ok-push.ensures (c.in_ok-declare.ensures (map constructor_of declared) c.requires.kept.inhabited);
      listed = c.requires.kept.listed;
    }
