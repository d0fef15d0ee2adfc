use Rattle.std.proofs.Common.{Bool, sym, ◌∙◌, arith}
use Rattle.ap_trees.specs.Trees.{name_of_binder}
use Rattle.ap_scopes.specs.declared.identifiers.Identifier as code
use Rattle.ap_scopes.specs.Identifiers.{is_free_identifier}
use Rattle.ap_scopes.specs.Views.{identifier_of}
use Rattle.ap_scopes.proofs.FewLemmas.{position_at, position_end}
use Rattle.ap_scopes.proofs.Tables.{position-map}
use Rattle.ap_scopes.proofs.identifiers.free_place.Goals as goal

pub returns-then-is_free : goal.returns-then-is_free
returns-then-is_free c =
    let name = name_of_binder c.args.spelling in
    let found = c.args.found.now in
    let p : code.Identifier → Bool = λ k. is_free_identifier name (identifier_of k) in
    sym (position_at p found c.looking.place _ (omega arith) c.looking.invariant (sym c.is_free.ensures ∙ c.if-is_free.true)) ∙ position-map identifier_of (is_free_identifier name) found

pub returns : goal.returns
returns c =
    let name = name_of_binder c.args.spelling in
    let found = c.args.found.now in
    let p : code.Identifier → Bool = λ k. is_free_identifier name (identifier_of k) in
    sym (sym (position_end p found c.looking.place (omega arith)) ∙ c.looking.invariant) ∙ position-map identifier_of (is_free_identifier name) found
