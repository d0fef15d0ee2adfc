-- None of those before is it.
use Rattle.std.proofs.Common.{◌≡◌, None, take, position}
use Rattle.ap_trees.specs.Trees.{name_of_binder}
use Rattle.ap_scopes.specs.Identifiers.{is_free_identifier}
use Rattle.ap_scopes.specs.Views.{identifier_of}
use Rattle.ap_scopes.proofs.identifiers.free_place.Given as goal

abbrev pub invariant-looking : goal.invariant-looking
invariant-looking l = position (λ k. is_free_identifier (name_of_binder l.spelling) (identifier_of k)) (take l.place l.found) ≡ None
