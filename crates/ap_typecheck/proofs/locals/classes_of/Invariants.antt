use Rattle.std.proofs.Common.{◌≡◌, map, take}
use Rattle.ap_scopes.specs.Views.{identifier_of}
use Rattle.ap_typecheck.specs.Checking.{classes_of}
use Rattle.ap_typecheck.proofs.locals.classes_of.Given as goal

abbrev pub invariant-loop-identifier : goal.invariant-loop-identifier
invariant-loop-identifier l = l.classes.items ≡ classes_of (map identifier_of (take l.identifier-index l.found))
