use Rattle.std.proofs.Common.{◌≡◌, ◌++◌, map, drop, length}
use Rattle.std.specs.Vec.Iter.{into_iter_items, into_iter_len}
use Rattle.ap_defs.specs.Types.{kind_of, locals_of}
use Rattle.ap_scopes.specs.Views.{identifier_of}
use Rattle.ap_typecheck.specs.Declaring.{with_kinds}
use Rattle.ap_typecheck.proofs.locals.with_kinds.Given as goal

abbrev pub invariant-loop-identifier : goal.invariant-loop-identifier
invariant-loop-identifier l = record {
  all : locals_of l.locals.items ++ with_kinds (map identifier_of (drop l.identifier-index l.found)) (map kind_of (into_iter_items l.rest)) ≡ with_kinds (map identifier_of l.found) (map kind_of l.fn.kinds.items);
  count : into_iter_len l.rest ≡ length (into_iter_items l.rest);
}
