-- The identifiers so far, and names of the sorts that are left, are all.
use Rattle.std.proofs.Common.{◌≡◌, ◌++◌, length, map}
use Rattle.ap_defs.specs.Types.{locals_of}
use Rattle.ap_property.specs.PutIn.{name_local}
use Rattle.ap_instance.proofs.putting.add_names_of_sorts.Given as goal

abbrev pub invariant-adding : goal.invariant-adding
invariant-adding l = locals_of l.locals.items ++ map name_local l.rest ≡ locals_of l.fn.locals.items ++ map name_local l.fn.sorts

abbrev pub decreases-adding : goal.decreases-adding
decreases-adding l = length l.rest
