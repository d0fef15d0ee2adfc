-- The names so far, whose numbers are below those to come, and the names that are left are all.
use Rattle.std.proofs.Common.{◌≡◌, ◌++◌, drop}
use Rattle.std.specs.Prelude.{zero}
use Rattle.ap_defs.specs.Types.{locals_of}
use Rattle.ap_defs.specs.Renaming.{local_names}
use Rattle.ap_answers.specs.Locals.{AllBelow}
use Rattle.ap_answers.proofs.locals.free_names.Given as goal

abbrev pub invariant-loop-i : goal.invariant-loop-i
invariant-loop-i l = record {
  all : l.names.keys ++ local_names l.i (locals_of (drop l.i l.locals)) ≡ local_names zero (locals_of l.locals);
  below : AllBelow l.i l.names.keys;
}
