-- The copies so far, and the terms that are left, are all.
use Rattle.std.proofs.Common.{◌≡◌, ◌++◌, drop, map}
use Rattle.ap_defs.specs.Terms.{term_of}
use Rattle.ap_instance.proofs.parts.copy_atom.Given as goal

abbrev pub invariant-loop-term : goal.invariant-loop-term
invariant-loop-term l = map term_of l.copied.items ++ map term_of (drop l.term-index l.args) ≡ map term_of l.args
