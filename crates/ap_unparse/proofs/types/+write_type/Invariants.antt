-- What is written, what is left of the type, and what is kept, are the whole text.
use Rattle.std.proofs.Common.{◌≡◌, ◌≤◌, ◌++◌}
use Rattle.ap_trees.specs.Trees.{type_of_tree}
use Rattle.ap_unparse.specs.Written.{bytes_of}
use Rattle.ap_unparse.specs.WrittenTypes.{type_at}
use Rattle.ap_unparse.proofs.TypeBytes.{all_type, type_size}
use Rattle.ap_unparse.proofs.types.+write_type.Given as goal

abbrev pub decreases-write_type : goal.decreases-write_type
decreases-write_type l = type_size (type_of_tree l.t.now)

abbrev pub invariant-loop-rest : goal.invariant-loop-rest
invariant-loop-rest l = record {
  written : all_type l.out.items l.part (type_of_tree l.rest) l.closers.items ≡ l.fn.out.items ++ bytes_of (type_at l.fn.part (type_of_tree l.fn.t));
  smaller : type_size (type_of_tree l.rest) ≤ type_size (type_of_tree l.fn.t);
}

abbrev pub decreases-loop-rest : goal.decreases-loop-rest
decreases-loop-rest l = type_size (type_of_tree l.rest)
