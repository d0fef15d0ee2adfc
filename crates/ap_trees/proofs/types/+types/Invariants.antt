use Rattle.std.proofs.Common.{◌≡◌, ◌<◌, ◌≤◌, ◌+◌, ◌-◌, ◌*◌, length, vec_len}
use Rattle.ap_trees.specs.Readers.{with_before, further, separated, after_comma}
use Rattle.ap_trees.specs.Symbols.{syms}
use Rattle.ap_trees.specs.Trees.{types_of}
use Rattle.ap_trees.specs.TypeReader.{read_type}
use Rattle.ap_trees.proofs.types.+types.Given as goal

abbrev pub decreases-any_type : goal.decreases-any_type
decreases-any_type l = 4 * l.levels

abbrev pub decreases-type_list : goal.decreases-type_list
decreases-type_list l = 4 * l.levels + 1

abbrev pub decreases-word_type : goal.decreases-word_type
decreases-word_type l = 4 * l.levels + 1

abbrev pub decreases-list : goal.decreases-list
decreases-list l = 4 * l.levels + 1

abbrev pub decreases-group : goal.decreases-group
decreases-group l = 4 * l.levels + 2

abbrev pub invariant-type_list-loop-after : goal.invariant-type_list-loop-after
invariant-type_list-loop-after l = record {
  read : with_before (types_of l.all.items) (further after_comma (separated after_comma (read_type l.levels) (length l.symbols - vec_len l.all)) (syms l.rest)) ≡ separated after_comma (read_type l.levels) (length l.symbols) (syms l.symbols);
  enough : length l.rest + vec_len l.all ≤ length l.symbols;
  some : length l.rest < length l.symbols;
}

abbrev pub decreases-type_list-loop-after : goal.decreases-type_list-loop-after
decreases-type_list-loop-after l = length l.rest
