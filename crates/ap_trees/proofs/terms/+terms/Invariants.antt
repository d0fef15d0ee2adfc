use Rattle.std.proofs.Common.{◌≡◌, ◌<◌, ◌≤◌, ◌+◌, ◌-◌, ◌*◌, length, vec_len}
use Rattle.ap_trees.specs.Readers.{with_before, further, separated, after_comma}
use Rattle.ap_trees.specs.Symbols.{syms}
use Rattle.ap_trees.specs.TermReader.{read_term}
use Rattle.ap_trees.specs.Trees.{trees_of}
use Rattle.ap_trees.proofs.terms.+terms.Given as goal

abbrev pub decreases-term_list : goal.decreases-term_list
decreases-term_list l = 8 * l.levels + 2

abbrev pub decreases-further_terms : goal.decreases-further_terms
decreases-further_terms l = 8 * l.levels + 1

abbrev pub decreases-longer_application : goal.decreases-longer_application
decreases-longer_application l = 8 * l.levels + 2

abbrev pub decreases-any_term : goal.decreases-any_term
decreases-any_term l = 8 * l.levels

abbrev pub invariant-further_terms-loop-after : goal.invariant-further_terms-loop-after
invariant-further_terms-loop-after l = record {
  read : with_before (trees_of l.all.items) (further after_comma (separated after_comma (read_term l.levels) (length l.symbols - vec_len l.all)) (syms l.rest)) ≡ separated after_comma (read_term l.levels) (length l.symbols) (syms l.symbols);
  enough : length l.rest + vec_len l.all ≤ length l.symbols;
  some : length l.rest < length l.symbols;
}

abbrev pub decreases-further_terms-loop-after : goal.decreases-further_terms-loop-after
decreases-further_terms-loop-after l = length l.rest

abbrev pub decreases-list_end : goal.decreases-list_end
decreases-list_end l = 8 * l.levels + 1

abbrev pub decreases-abstraction : goal.decreases-abstraction
decreases-abstraction l = 8 * l.levels + 1

abbrev pub decreases-application : goal.decreases-application
decreases-application l = 8 * l.levels + 3

abbrev pub decreases-variable : goal.decreases-variable
decreases-variable l = 8 * l.levels + 2

abbrev pub decreases-word_term : goal.decreases-word_term
decreases-word_term l = 8 * l.levels + 4

abbrev pub decreases-group : goal.decreases-group
decreases-group l = 8 * l.levels + 3

abbrev pub decreases-list : goal.decreases-list
decreases-list l = 8 * l.levels + 4

abbrev pub decreases-full_list : goal.decreases-full_list
decreases-full_list l = 8 * l.levels + 3

abbrev pub decreases-longer_list : goal.decreases-longer_list
decreases-longer_list l = 8 * l.levels + 2

abbrev pub decreases-swapped : goal.decreases-swapped
decreases-swapped l = 8 * l.levels + 1
