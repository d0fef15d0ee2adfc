use Rattle.ap_search.proofs.InTreeLemmas.{query_in_tree}
use Rattle.ap_search.proofs.QueryTreeLemmas.{query_tells, query_tree}
use Rattle.ap_search.proofs.trees.choices_are_a_tree.Goals as goal

pub returns-clause-tree : goal.returns-clause-tree
returns-clause-tree c = query_tree

pub returns-clause-widths : goal.returns-clause-widths
returns-clause-widths c = query_tells

pub returns-clause-paths : goal.returns-clause-paths
returns-clause-paths c = query_in_tree
