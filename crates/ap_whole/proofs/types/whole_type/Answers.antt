use Rattle.ap_trees.specs.Trees.{type_of_tree}
use Rattle.ap_trees.proofs.TypeLaws.{all_sound, all_only, gives_found, gives_only, gives_one}
use Rattle.ap_whole.proofs.types.whole_type.Goals as goal

pub returns-clause-found : goal.returns-clause-found
returns-clause-found c = gives_found type_of_tree c.exact_type.result _ _ c.exact_type.ensures (all_sound _)

pub returns-clause-only : goal.returns-clause-only
returns-clause-only c = λ t h. gives_only type_of_tree c.exact_type.result _ t c.exact_type.ensures (all_only _ t h)

pub returns-clause-one : goal.returns-clause-one
returns-clause-one c = gives_one type_of_tree c.exact_type.result _ _ c.exact_type.ensures (all_only _)
