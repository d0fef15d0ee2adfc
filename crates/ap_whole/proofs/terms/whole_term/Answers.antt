use Rattle.ap_trees.specs.Trees.{term_of}
use Rattle.ap_trees.proofs.TypeLaws.{gives_found, gives_only, gives_one}
use Rattle.ap_trees.proofs.TermLaws.{all_sound, all_only}
use Rattle.ap_whole.proofs.terms.whole_term.Goals as goal

pub returns-clause-found : goal.returns-clause-found
returns-clause-found c = gives_found term_of c.exact_term.result _ _ c.exact_term.ensures (all_sound _)

pub returns-clause-only : goal.returns-clause-only
returns-clause-only c = λ t h. gives_only term_of c.exact_term.result _ t c.exact_term.ensures (all_only _ t h)

pub returns-clause-one : goal.returns-clause-one
returns-clause-one c = gives_one term_of c.exact_term.result _ _ c.exact_term.ensures (all_only _)
