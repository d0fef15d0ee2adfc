use Rattle.ap_defs.specs.Derivations.{derivation_of}
use Rattle.ap_shared.specs.SharedViews.{shared_terms}
use Rattle.ap_shared.proofs.sharing.share_derivation.Goals as goal

pub whole_derivation-requires : goal.whole_derivation-requires
whole_derivation-requires c = (shared_terms c.share_nodes.new.table, derivation_of c.args.derivation.now, c.in_ok-nodes.ensures.nodes)

pub returns-clause-derivation : goal.returns-clause-derivation
returns-clause-derivation c = c.in_ok-shared.ensures (shared_terms c.share_nodes.new.table) (derivation_of c.args.derivation.now) c.in_ok-nodes.ensures.nodes
