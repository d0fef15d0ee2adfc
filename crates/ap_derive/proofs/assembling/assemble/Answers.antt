use Rattle.std.proofs.Common.{◌∙◌}
use Rattle.ap_defs.specs.Answers.{derivation_in}
use Rattle.ap_machine.specs.Views.{state_in}
use Rattle.ap_derive.specs.Closing.{closing_terms}
use Rattle.ap_derive.proofs.NodeLemmas.{closed_preorder}
use Rattle.ap_derive.proofs.assembling.assemble.Goals as goal

pub whole_derivation-requires : goal.whole_derivation-requires
whole_derivation-requires c =
    let s = state_in c.args.store.now in
    (closing_terms c.close_nodes.new.closing, derivation_in s c.requires.0, (rw c.deref.ensures.value at c.in_ok-nodes.ensures.nodes) ∙ closed_preorder s c.args.nodes.items c.requires.0 c.requires.1)

pub returns-clause-derivation : goal.returns-clause-derivation
returns-clause-derivation c = λ d e.
    let s = state_in c.args.store.now in
    c.in_ok-derivation.ensures (closing_terms c.close_nodes.new.closing) (derivation_in s d) ((rw c.deref.ensures.value at c.in_ok-nodes.ensures.nodes) ∙ closed_preorder s c.args.nodes.items d e)
