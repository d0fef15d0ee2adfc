use Rattle.ap_theory.proofs.TermLemmas.{act_term_none}
use Rattle.std.proofs.Common.{ap, ◌∙◌}
use Rattle.ap_defs.specs.Renaming.{rename_term}
use Rattle.ap_defs.specs.Terms.{act_term, term_of}
use Rattle.ap_perm.proofs.closures.Closure.without_swaps.Goals as goal

pub returns : goal.returns
returns c =
    let t = rename_term c.args.base (term_of c.args.self.term.now) in
    ap (λ p. act_term p t) c.clear.ensures.items ∙ act_term_none t
