use Rattle.ap_theory.proofs.TermLemmas.{act_term-append}
use Rattle.std.proofs.Common.{ap, ◌∙◌, ◌++◌}
use Rattle.ap_defs.specs.Renaming.{rename_term}
use Rattle.ap_defs.specs.Terms.{act_term, term_of}
use Rattle.ap_perm.proofs.closures.Closure.copy_moved_by.Goals as goal

pub returns : goal.returns
returns c =
    let u = c.args.self.now in
    let t = rename_term u.base (term_of u.term.now) in
    ap (λ p. act_term p t) c.in_ok-swaps.ensures ∙ ap (λ q. act_term (c.args.p.now ++ q) t) c.deref.ensures.value ∙ act_term-append c.args.p.now u.swaps.items t
