use Rattle.ap_theory.proofs.TermLemmas.{act_term-append}
use Rattle.std.proofs.Common.{ap, ◌∙◌, ◌++◌, rules}
use Rattle.ap_defs.specs.Renaming.{rename_term}
use Rattle.ap_defs.specs.Terms.{act_term, term_of}
use Rattle.ap_perm.specs.Closures.{closure_term}
use Rattle.ap_perm.proofs.ClosureLemmas.{moved_by_none}
use Rattle.ap_perm.proofs.closures.Closure.moved_by.Goals as goal

pub returns : goal.returns
returns c =
    let t = rename_term c.args.self.base (term_of c.args.self.term.now) in
    ap (λ p. act_term p t) c.in_ok-joined.ensures ∙ ap (λ q. act_term (c.args.p.now ++ q) t) c.deref.ensures.value ∙ act_term-append c.args.p.now c.args.self.swaps.items t

pub returns-then-is_empty : goal.returns-then-is_empty
returns-then-is_empty c = moved_by_none (closure_term c.args.self) c.args.p.now (search rules)
