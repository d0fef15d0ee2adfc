use Rattle.std.proofs.Common.{◌≡◌, ap, subst, ◌∙◌}
use Rattle.std.specs.Prelude.{IfOk}
use Rattle.ap_defs.specs.Terms.{NominalTerm, susp, term_of}
use Rattle.ap_perm.specs.Closures.{lent_term}
use Rattle.ap_machine.proofs.AnswerLemmas.{closed_bound, closed_unbound}
use Rattle.ap_machine.proofs.chains.closed_var.Goals as goal

pub returns-in_ok-share-in-None : goal.returns-in_ok-share-in-None
returns-in_ok-share-in-None c = ap (λ p. susp p c.args.x) (c.in_ok-share-in-None.ensures ∙ c.requires) ∙ closed_unbound c.args.store.now c.args.x c.in-None.ensures

pub returns-in-Some : goal.returns-in-Some
returns-in-Some c =
    subst (λ (u : NominalTerm). IfOk c.closed_from.result (λ t. term_of t ≡ u)) (closed_bound c.args.store.now c.args.x (lent_term c.in-Some.bound) c.in-Some.ensures)
    c.closed_from.ensures
