use Rattle.std.proofs.Common.{◌≤◌, ◌++◌, ℕ, sym, ap, ◌∙◌, subst}
use Rattle.std.proofs.lemmas.List.{append-nil}
use Rattle.ap_spelling.specs.Spelt.{givens_of}
use Rattle.ap_steps.proofs.GivenLemmas.{no_vars_left}
use Rattle.ap_steps.proofs.givens.add_vars_given.Goals as goal

pub returns : goal.returns
returns c =
    let given = givens_of c.loop-i.given.items in
    sym (append-nil given)
    ∙ ap (λ xs. given ++ xs) (sym (no_vars_left c.args.terms.now c.args.words.now c.loop-i.i (subst (λ (n : ℕ). n ≤ c.loop-i.i) c.min-count.ensures c.loop-i-test.false)))
    ∙ c.loop-i.invariant
