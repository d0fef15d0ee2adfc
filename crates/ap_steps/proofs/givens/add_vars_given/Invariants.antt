-- With those that are left the ones so far are all.
use Rattle.std.proofs.Common.{◌≡◌, ◌++◌, drop, map}
use Rattle.ap_answers.specs.Locals.{lent_texts}
use Rattle.ap_defs.specs.Terms.{term_of}
use Rattle.ap_spelling.specs.Spelt.{givens_of}
use Rattle.ap_steps.specs.Givens.{vars_given}
use Rattle.ap_steps.proofs.givens.add_vars_given.Given as goal

abbrev pub invariant-loop-i : goal.invariant-loop-i
invariant-loop-i l =
    givens_of l.given.items ++ vars_given (map term_of (drop l.i l.terms)) (lent_texts (drop l.i l.words))
    ≡ givens_of l.initial.given.items ++ vars_given (map term_of l.terms) (lent_texts l.words)
