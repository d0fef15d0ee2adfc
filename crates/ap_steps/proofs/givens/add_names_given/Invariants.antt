-- With those that are left the ones so far are all.
use Rattle.std.proofs.Common.{◌≡◌, ◌++◌, drop}
use Rattle.ap_answers.specs.Locals.{lent_texts}
use Rattle.ap_spelling.specs.Spelt.{givens_of}
use Rattle.ap_steps.specs.Givens.{names_given}
use Rattle.ap_steps.proofs.givens.add_names_given.Given as goal

abbrev pub invariant-loop-i : goal.invariant-loop-i
invariant-loop-i l = givens_of l.given.items ++ names_given (drop l.i l.names) (lent_texts (drop l.i l.words)) ≡ givens_of l.initial.given.items ++ names_given l.names (lent_texts l.words)
