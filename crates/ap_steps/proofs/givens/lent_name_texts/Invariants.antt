-- The texts so far, and those of the identifiers that are left, are all.
use Rattle.std.proofs.Common.{◌≡◌, ◌++◌, drop}
use Rattle.ap_answers.specs.Locals.{lent_texts}
use Rattle.ap_defs.specs.Lines.{name_texts}
use Rattle.ap_defs.specs.Types.{locals_of}
use Rattle.ap_steps.proofs.givens.lent_name_texts.Given as goal

abbrev pub invariant-loop-local : goal.invariant-loop-local
invariant-loop-local l = lent_texts l.texts.items ++ name_texts (locals_of (drop l.local-index l.locals)) ≡ name_texts (locals_of l.locals)
