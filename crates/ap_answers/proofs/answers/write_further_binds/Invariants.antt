-- What is written so far, and the bindings that are left, are all.
use Rattle.std.proofs.Common.{◌≡◌, ◌++◌, drop}
use Rattle.ap_answers.specs.Spelled.{spelling_in}
use Rattle.ap_answers.specs.Bindings.{binds_of}
use Rattle.ap_answers.specs.Separated.{further_binds}
use Rattle.ap_answers.proofs.answers.write_further_binds.Given as goal

abbrev pub invariant-loop-bind : goal.invariant-loop-bind
invariant-loop-bind l = l.out.items ++ further_binds (spelling_in l.by) (binds_of (drop l.bind-index l.binds)) ≡ l.fn.out.items ++ further_binds (spelling_in l.by) (binds_of l.binds)
