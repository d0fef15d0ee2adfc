-- What is written so far, and the conditions that are left, are all.
use Rattle.std.proofs.Common.{◌≡◌, ◌++◌, drop}
use Rattle.ap_answers.specs.Spelled.{spelling_in}
use Rattle.ap_answers.specs.Separated.{further_conds}
use Rattle.ap_answers.proofs.answers.write_further_conds.Given as goal

abbrev pub invariant-loop-cond : goal.invariant-loop-cond
invariant-loop-cond l = l.out.items ++ further_conds (spelling_in l.by) (drop l.cond-index l.conds) ≡ l.fn.out.items ++ further_conds (spelling_in l.by) l.conds
