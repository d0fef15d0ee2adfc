use Rattle.std.proofs.Common.{◌≡◌, drop, map}
use Rattle.std.specs.List.{list_all}
use Rattle.ap_defs.specs.Answers.{typed_var_of}
use Rattle.ap_defs.specs.Unification.{has_var}
use Rattle.ap_checker.proofs.answers.are_on_typed.Given as goal

abbrev pub invariant-loop-c : goal.invariant-loop-c
invariant-loop-c l = list_all (λ c. has_var c.var (map (λ v. v.0) (map typed_var_of l.answer.vars))) (drop l.c-index l.conds) ≡ list_all (λ c. has_var c.var (map (λ v. v.0) (map typed_var_of l.answer.vars))) l.conds
