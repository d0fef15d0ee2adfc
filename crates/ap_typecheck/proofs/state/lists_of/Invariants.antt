use Rattle.std.proofs.Common.{◌≡◌, map}
use Rattle.ap_defs.specs.RawTerms.{raw_of}
use Rattle.ap_defs.specs.Goals.{clause_over}
use Rattle.ap_typecheck.proofs.state.lists_of.Given as goal

abbrev pub invariant-loop-of_one : goal.invariant-loop-of_one
invariant-loop-of_one l = map (map (clause_over raw_of)) l.lists.items ≡ map (λ cs. map (clause_over raw_of) cs.items) l.yielded
