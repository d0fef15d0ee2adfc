-- The first fault of the items before and of the clauses so far.
use Rattle.std.proofs.Common.{List, map, take, ◌++◌}
use Rattle.ap_defs.specs.RawTerms.{raw_of}
use Rattle.ap_defs.specs.Types.{constructor_of}
use Rattle.ap_defs.specs.Goals.{clause_over}
use Rattle.ap_program.specs.NameRestriction.{RawItem, clause}
use Rattle.ap_restrict.specs.Scans.{IsScan}
use Rattle.ap_restrict.proofs.programs.scan_clauses.Given as goal

abbrev pub invariant-loop-clause : goal.invariant-loop-clause
invariant-loop-clause l =
    (items : List RawItem) → IsScan (map constructor_of l.setting.sig.now.constructors) items l.fn.before
    → IsScan (map constructor_of l.setting.sig.now.constructors) (items ++ map clause (map (clause_over raw_of) (take l.clause-index l.clauses))) l.best
