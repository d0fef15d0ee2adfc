-- The first fault of the clauses so far.
use Rattle.std.proofs.Common.{map, take}
use Rattle.ap_defs.specs.RawTerms.{raw_of}
use Rattle.ap_defs.specs.Types.{constructor_of}
use Rattle.ap_defs.specs.Goals.{clause_over}
use Rattle.ap_program.specs.NameRestriction.{items_of_lists}
use Rattle.ap_restrict.specs.Scans.{IsScan}
use Rattle.ap_restrict.proofs.programs.scan_lists.Given as goal

abbrev pub invariant-loop-clauses : goal.invariant-loop-clauses
invariant-loop-clauses l = IsScan (map constructor_of l.setting.sig.now.constructors) (items_of_lists (map (map (clause_over raw_of)) (take l.clauses-index l.lists))) l.best
