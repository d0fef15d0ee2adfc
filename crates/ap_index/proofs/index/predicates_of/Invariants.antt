use Rattle.std.proofs.Common.{◌≡◌, ◌++◌, length}
use Rattle.ap_defs.specs.Goals.{program_in}
use Rattle.ap_index.specs.Keys.{AreNarrowLists}
use Rattle.ap_index.proofs.index.predicates_of.Given as goal

-- the lists so far and those that are still to be read are all
abbrev pub invariant-reading : goal.invariant-reading
invariant-reading l = (l.predicates.items ++ l.rest ≡ l.clauses) × AreNarrowLists (program_in l.rest)

abbrev pub decreases-reading : goal.decreases-reading
decreases-reading l = length l.rest
