use Rattle.std.proofs.Common.{◌≡◌, ◌++◌, length, map}
use Rattle.ap_defs.specs.Goals.{clause_of}
use Rattle.ap_index.specs.Keys.{AreNarrow, keys_of}
use Rattle.ap_index.proofs.keys.keys_of_clauses.Given as goal

-- the keys so far and those that are still to be read are all
abbrev pub invariant-reading : goal.invariant-reading
invariant-reading l = (l.keys.items ++ keys_of (map clause_of l.rest) ≡ keys_of (map clause_of l.clauses)) × AreNarrow (keys_of (map clause_of l.rest))

abbrev pub decreases-reading : goal.decreases-reading
decreases-reading l = length l.rest
