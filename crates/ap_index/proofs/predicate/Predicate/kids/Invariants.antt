use Rattle.std.proofs.Common.{◌≡◌, ◌+◌, ◌-◌, ◌++◌, drop, length, map}
use Rattle.ap_defs.specs.Goals.{clause_of}
use Rattle.ap_defs.specs.HeadKeys.{kept_from}
use Rattle.ap_index.proofs.predicate.Predicate.kids.Given as goal

-- the clauses that are kept so far and those behind them are all that are kept
abbrev pub invariant-keeping : goal.invariant-keeping
invariant-keeping l = l.kept.items ++ kept_from l.key (l.from + 1) (map clause_of (drop l.from l.self)) ≡ kept_from l.key 1 (map clause_of l.self)

abbrev pub decreases-keeping : goal.decreases-keeping
decreases-keeping l = length l.self - l.from
