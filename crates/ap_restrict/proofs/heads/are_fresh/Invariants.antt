-- The name is fresh for all where it is for those that are left.
use Rattle.std.proofs.Common.{◌≡◌, map, drop}
use Rattle.ap_defs.specs.Terms.{term_of}
use Rattle.ap_defs.specs.Types.{locals_of}
use Rattle.ap_defs.specs.Resolution.{kinds_of}
use Rattle.ap_types.specs.Rounds.{marked}
use Rattle.ap_restrict.specs.Heads.{is_known, fresh_by_each}
use Rattle.ap_restrict.proofs.heads.are_fresh.Given as goal

abbrev pub invariant-loop-t : goal.invariant-loop-t
invariant-loop-t l =
    let test = is_known l.facts.keys l.table.sort (marked l.table.table.items) (kinds_of (locals_of l.locals)) l.a in
    fresh_by_each test l.a (map term_of (drop l.t-index l.ts)) ≡ fresh_by_each test l.a (map term_of l.ts)
