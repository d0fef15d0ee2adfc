use Rattle.std.proofs.Common.{◌≡◌, ◌++◌, drop, map}
use Rattle.ap_defs.specs.Terms.{term_of}
use Rattle.ap_search.specs.Records.{closed_vars}
use Rattle.ap_machine.specs.Views.{state_in}
use Rattle.ap_machine.proofs.chains.closed_each.Given as goal

-- the terms so far and those of the rest are all
abbrev pub invariant-closing : goal.invariant-closing
invariant-closing l = map term_of l.terms.items ++ closed_vars (state_in l.store) (drop l.x-index l.vars) ≡ closed_vars (state_in l.store) l.vars
