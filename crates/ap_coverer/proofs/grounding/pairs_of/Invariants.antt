-- The pairs so far, and those of the variables that are left.
use Rattle.std.proofs.Common.{◌≡◌, ◌++◌, length, map}
use Rattle.ap_defs.specs.Answers.{typed_var_of}
use Rattle.ap_defs.specs.Terms.{unit}
use Rattle.ap_instance.specs.Tables.{term_beside}
use Rattle.ap_coverer.specs.Covering.{pairs_by, term_pair}
use Rattle.ap_coverer.proofs.grounding.pairs_of.Given as goal

abbrev pub invariant-pairing : goal.invariant-pairing
invariant-pairing l =
    let f = term_beside l.picks.vars.keys l.picks.terms.items (λ y. term_beside l.others.vars.keys l.others.terms.items (λ z. unit) y) in
    map term_pair l.pairs.items ++ pairs_by f (map typed_var_of l.rest) ≡ pairs_by f (map typed_var_of l.fn.vars)

abbrev pub decreases-pairing : goal.decreases-pairing
decreases-pairing l = length l.rest
