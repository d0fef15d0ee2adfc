-- The terms so far and those to come are all.
use Rattle.std.proofs.Common.{◌≡◌, ◌++◌, drop, map}
use Rattle.ap_defs.specs.Terms.{term_of}
use Rattle.ap_instance.specs.Tables.{settled_term}
use Rattle.ap_instance.proofs.stating.stated_terms.Given as goal

abbrev pub invariant-loop-term : goal.invariant-loop-term
invariant-loop-term l =
    let f = settled_term l.names l.picks in
    map term_of l.stated.items ++ map f (map term_of (drop l.term-index l.terms)) ≡ map f (map term_of l.terms)
