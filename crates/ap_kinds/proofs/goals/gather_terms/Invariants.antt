-- The terms that are left, from the system so far, give what all give from the first system.
use Rattle.std.proofs.Common.{◌≡◌, drop, map}
use Rattle.ap_defs.specs.RawTerms.{raw_of}
use Rattle.ap_defs.specs.Types.{type_of, constructor_of}
use Rattle.ap_kinds.specs.Systems.{system_of}
use Rattle.ap_kinds.specs.Gathering.{gather_terms}
use Rattle.ap_kinds.proofs.goals.gather_terms.Given as goal

abbrev pub invariant-loop-i : goal.invariant-loop-i
invariant-loop-i l =
    gather_terms (map constructor_of l.constructors) l.idents (map raw_of (drop l.i l.terms)) (map type_of (drop l.i l.types)) (system_of l.system)
    ≡ gather_terms (map constructor_of l.constructors) l.idents (map raw_of l.terms) (map type_of l.types) (system_of l.fn.system)
