-- Those that are left decide.
use Rattle.std.proofs.Common.{◌≡◌, drop, map}
use Rattle.std.specs.List.{list_all}
use Rattle.ap_defs.specs.Terms.{term_of}
use Rattle.ap_cover.specs.Ground.{is_ground_term}
use Rattle.ap_cover.proofs.ground.are_ground.Given as goal

abbrev pub invariant-looking : goal.invariant-looking
invariant-looking l = list_all is_ground_term (map term_of (drop l.t-index l.terms)) ≡ list_all is_ground_term (map term_of l.terms)
