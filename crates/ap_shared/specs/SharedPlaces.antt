-- Terms of a table that are lent, without where they lie in memory.
use Rattle.std.specs.Prelude.{List, map}
use Rattle.ap_defs.specs.Terms.{NominalTerm}
use Rattle.ap_shared.specs.Shared.{shared_at}
use Rattle.ap_shared.specs.SharedViews.{shared_terms}
use Rattle.ap_shared.specs.declared.places.Given.{Given}
use Rattle.ap_shared.specs.declared.places.Shared.{Shared}

abbrev pub shared_term : Shared → NominalTerm
shared_term s = shared_at (shared_terms s.terms.now) s.line

abbrev pub given_terms : Given → List NominalTerm
given_terms g = map (shared_at (shared_terms g.terms.now)) g.lines.now
