-- What the terms that are left match is what is left to be added.
use Rattle.std.proofs.Common.{◌≡◌, length, map, true}
use Rattle.std.specs.List.{list_all}
use Rattle.ap_cover.specs.Ground.{ground_terms, is_ground_term}
use Rattle.ap_cover.specs.Matched.{given_by, matched_each}
use Rattle.ap_defs.specs.declared.terms.Var.{Var}
use Rattle.ap_defs.specs.Groundings.{Grounding}
use Rattle.ap_defs.specs.Renaming.{replace_names}
use Rattle.ap_defs.specs.Terms.{term_of}
use Rattle.ap_defs.specs.Typing.{embedded}
use Rattle.ap_coverer.specs.Matches.{gives}
use Rattle.ap_coverer.proofs.matching.match_terms.Given as goal

abbrev pub invariant-matching : goal.invariant-matching
invariant-matching l = record {
  many : length l.picks.vars.keys ≡ length l.picks.terms.items;
  closed : list_all is_ground_term (map term_of l.there) ≡ true;
  all : (other : Grounding) (y : Var) → gives l.picks (given_by (matched_each (map (replace_names l.swaps) (map term_of l.rest)) (ground_terms (map term_of l.there))) other) y
      ≡ embedded (given_by (matched_each (map (replace_names l.swaps) (map term_of l.fn.terms)) (ground_terms (map term_of l.fn.beside))) other y);
}

abbrev pub decreases-matching : goal.decreases-matching
decreases-matching l = length l.rest
