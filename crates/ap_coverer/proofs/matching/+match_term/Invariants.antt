-- What is left matches what is left to be added.
use Rattle.std.proofs.Common.{◌≡◌, ◌≤◌, length, true}
use Rattle.ap_cover.specs.Ground.{is_ground_term}
use Rattle.ap_cover.specs.Matched.{given_by}
use Rattle.ap_defs.specs.declared.terms.Var.{Var}
use Rattle.ap_defs.specs.Groundings.{Grounding}
use Rattle.ap_defs.specs.Terms.{term_of}
use Rattle.ap_defs.specs.Unification.{size}
use Rattle.ap_coverer.specs.Matches.{gives, matched_under}
use Rattle.ap_coverer.proofs.matching.+match_term.Given as goal

abbrev pub decreases-match_term : goal.decreases-match_term
decreases-match_term l = size (term_of l.term.now)

abbrev pub invariant-matching : goal.invariant-matching
invariant-matching l = record {
  many : length l.picks.vars.keys ≡ length l.picks.terms.items;
  closed : is_ground_term (term_of l.there) ≡ true;
  all : (other : Grounding) (y : Var) → gives l.picks (given_by (matched_under l.swaps (term_of l.rest) l.inner.items (term_of l.there)) other) y
      ≡ gives l.fn.picks (given_by (matched_under l.swaps (term_of l.fn.term) l.fn.acting (term_of l.fn.beside)) other) y;
  smaller : size (term_of l.rest) ≤ size (term_of l.fn.term);
}

abbrev pub decreases-matching : goal.decreases-matching
decreases-matching l = size (term_of l.rest)
