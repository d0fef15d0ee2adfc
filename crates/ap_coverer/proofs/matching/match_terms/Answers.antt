use Rattle.std.proofs.Common.{◌≡◌, ◌∙◌, ◌∷◌, List, [], map, ap, ap₂, sym}
use Rattle.std.specs.List.{list_all}
use Rattle.ap_cover.specs.Ground.{ground_terms, is_ground_term}
use Rattle.ap_cover.specs.Matched.{Pairs, given_by, matched_each}
use Rattle.ap_defs.specs.declared.terms.Term.{Term}
use Rattle.ap_defs.specs.declared.terms.Var.{Var}
use Rattle.ap_defs.specs.Groundings.{Grounding}
use Rattle.ap_defs.specs.Renaming.{replace_names}
use Rattle.ap_defs.specs.Terms.{NominalTerm, term_of}
use Rattle.ap_defs.specs.Typing.{embedded}
use Rattle.ap_theory.proofs.BooleanLemmas.{and_right}
use Rattle.ap_coverer.specs.Matches.{gives}
use Rattle.ap_clearing.proofs.ClearsLemmas.{no_more}
use Rattle.ap_coverer.proofs.MatchLemmas.{left_each}
use Rattle.ap_coverer.proofs.matching.match_terms.Goals as goal

pub returns-in_default-split_first : goal.returns-in_default-split_first
returns-in_default-split_first c = λ other y.
    let swaps = c.args.swaps.now in
    let none : matched_each (map (replace_names swaps) (map term_of c.matching.rest.now)) (ground_terms (map term_of c.matching.there.now)) ≡ [] =
    ap₂ (λ (a b : List Term). matched_each (map (replace_names swaps) (map term_of a)) (ground_terms (map term_of b))) c.in-Some.ensures.cases.0 (no_more c.matching.there.now c.in_default-split_first.ensures.cases) in
    ap (λ (ps : Pairs). gives c.matching.picks (given_by ps other) y) (sym none) ∙ c.matching.invariant.all other y

pub matching-preserved : goal.matching-preserved
matching-preserved c =
    let swaps = c.args.swaps.now in
    let F : Grounding → Var → NominalTerm = λ other y. embedded (given_by (matched_each (map (replace_names swaps) (map term_of c.args.terms.now)) (ground_terms (map term_of c.args.beside.now))) other y) in
    let t = term_of c.in-Some.term.now in
    let u = term_of c.in-Some-split_first.instance.now in
    let e : map term_of c.matching.rest.now ≡ t ∷ map term_of c.in-Some.others.now = ap (map term_of) c.in-Some.ensures.cases.0 in
    let k : map term_of c.matching.there.now ≡ u ∷ map term_of c.in-Some-split_first.more.now = ap (map term_of) c.in-Some-split_first.ensures.cases.0 in
    record {
      many = c.in_ok-match_term.ensures.many;
      closed = and_right (is_ground_term u) (list_all is_ground_term (map term_of c.in-Some-split_first.more.now)) (sym (ap (list_all is_ground_term) k) ∙ c.matching.invariant.closed);
      all = left_each swaps F (map term_of c.matching.rest.now) (map term_of c.matching.there.now) (map term_of c.in-Some.others.now) (map term_of c.in-Some-split_first.more.now) t u c.matching.picks
          c.match_term.new.picks e k c.in_ok-match_term.ensures.added c.matching.invariant.all;
    }

pub returns : goal.returns
returns c = λ other y.
    let swaps = c.args.swaps.now in
    let none : matched_each (map (replace_names swaps) (map term_of c.matching.rest.now)) (ground_terms (map term_of c.matching.there.now)) ≡ [] =
    ap (λ (a : List Term). matched_each (map (replace_names swaps) (map term_of a)) (ground_terms (map term_of c.matching.there.now))) (no_more c.matching.rest.now c.in_default.ensures.cases) in
    ap (λ (ps : Pairs). gives c.matching.picks (given_by ps other) y) (sym none) ∙ c.matching.invariant.all other y
