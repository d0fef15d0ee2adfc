use Rattle.std.proofs.Common.{◌≡◌, ◌∙◌, ◌++◌, List, map, ap, ap₂, sym, subst}
use Rattle.ap_cover.specs.Ground.{is_ground_term}
use Rattle.ap_cover.specs.Matched.{given_by}
use Rattle.ap_defs.specs.declared.spines.TermLayer.TheVariants as around
use Rattle.ap_defs.specs.declared.terms.Name.{Name}
use Rattle.ap_defs.specs.declared.terms.Swap.{Swap}
use Rattle.ap_defs.specs.declared.terms.Term.{Term}
use Rattle.ap_defs.specs.declared.terms.Var.{Var}
use Rattle.ap_defs.specs.Groundings.{Grounding}
use Rattle.ap_defs.specs.Permutations.{inverse}
use Rattle.ap_defs.specs.Renaming.{replace_swap}
use Rattle.ap_defs.specs.Terms.{NominalTerm, abs, pair, term_of}
use Rattle.ap_defs.proofs.SpineLemmas.{term_smaller}
use Rattle.ap_theory.proofs.BooleanLemmas.{and_right}
use Rattle.ap_coverer.specs.Matches.{AddsPairs, gives, matched_under}
use Rattle.ap_coverer.proofs.MatchLemmas.{left_abs, left_pair, left_susp}
use Rattle.ap_coverer.proofs.matching.+match_term.Goals as goal

pub returns-in-Susp-default-clause-added : goal.returns-in-Susp-default-clause-added
returns-in-Susp-default-clause-added t c =
    let swaps = c.args.swaps.now in
    let F : Grounding → Var → NominalTerm = λ other y. gives c.args.picks.now (given_by (matched_under swaps (term_of c.args.term.now) c.args.acting.now (term_of c.args.beside.now)) other) y in
    let waiting = c.in-Susp-default.waiting in
    let undone = c.deref-in-Susp-default.result.now in
    left_susp swaps F (term_of c.matching.rest.now) (term_of c.matching.there.now) waiting c.matching.inner.items undone c.in-Susp-default.x c.matching.picks c.add_beside.new.picks
    (ap term_of c.in-Susp-default.is-0)
    (c.deref-in-Susp-default.ensures.value ∙ c.in_ok-undone-in-Susp-default.ensures
    ∙ ap₂ (λ (a b : List Swap). inverse (map (replace_swap swaps) a) ++ inverse b) c.items.ensures c.deref.ensures.value)
    c.in_ok-add_beside-in-Susp-default.ensures.added c.matching.invariant.all

pub matching-preserved-in-Pair-there : goal.matching-preserved-in-Pair-there
matching-preserved-in-Pair-there t c =
    let swaps = c.args.swaps.now in
    let F : Grounding → Var → NominalTerm = λ other y. gives c.args.picks.now (given_by (matched_under swaps (term_of c.args.term.now) c.args.acting.now (term_of c.args.beside.now)) other) y in
    let left = term_of c.deref-in-Pair-Pair.result.now in
    let right = term_of c.deref-rest.result.now in
    let first = term_of c.deref-in-Pair-Pair-3.result.now in
    let second = term_of c.deref-there.result.now in
    let e : term_of c.matching.rest.now ≡ pair left right =
    ap term_of c.in-Pair-Pair.is-0 ∙ ap (λ (u : Term). pair (term_of u) (term_of c.in-Pair-Pair.right.value)) (sym c.deref-in-Pair-Pair.ensures)
    ∙ ap (λ (u : Term). pair left (term_of u)) (sym c.deref-rest.ensures) in
    let k : term_of c.matching.there.now ≡ pair first second =
    ap term_of c.in-Pair-Pair.is-1 ∙ ap (λ (u : Term). pair (term_of u) (term_of c.in-Pair-Pair.second.value)) (sym c.deref-in-Pair-Pair-3.ensures)
    ∙ ap (λ (u : Term). pair first (term_of u)) (sym c.deref-there.ensures) in
    let added = subst (λ (l : List Swap). AddsPairs (matched_under swaps left l first) c.matching.picks c.match_term.new.picks) c.deref-in-Pair-Pair-2.ensures.value c.in_ok-match_term-in-Pair-Pair.ensures.added in
    let whole : term_of c.matching.rest.now ≡ pair (term_of c.in-Pair-Pair.left.value) right = ap term_of c.in-Pair-Pair.is-0 ∙ ap (λ (u : Term). pair (term_of c.in-Pair-Pair.left.value) (term_of u)) (sym c.deref-rest.ensures) in
    record {
      many = c.in_ok-match_term-in-Pair-Pair.ensures.many;
      closed = and_right (is_ground_term first) (is_ground_term second) (sym (ap is_ground_term k) ∙ c.matching.invariant.closed);
      all = left_pair swaps F (term_of c.matching.rest.now) (term_of c.matching.there.now) left right first second c.matching.inner.items c.matching.picks c.match_term.new.picks e k added c.matching.invariant.all;
      smaller = term_smaller (around.Left c.in-Pair-Pair.left.value) _ right _ whole c.matching.invariant.smaller;
    }

pub matching-preserved : goal.matching-preserved
matching-preserved t c =
    let a : Name = record { sort = c.in-Abs-Abs.sort; num = c.in-Abs-Abs.num } in
    let b : Name = record { sort = c.in-Abs-Abs.other_sort; num = c.in-Abs-Abs.other_num } in
    let swaps = c.args.swaps.now in
    let F : Grounding → Var → NominalTerm = λ other y. gives c.args.picks.now (given_by (matched_under swaps (term_of c.args.term.now) c.args.acting.now (term_of c.args.beside.now)) other) y in
    let part = term_of c.deref-rest-in-Abs-Abs.result.now in
    let inside = term_of c.deref-there-in-Abs-Abs.result.now in
    let e : term_of c.matching.rest.now ≡ abs a part = ap term_of c.in-Abs-Abs.is-0 ∙ ap (λ (u : Term). abs a (term_of u)) (sym c.deref-rest-in-Abs-Abs.ensures) in
    let k : term_of c.matching.there.now ≡ abs b inside = ap term_of c.in-Abs-Abs.is-1 ∙ ap (λ (u : Term). abs b (term_of u)) (sym c.deref-there-in-Abs-Abs.ensures) in
    record {
      many = c.matching.invariant.many;
      closed = sym (ap is_ground_term k) ∙ c.matching.invariant.closed;
      all = left_abs swaps F (term_of c.matching.rest.now) (term_of c.matching.there.now) part inside a b c.matching.inner.items c.go_below.new.acting.items c.matching.picks e k
          c.in_ok-go_below-in-Abs-Abs.ensures c.matching.invariant.all;
      smaller = term_smaller (around.Abs a) _ part _ e c.matching.invariant.smaller;
    }
