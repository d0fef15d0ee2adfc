-- Terms with new names alone meet the conditions.
use Rattle.std.proofs.Common.{◌≡◌, ◌∙◌, ◌≤◌, ◌<◌, ◌++◌, ℕ, true, false, List, [], ◌∷◌, map, refl, sym, ap, ap₂, subst, arith}
use Rattle.std.specs.Prelude.{position}
use Rattle.ap_defs.specs.declared.terms.Cond.{Cond}
use Rattle.ap_defs.specs.declared.terms.Name.{Name}
use Rattle.ap_defs.specs.declared.terms.Swap.{Swap}
use Rattle.ap_defs.specs.declared.terms.Term.{Term}
use Rattle.ap_defs.specs.declared.terms.Var.{Var}
use Rattle.ap_defs.specs.Alpha.{fresh}
use Rattle.ap_defs.specs.Answers.{NominalAnswer}
use Rattle.ap_defs.specs.Freshness.{var_eq}
use Rattle.ap_defs.specs.Groundings.{Grounding, meets}
use Rattle.ap_defs.specs.Permutations.{act_name, name_eq}
use Rattle.ap_defs.specs.Terms as terms
use Rattle.ap_defs.specs.Terms.{GroundTerm, NominalTerm, term_of}
use Rattle.ap_defs.specs.Types.{NominalConstructor, NominalType}
use Rattle.ap_defs.specs.Typing.{embedded}
use Rattle.ap_complete.specs.Coverings.{replace_in_cond}
use Rattle.ap_cover.specs.StatementsOnMatching.{matched_with}
use Rattle.ap_theory.proofs.BooleanLemmas.{and_both}
use Rattle.ap_theory.proofs.PermutationLemmas.{not_name}
use Rattle.ap_picks.specs.StatementsOnPicks.{EachName, IsNewName}
use Rattle.ap_picks.proofs.PickLemmas.{each_name}
use Rattle.ap_property.specs.Stated.{given, picks_from}
use Rattle.ap_property.specs.StatementsOnProperties.{HasTypedVars}
use Rattle.ap_property.proofs.PickedLemmas.{fresh_apart, given_names, picks_give, picks_made}
use Rattle.ap_instance.specs.Tables.{term_at_place, term_beside}
use Rattle.ap_instance.specs.declared.picks.Picks.{Picks}
use Rattle.ap_coverer.specs.Covering.{AreMatched, AreNamesBelow, IsFilled, pairs_by, term_pair}
use Rattle.ap_coverer.specs.Matches.{gives}

-- one condition more
pub next_below : (swaps : List Swap) (rest others conds : List Cond) (c : Cond) (above more : ℕ) → rest ≡ c ∷ others → above ≤ more → (act_name swaps c.name).num < more
    → ((n : ℕ) → above ≤ n → AreNamesBelow n swaps rest → AreNamesBelow n swaps conds) → (n : ℕ) → more ≤ n → AreNamesBelow n swaps others → AreNamesBelow n swaps conds
next_below swaps rest others conds c above more r l b before n k h =
    before n (omega (arith, l, k)) (subst (AreNamesBelow n swaps) (sym r) ((let low : (act_name swaps c.name).num < n = omega (arith, b, k) in low), h))

module _ (n : ℕ) (after : List ℕ) where
  new_apart : (a b : Name) → a.num < n → IsNewName n [] after b → name_eq a b ≡ false
  new_apart a b l i = not_name a b (λ e. let m = ap (λ (x : Name). x.num) e in let k = i.number in absurd (omega (arith, l, m, k)))

  new_meet : (f : Grounding) → ((x : Var) → EachName (IsNewName n [] after) (f x)) → (swaps : List Swap) (conds : List Cond) → AreNamesBelow n swaps conds
      → meets f (map (replace_in_cond swaps) conds) ≡ true
  new_meet f new swaps [] h = refl
  new_meet f new swaps (c ∷ conds) h =
      let a = act_name swaps c.name in
      and_both (fresh a (f c.var)) (meets f (map (replace_in_cond swaps) conds))
      (fresh_apart a (f c.var) (each_name (IsNewName n [] after) (λ b. name_eq a b ≡ false) (λ b i. new_apart a b h.0 i) (f c.var) (new c.var)))
      (new_meet f new swaps conds h.1)

pub filled : (cs : List NominalConstructor) (a : NominalAnswer) (swaps : List Swap) (p : Picks) (n : ℕ) → HasTypedVars cs a → AreNamesBelow n swaps a.conds
    → ((x : Var) → term_beside p.vars.keys p.terms.items (λ y. terms.unit) x ≡ embedded (given (picks_from cs n a.vars []).0 x)) → IsFilled cs a swaps p
filled cs a swaps p n typed below table =
    let made = picks_made cs n a.vars typed.inhabited [] in
    let after = (picks_from cs n a.vars []).1 in
    record {
      other = given (picks_from cs n a.vars []).0;
      table = table;
      types = picks_give cs typed.kinds n a.vars typed.typed typed.inhabited [];
      conditions = new_meet n after (given (picks_from cs n a.vars []).0) (given_names n [] after (picks_from cs n a.vars []).0 made.names) swaps a.conds below;
    }

-- one pair more
pub next_pair : (f : Var → NominalTerm) (rest more : List (Var × NominalType)) (x : Var) (t : NominalType) (term : Term) (ps qs : List (Var × Term)) (whole : List (Var × NominalTerm))
    → rest ≡ (x, t) ∷ more → qs ≡ ps ++ (x, term) ∷ [] → term_of term ≡ f x → map term_pair ps ++ pairs_by f rest ≡ whole → map term_pair qs ++ pairs_by f more ≡ whole
next_pair f rest more x t term ps qs whole r q e h =
    ap (λ l. map term_pair l ++ pairs_by f more) q ∙ pushed ps
    ∙ ap (λ u. map term_pair ps ++ (x, u) ∷ pairs_by f more) e ∙ ap (λ l. map term_pair ps ++ pairs_by f l) (sym r) ∙ h
  where
    pushed : (os : List (Var × Term)) → map term_pair (os ++ (x, term) ∷ []) ++ pairs_by f more ≡ map term_pair os ++ (x, term_of term) ∷ pairs_by f more
    pushed [] = refl
    pushed (o ∷ os) = ap (λ l. term_pair o ∷ l) (pushed os)

pairs_same : (f g : Var → NominalTerm) → ((x : Var) → f x ≡ g x) → (vs : List (Var × NominalType)) → pairs_by f vs ≡ pairs_by g vs
pairs_same f g e [] = refl
pairs_same f g e (v ∷ vs) = ap₂ (λ t l. (v.0, t) ∷ l) (e v.0) (pairs_same f g e vs)

-- the two tables together
pub matched_filled : (cs : List NominalConstructor) (a : NominalAnswer) (gs : List GroundTerm) (swaps : List Swap) (p others : Picks) (ps : List (Var × Term))
    → ((other : Grounding) (y : Var) → gives p other y ≡ embedded (matched_with a gs swaps other y)) → IsFilled cs a swaps others
    → map term_pair ps ≡ pairs_by (term_beside p.vars.keys p.terms.items (λ y. term_beside others.vars.keys others.terms.items (λ z. terms.unit) y)) a.vars
    → AreMatched cs a gs swaps ps
matched_filled cs a gs swaps p others ps table filled e = record {
  other = filled.other;
  types = filled.types;
  conditions = filled.conditions;
  given =
      e
      ∙ pairs_same (term_beside p.vars.keys p.terms.items (λ y. term_beside others.vars.keys others.terms.items (λ z. terms.unit) y)) (λ x. embedded (matched_with a gs swaps filled.other x))
      (λ x. ap (λ (t : NominalTerm). term_at_place p.terms.items t (position (var_eq x) p.vars.keys)) (filled.table x) ∙ table filled.other x) a.vars;
}
