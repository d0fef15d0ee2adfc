-- Turns of the loop that picks a term.
use Rattle.std.proofs.Common.{◌≡◌, ◌≤◌, ◌∙◌, ℕ, List, [], ◌∷◌, ◌++◌, sym, ap, ap₂, arith}
use Rattle.ap_defs.specs.declared.spines.TermLayer.{TermLayer}
use Rattle.ap_defs.specs.declared.spines.TermLayer.TheVariants as layers
use Rattle.ap_defs.specs.declared.terms.Term.{Term}
use Rattle.ap_defs.specs.Spines.{term_in, term_within}
use Rattle.ap_defs.specs.Terms.{pair, term_of}
use Rattle.ap_defs.specs.Types.{NominalConstructor}
use Rattle.ap_defs.specs.Typing.{embedded}
use Rattle.ap_defs.proofs.SpineLemmas.{term_within_last}
use Rattle.ap_picks.specs.Wants.{IsBeside, IsInside, IsWell, cost, pick_for}
use Rattle.ap_picks.specs.declared.opening.Want.{Want}

-- The whole is the rest within layers.
pub record IsRest (cs : List NominalConstructor) (n : ℕ) (whole : Want) (before : List ℕ) (ls : List TermLayer) (rest : Want) (now : List ℕ) : Type 0 where
  pub term : embedded (pick_for cs n whole before).0 ≡ term_within ls (embedded (pick_for cs n rest now).0)
  pub sorts : (pick_for cs n whole before).1 ≡ (pick_for cs n rest now).1
  pub well : IsWell cs rest
  pub less : cost cs rest ≤ cost cs whole

module _ (cs : List NominalConstructor) (n : ℕ) (whole : Want) (before : List ℕ) (ls : List TermLayer) (w : Want) (now : List ℕ) (h : IsRest cs n whole before ls w now) where
  pub turn_leaf : (t : Term) (made : Term) (after : List ℕ) → (embedded (pick_for cs n w now).0 ≡ term_of t) × ((pick_for cs n w now).1 ≡ after)
      → term_of made ≡ term_within ls (term_of t) → term_of made ≡ embedded (pick_for cs n whole before).0
  turn_leaf t made after k m = m ∙ sym (h.term ∙ ap (term_within ls) k.0)

  pub turn_inside : (l : TermLayer) (v : Want) (after : List ℕ) → IsInside cs n now w after v (term_in l) → IsRest cs n whole before (ls ++ l ∷ []) v after
  turn_inside l v after k = record {
    term = h.term ∙ ap (term_within ls) k.term ∙ sym (term_within_last ls l (embedded (pick_for cs n v after).0));
    sorts = h.sorts ∙ k.sorts;
    well = k.well;
    less = let a = h.less in let b = k.less in omega (arith, a, b);
  }

  pub turn_beside : (u v : Want) (after more : List ℕ) (made : Term) → IsBeside cs n now w after u v → term_of made ≡ embedded (pick_for cs n u after).0 → more ≡ (pick_for cs n u after).1
      → IsRest cs n whole before (ls ++ layers.Left made ∷ []) v more
  turn_beside u v after more made k m e =
      let now_more : more ≡ (pick_for cs n u now).1 = e ∙ ap (λ ss. (pick_for cs n u ss).1) k.same in
      let made_now : term_of made ≡ embedded (pick_for cs n u now).0 = m ∙ ap (λ ss. embedded (pick_for cs n u ss).0) k.same in
      record {
        term =
            h.term ∙ ap (term_within ls) (k.term ∙ ap₂ (λ t ss. pair t (embedded (pick_for cs n v ss).0)) (sym made_now) (sym now_more))
            ∙ sym (term_within_last ls (layers.Left made) (embedded (pick_for cs n v more).0));
        sorts = h.sorts ∙ k.sorts ∙ ap (λ ss. (pick_for cs n v ss).1) (sym now_more);
        well = k.right_well;
        less = let a = h.less in let b = k.right_less in omega (arith, a, b);
      }
