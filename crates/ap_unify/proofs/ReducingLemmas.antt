-- Steps of the loops that reduce problems from the last to the first.
use Rattle.std.proofs.Common.{◌≡◌, ◌<◌, ◌+◌, ℕ, suc, List, [], ◌∷◌, ◌++◌, length, get_or, take, drop, map, refl, sym, ap, ◌∙◌, add-one}
use Rattle.std.proofs.Math.Seq.{drop-cons}
use Rattle.std.proofs.lemmas.List.{map-append, take-append-drop}
use Rattle.std.specs.Prelude.{Option, Some, None}
use Rattle.ap_defs.specs.Freshness.{Conds, add_conds, both}
use Rattle.ap_defs.specs.Substitution.{Binding, Problem, ◌#◌}
use Rattle.ap_defs.specs.Unification.{reduce_all}
use Rattle.ap_defs.specs.declared.terms.Cond.{Cond}
use Rattle.ap_fresh.proofs.SetLemmas.{added_both, added_none, both_left, both_right, collected_set}
use Rattle.ap_fresh.specs.Reduction.{added}
use Rattle.ap_theory.proofs.ReductionLemmas.{reduce_all-append}
use Rattle.ap_theory.specs.StatementsOnConditions.{collected}
use Rattle.ap_unify.specs.Finishing.{reduced}

reduce_first : (s : List Binding) (p : Problem) (ps : List Problem) → reduce_all s (p ∷ ps) ≡ both (reduced s p) (reduce_all s ps)
reduce_first s (a # t) ps = refl

module _ {A : Type 0} (f : A → Problem) (s : List Binding) (xs : List A) (ds es : Conds) (i j : ℕ) (d : A) (e : i ≡ j + 1) (l : j < length xs) where
  parts : reduce_all s (map f (drop j xs)) ≡ both (reduced s (f (get_or xs j d))) (reduce_all s (map f (drop i xs)))
  parts =
      ap (λ ys. reduce_all s (map f ys)) (drop-cons xs j d l) ∙ reduce_first s (f (get_or xs j d)) (map f (drop (suc j) xs))
      ∙ ap (λ n. both (reduced s (f (get_or xs j d))) (reduce_all s (map f (drop n xs)))) (sym (e ∙ add-one j))

  -- one more is reduced
  pub reduced_more : (fs : Conds) → added (reduce_all s (map f (drop i xs))) ds ≡ collected (Some es) → added (reduced s (f (get_or xs j d))) es ≡ collected (Some fs)
      → added (reduce_all s (map f (drop j xs))) ds ≡ collected (Some fs)
  reduced_more fs h k =
      ap (λ o. added o ds) parts ∙ added_both (reduced s (f (get_or xs j d))) (reduce_all s (map f (drop i xs))) ds es fs h k

  -- one is refuted
  pub reduced_none : added (reduced s (f (get_or xs j d))) es ≡ None → added (reduce_all s (map f xs)) ds ≡ None
  reduced_none h =
      let tail : reduce_all s (map f (drop j xs)) ≡ None = parts ∙ both_left (reduced s (f (get_or xs j d))) (reduce_all s (map f (drop i xs))) (added_none (reduced s (f (get_or xs j d))) es h) in
      ap (λ o. added o ds)
      (ap (λ ys. reduce_all s (map f ys)) (sym (take-append-drop j xs)) ∙ ap (reduce_all s) (map-append f (take j xs) (drop j xs))
      ∙ reduce_all-append s (map f (take j xs)) (map f (drop j xs)) ∙ both_right (reduce_all s (map f (take j xs))) (reduce_all s (map f (drop j xs))) tail)

-- Conditions in front of problems.
module _ (s : List Binding) (cs ps : List Problem) (es : Conds) where
  pub problems_refuted : added (reduce_all s ps) es ≡ None → collected (reduce_all s (cs ++ ps)) ≡ None
  problems_refuted h = ap collected (reduce_all-append s cs ps ∙ both_right (reduce_all s cs) (reduce_all s ps) (added_none (reduce_all s ps) es h))

  pub conditions_refuted : added (reduce_all s cs) es ≡ None → collected (reduce_all s (cs ++ ps)) ≡ None
  conditions_refuted h = ap collected (reduce_all-append s cs ps ∙ both_left (reduce_all s cs) (reduce_all s ps) (added_none (reduce_all s cs) es h))

  pub all_collected : (fs : Conds) → added (reduce_all s ps) [] ≡ collected (Some es) → added (reduce_all s cs) es ≡ collected (Some fs) → collected (reduce_all s (cs ++ ps)) ≡ Some (add_conds fs [])
  all_collected fs h k =
      ap collected (reduce_all-append s cs ps)
      ∙ collected_set (both (reduce_all s cs) (reduce_all s ps)) fs (added_both (reduce_all s cs) (reduce_all s ps) [] es fs h k)
