-- The paths of the tree are those of which each entry is a choice.
use Rattle.std.proofs.Common.{subst, ◌≡◌, ◌≤◌, ℕ, List, [], ◌∷◌, ◌++◌, refl, sym, ap, append_assoc, append-nil, ◌↔◌}
use Rattle.std.specs.Prelude.{Option, Some, None, option_map}
use Rattle.ap_defs.specs.Goals.{Clauses, NominalQuery}
use Rattle.ap_defs.specs.Paths.{Choice, HasChoice, InTree, Mark, chosen, marked_query, root}
use Rattle.ap_paths.specs.Trees as trees
use Rattle.ap_paths.specs.Trees.{Choices, GoesOn, IsChoice}
use Rattle.ap_search.specs.PathTrees.{query_choice, query_choices}
use Rattle.ap_search.proofs.QueryTreeLemmas.{query_tells}

module _ (ms : List Mark) (at : List ℕ → Option Choice) (same : (p : List ℕ) (w : Choice) → HasChoice ms p w ↔ (at p ≡ Some w)) where
  -- among how many
  abbrev c : Choices
  c p = option_map (λ (w : Choice). w.width) (at p)

  goes_further : (q ks : List ℕ) (k : ℕ) → GoesOn c q ks → IsChoice (c (q ++ ks)) k → GoesOn c q (ks ++ k ∷ [])
  goes_further q [] k h i = (subst (λ (p : List ℕ). IsChoice (c p) k) (append-nil q) i, tt)
  goes_further q (j ∷ ks) k h i =
      let e : q ++ j ∷ ks ≡ (q ++ j ∷ []) ++ ks = sym (append_assoc q (j ∷ []) ks) in
      (h.0, goes_further (q ++ j ∷ []) ks k h.1 (subst (λ (p : List ℕ). IsChoice (c p) k) e i))

  choice_is : (o : Option ℕ) (w k : ℕ) → o ≡ Some w → 1 ≤ k → k ≤ w → IsChoice o k
  choice_is o w k e l h = subst (λ (z : Option ℕ). IsChoice z k) (sym e) (l, h)

  pub tree_goes : (p : List ℕ) → InTree ms p → GoesOn c [] p
  tree_goes _ root = tt
  tree_goes _ (chosen {p} {c = w} k t h l m) = goes_further [] p k (tree_goes p t) (choice_is (c p) w.width k (ap (option_map (λ (v : Choice). v.width)) ((same p w).0 h)) l m)

  choice_in : (p : List ℕ) (k : ℕ) → InTree ms p → (o : Option Choice) → at p ≡ o → IsChoice (option_map (λ (w : Choice). w.width) o) k → InTree ms (p ++ k ∷ [])
  choice_in p k t None e h = absurd h
  choice_in p k t (Some w) e h = chosen k t ((same p w).1 e) h.0 h.1

  pub goes_tree : (q ks : List ℕ) → InTree ms q → GoesOn c q ks → InTree ms (q ++ ks)
  goes_tree q [] t h = subst (InTree ms) (sym (append-nil q)) t
  goes_tree q (k ∷ ks) t h =
      subst (InTree ms) (append_assoc q (k ∷ []) ks) (goes_tree (q ++ k ∷ []) ks (choice_in q k t (at q) refl h.0) h.1)

-- a path stands in the tree of the marks just where each of its entries is a choice
pub query_in_tree : (program : Clauses) (d : ℕ) (q : NominalQuery) (p : List ℕ) → InTree (marked_query program d q) p ↔ trees.InChoiceTree (query_choices program d q) p
query_in_tree program d q p = (
  (λ t. tree_goes (marked_query program d q) (query_choice program d q) (query_tells program d q) p t),
  (λ h. goes_tree (marked_query program d q) (query_choice program d q) (query_tells program d q) [] p root h),
)
