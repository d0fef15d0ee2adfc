-- The tree of paths of a query.
use Rattle.std.proofs.Common.{subst, ◌≡◌, ◌≤◌, ℕ, zero, suc, List, [], ◌∷◌, ◌++◌, map, length, refl, sym, ap, ap₂, ◌∙◌, ◌↔◌}
use Rattle.std.specs.Prelude.{Some, option_map, if◌then◌else◌}
use Rattle.ap_defs.specs.Answers.{out_path, outs_at, query_outs}
use Rattle.ap_defs.specs.Goals.{Clauses, NominalQuery}
use Rattle.ap_defs.specs.Paths.{Choice, HasChoice, marked_query}
use Rattle.ap_defs.specs.Resolution.{first_state}
use Rattle.ap_paths.specs.Trees.{AreKids, Outputs, joined_below, times}
use Rattle.ap_search.specs.Marks.{NominalMark, choice, mark_in, mark_path, outs_among, widths_at}
use Rattle.ap_search.specs.PathTrees.{AreInPathOrder, choice_at, first_of, flat, query_choice, query_choices, query_kept}
use Rattle.ap_search.specs.Prefixes.{beginning}
use Rattle.ap_search.specs.Records.{answer_with}
use Rattle.ap_search.specs.StatementsOnTrees.{marks_at}
use Rattle.ap_search.proofs.ContinuationLemmas.{stack_is_query}
use Rattle.ap_search.proofs.MarkLemmas.{beginning_among, marks_stack}
use Rattle.ap_search.proofs.ContinuationLemmas.{marked_stack_is_query}
use Rattle.ap_search.proofs.PrefixLemmas.{prefix_itself}
use Rattle.ap_theory.proofs.BooleanLemmas.{and_both}
use Rattle.ap_defs.specs.PathOrder.{has_prefix}
use Rattle.ap_search.proofs.OrderLemmas.{flat_in_order, one_mark}
use Rattle.ap_search.proofs.SubtreeLemmas.{choice_tells, join_tree, kept_in_order, left_out_below, widths_below}
use Rattle.ap_search.proofs.TreeLemmas.{Grows, stack_grows}

joined_same : (at to : Outputs) → ((p : List ℕ) → at p ≡ to p) → (p : List ℕ) (i n : ℕ) → joined_below at p i n ≡ joined_below to p i n
joined_same at to h p i zero = refl
joined_same at to h p i (suc n) = ap₂ ◌++◌ (h (p ++ i ∷ [])) (joined_same at to h p (suc i) n)

module _ (program : Clauses) (d : ℕ) (q : NominalQuery) where
  abbrev query_marks : List NominalMark
  query_marks = map (mark_in q.locals) (marked_query program d q)

  pub query_grows : Grows [] (first_state q) query_marks
  query_grows =
      let grown = stack_grows program (answer_with q.locals) (record { goal = q.goal; depth = d } ∷ []) [] (first_state q) [] in
      (grown.0, sym (marked_stack_is_query program d q) ∙ grown.1, grown.2)

  -- the outputs are those among the marks
  pub outs_among_marks : query_outs program d q ≡ outs_among query_marks
  outs_among_marks =
      sym (stack_is_query program d q) ∙ sym (marks_stack program (answer_with q.locals) (record { goal = q.goal; depth = d } ∷ []) [] (first_state q) [])
      ∙ ap outs_among (marked_stack_is_query program d q)

  pub outs_at_marks : (p : List ℕ) → outs_at program d q p ≡ outs_among (beginning mark_path p query_marks)
  outs_at_marks p = ap (beginning out_path p) outs_among_marks ∙ sym (beginning_among p query_marks)

  -- what is below a choice is what is below each of its ways, in order
  pub query_tree : (p : List ℕ) (w : ℕ) → query_choices program d q p ≡ Some w → outs_at program d q p ≡ joined_below (outs_at program d q) p 1 w
  query_tree p w h =
      let t = query_grows.0 in
      let e : query_marks ≡ flat [] t = query_grows.1 in
      let same : (r : List ℕ) → outs_at program d q r ≡ outs_among (beginning mark_path r (flat [] t)) = λ r. outs_at_marks r ∙ ap (λ ms. outs_among (beginning mark_path r ms)) e in
      same p ∙ join_tree t p w (ap (λ (ms : List NominalMark). option_map (λ (c : Choice). c.width) (choice_at p ms)) (sym e) ∙ h) ∙ joined_same _ _ (λ r. sym (same r)) p 1 w

  -- of a choice the ways that are kept ascend, and the others have nothing
  pub query_left_out : (p ks : List ℕ) → query_kept program d q p ≡ Some ks → (k : ℕ) → times k ks ≡ 0 → beginning mark_path (p ++ k ∷ []) query_marks ≡ []
  query_left_out p ks h k left =
      let e : query_marks ≡ flat [] query_grows.0 = query_grows.1 in
      ap (beginning mark_path (p ++ k ∷ [])) e
      ∙ left_out_below query_grows.0 (query_grows.2 (tt, tt)) p ks (ap (λ (ms : List NominalMark). option_map (λ (c : Choice). c.kept) (choice_at p ms)) (sym e) ∙ h) k left

  pub query_kids : (p ks : List ℕ) → query_kept program d q p ≡ Some ks → AreKids (query_choices program d q) (outs_at program d q) p ks
  query_kids p ks h =
      let e : query_marks ≡ flat [] query_grows.0 = query_grows.1 in
      let kept = kept_in_order query_grows.0 (query_grows.2 (tt, tt)) p ks (ap (λ (ms : List NominalMark). option_map (λ (c : Choice). c.kept) (choice_at p ms)) (sym e) ∙ h) in (
        kept.0,
        ap (λ (ms : List NominalMark). option_map (λ (c : Choice). c.width) (choice_at p ms)) e ∙ kept.1,
        kept.2,
        kept.3,
        λ k low high left. outs_at_marks (p ++ k ∷ []) ∙ ap outs_among (query_left_out p ks h k left),
      )

  pub query_tells : (p : List ℕ) (c : Choice) → HasChoice (marked_query program d q) p c ↔ (query_choice program d q p ≡ Some c)
  query_tells p c = choice_tells q.locals query_grows.0 (marked_query program d q) query_grows.1 p c

  pub query_in_order : AreInPathOrder (query_outs program d q)
  query_in_order = subst AreInPathOrder (sym (outs_among_marks ∙ ap outs_among query_grows.1)) (flat_in_order [] query_grows.0)

  pub query_one_mark : (p : List ℕ) → length (marks_at p query_marks) ≤ 1
  query_one_mark p = subst (λ (ms : List NominalMark). length (marks_at p ms) ≤ 1) (sym query_grows.1) (one_mark query_grows.0 p)

  -- among how many the search chooses at a path can be read off what is there
  pub place_choice : (p : List ℕ) (ms : List NominalMark) → beginning mark_path p query_marks ≡ ms → query_choice program d q p ≡ choice_at p ms
  place_choice p ms h = ap first_of (sym (widths_below p query_marks)) ∙ ap (choice_at p) h

-- where a choice stands first
pub width_choice : (p : List ℕ) (w : Choice) (ms : List NominalMark) → choice_at p (choice p w ∷ ms) ≡ Some w
width_choice p w ms =
    ap (λ b. first_of (if b then (w ∷ widths_at p ms) else widths_at p ms)) (and_both (has_prefix p p) (has_prefix p p) (prefix_itself p) (prefix_itself p))
