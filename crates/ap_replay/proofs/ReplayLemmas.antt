-- Choices of a problem's search, and the branches that stand at them.
use Rattle.std.proofs.Common.{◌≡◌, ℕ, zero, suc, ◌-◌, ◌+◌, ◌<◌, ◌≤◌, ◌↔◌, lt-ltb, le-ltb, List, [], ◌∷◌, ◌++◌, length, map, drop, get_or, refl, sym, ap, ◌∙◌, subst, append_assoc, Bool, true, false, arith}
use Rattle.std.specs.Prelude.{Option, Some, None, option_map, Vec, nat_lt, if◌then◌else◌, slice_get}
use Rattle.std.proofs.lemmas.List.{drop_more}
use Rattle.ap_defs.specs.Answers.{NominalOut, outs_at}
use Rattle.ap_defs.specs.Goals.{NominalQuery}
use Rattle.ap_defs.specs.Paths.{Choice}
use Rattle.ap_defs.specs.declared.paths.Node.{Node}
use Rattle.ap_defs.specs.declared.paths.Node.TheVariants as nodes
use Rattle.ap_paths.specs.Trees.{Choices, GoesOn, InChoiceTree, IsChoice}
use Rattle.ap_search.specs.PathTrees.{query_choice, query_choices, query_kept}
use Rattle.ap_backchain.specs.Branches.{IsBranchOf, IsDescentOf, IsNodeAt, choices_at, path_of_branch, path_of_descent}
use Rattle.ap_backchain.specs.Ends.{kept_out}
use Rattle.ap_backchain.specs.Problems.{HasQuery, clauses_in, queries_in}
use Rattle.ap_backchain.specs.declared.branch.Branch.{Branch}
use Rattle.ap_backchain.specs.declared.descent.Descent.{Descent}
use Rattle.ap_backchain.specs.declared.problem.Problem.{Problem}
use Rattle.ap_backchain.specs.declared.run.Paths.{Paths}
use Rattle.ap_paths.specs.Entries as entries
use Rattle.ap_paths.specs.Entries.{Plan}
use Rattle.ap_replay.specs.ProblemTrees.{choices_below, choices_below_of, choices_of, is_shared, kid_numbers, kept_of, kept_outs, node_kids, outs_of_asked, problem_choices, problem_kept, query_in, shared_out, shared_plan}

there_is : (qs : List NominalQuery) (k : ℕ) → k < length qs → (q : NominalQuery) × (slice_get qs k ≡ Some q)
there_is [] k h = absurd (omega arith)
there_is (q ∷ qs) zero h = (q, refl)
there_is (q ∷ qs) (suc k) h = there_is qs k (omega arith)

pub its_query : (p : Problem) → HasQuery p → (q : NominalQuery) × (query_in p ≡ Some q)
its_query p h = there_is (queries_in p) (p.query - 1) (let a = h.0 in let b = h.1 in omega arith)

module _ (p : Problem) (q : NominalQuery) (asked : query_in p ≡ Some q) where
  same_choices : (path : List ℕ) → problem_choices p path ≡ query_choices (clauses_in p) p.depth q path
  same_choices path = ap (λ o. choices_of (clauses_in p) p.depth o path) asked

abbrev pub ExactWidth : Descent → Option ℕ → Type 0
ExactWidth d w = (p : Problem) (q : NominalQuery) → slice_get (queries_in p) (p.query - 1) ≡ Some q → IsDescentOf p d → w ≡ query_choices (clauses_in p) p.depth q (path_of_descent d)

-- the choices where a search stands are those of the problem at its path
module _ (p : Problem) (d : Descent) (w : Option ℕ) (k : ℕ) (h : HasQuery p) (of : IsDescentOf p d) (width : ExactWidth d w) where
  choices_there : w ≡ problem_choices p (path_of_descent d)
  choices_there = let asked = its_query p h in width p asked.0 asked.1 of ∙ sym (same_choices p asked.0 asked.1 (path_of_descent d))

  pub taken : IsChoice w k → IsChoice (problem_choices p (path_of_descent d)) k
  taken chosen = subst (λ (o : Option ℕ). IsChoice o k) choices_there chosen

  pub given : IsChoice (problem_choices p (path_of_descent d)) k → IsChoice w k
  given chosen = subst (λ (o : Option ℕ). IsChoice o k) (sym choices_there) chosen

-- One more choice of a path, from where the choices so far led.
module _ (c : Choices) (all p q : List ℕ) (i k d : ℕ) (h : i < length all) (at : k ≡ get_or all i d) (further : q ≡ p ++ k ∷ []) where
  choices_left : drop i all ≡ k ∷ drop (i + 1) all
  choices_left = drop_more all i d h ∙ ap (λ x. x ∷ drop (i + 1) all) (sym at)

  pub same_path : p ++ drop i all ≡ all → q ++ drop (i + 1) all ≡ all
  same_path e = ap (λ x. x ++ drop (i + 1) all) further ∙ append_assoc p (k ∷ []) (drop (i + 1) all) ∙ ap (λ ks. p ++ ks) (sym choices_left) ∙ e

  pub same_there : IsChoice (c p) k → (GoesOn c p (drop i all) ↔ InChoiceTree c all) → (GoesOn c q (drop (i + 1) all) ↔ InChoiceTree c all)
  same_there chosen e =
      let goes = subst (λ ks. GoesOn c p ks ↔ InChoiceTree c all) choices_left e in
      subst (λ x. GoesOn c x (drop (i + 1) all) ↔ InChoiceTree c all) (sym further) ((λ on. goes.0 (chosen, on)), (λ there. (goes.1 there).1))

-- the outputs of a branch are those at its path
pub outs_there : (paths : Paths) (p : Problem) (os : List NominalOut) (path : List ℕ) → HasQuery p
    → ((q : NominalQuery) → slice_get (queries_in p) (p.query - 1) ≡ Some q → os ≡ map (kept_out paths) (outs_at (clauses_in p) p.depth q path)) → os ≡ kept_outs paths p path
outs_there paths p os path h is =
    let asked = its_query p h in is asked.0 asked.1 ∙ sym (ap (λ o. map (kept_out paths) (outs_of_asked (clauses_in p) p.depth o path)) asked.1)

-- The plan at the path of a branch, where a visit answers its kids or the outputs.
abbrev pub ExactNode : Branch → Node → Type 0
ExactNode b n = (p : Problem) (q : NominalQuery) → slice_get (queries_in p) (p.query - 1) ≡ Some q → IsBranchOf p b → IsNodeAt (clauses_in p) p.depth q (path_of_branch b) n

-- where a branch chooses, the search of its problem does
pub width_there : (p : Problem) (b : Branch) (path : List ℕ) (w : ℕ) (ks : List ℕ) → HasQuery p → IsBranchOf p b → path_of_branch b ≡ path → ExactNode b (nodes.Choice w ks)
    → Some w ≡ problem_choices p path
width_there p b path w ks h of same node =
    let asked = its_query p h in
    let at : query_choice (clauses_in p) p.depth asked.0 path ≡ Some (record { width = w; kept = ks }) =
    subst (λ (x : List ℕ). query_choice (clauses_in p) p.depth asked.0 x ≡ Some (record { width = w; kept = ks })) same (node p asked.0 asked.1 of) in
    sym (same_choices p asked.0 asked.1 path ∙ ap (option_map (λ (c : Choice). c.width)) at)

abbrev plan_by : Bool → Option (List ℕ) → List NominalOut → Plan
plan_by shared o os = if shared then shared_out o os else entries.outs os

no_choice : (b : Bool) (os : List NominalOut) → entries.outs os ≡ plan_by b None os
no_choice true os = refl
no_choice false os = refl

module _ (most : ℕ) (paths : Paths) (p : Problem) (q : NominalQuery) (asked : query_in p ≡ Some q) (path : List ℕ) where
  same_kept : problem_kept p path ≡ query_kept (clauses_in p) p.depth q path
  same_kept = ap (λ o. kept_of (clauses_in p) p.depth o path) asked

  -- where it does not choose it keeps nothing
  none_kept : (o : Option Choice) → option_map (λ (c : Choice). c.width) o ≡ None → option_map (λ (c : Choice). c.kept) o ≡ None
  none_kept None e = refl
  none_kept (Some c) e = cc

  not_choosing : (b : Bool) → query_choices (clauses_in p) p.depth q path ≡ None → entries.outs (kept_outs paths p path) ≡ plan_by b (problem_kept p path) (kept_outs paths p path)
  not_choosing b e =
      no_choice b (kept_outs paths p path) ∙ ap (λ o. plan_by b o (kept_outs paths p path)) (sym (same_kept ∙ none_kept (query_choice (clauses_in p) p.depth q path) e))

  few_planned : (many : Bool) → many ≡ false → entries.outs (kept_outs paths p path) ≡ plan_by many (problem_kept p path) (kept_outs paths p path)
  few_planned true few = absurd cc
  few_planned false few = refl

  many_planned : (many : Bool) (ks : List ℕ) → query_kept (clauses_in p) p.depth q path ≡ Some ks → many ≡ true
      → entries.kids ks ≡ plan_by many (problem_kept p path) (kept_outs paths p path)
  many_planned true ks e h = ap (λ o. shared_out o (kept_outs paths p path)) (sym (same_kept ∙ e))
  many_planned false ks e h = absurd cc

  few_outs : choices_below p path ≤ most → entries.outs (kept_outs paths p path) ≡ shared_plan paths p most path
  few_outs few = few_planned (nat_lt (most) (choices_below p path)) (le-ltb (most) (choices_below p path) few)

  many_kids : (n : Node) (ks : List ℕ) → IsNodeAt (clauses_in p) p.depth q path n → node_kids n ≡ Some ks → most < choices_below p path → entries.kids ks ≡ shared_plan paths p most path
  many_kids (nodes.Choice w kept) ks at h many =
      let same : ks ≡ kept = cc in
      let yes : nat_lt (most) (choices_below p path) ≡ true = lt-ltb (most) (choices_below p path) many in
      ap entries.kids same ∙ many_planned (nat_lt (most) (choices_below p path)) kept (ap (option_map (λ (c : Choice). c.kept)) at) yes
  many_kids nodes.Answer ks at h many = absurd cc
  many_kids nodes.Cut ks at h many = absurd cc
  many_kids nodes.Stuck ks at h many = absurd cc
  many_kids nodes.Failed ks at h many = absurd cc

  no_kids_at : (n : Node) → IsNodeAt (clauses_in p) p.depth q path n → node_kids n ≡ None → entries.outs (kept_outs paths p path) ≡ shared_plan paths p most path
  no_kids_at (nodes.Choice w kept) at h = absurd cc
  no_kids_at nodes.Answer at h = not_choosing (is_shared most p path) at.0
  no_kids_at nodes.Cut at h = not_choosing (is_shared most p path) at.0
  no_kids_at nodes.Stuck at h = not_choosing (is_shared most p path) at.0
  no_kids_at nodes.Failed at h = not_choosing (is_shared most p path) at.0

  below_is : choices_below p path ≡ choices_at (clauses_in p) p.depth q path
  below_is = ap (λ o. choices_below_of (clauses_in p) p.depth o path) asked

-- the same by what a visit knows of the branch
module _ (most : ℕ) (paths : Paths) (p : Problem) (b : Branch) (n : Node) (path : List ℕ) (h : HasQuery p) (of : IsBranchOf p b) (same : path_of_branch b ≡ path) (node : ExactNode b n) where
  asked : (q : NominalQuery) × (query_in p ≡ Some q)
  asked = its_query p h

  node_there : IsNodeAt (clauses_in p) p.depth asked.0 path n
  node_there = subst (λ (x : List ℕ). IsNodeAt (clauses_in p) p.depth asked.0 x n) same (node p asked.0 asked.1 of)

  abbrev pub AreBelow : List NominalOut → Type 0
  AreBelow os = (q : NominalQuery) → slice_get (queries_in p) (p.query - 1) ≡ Some q → os ≡ map (kept_out paths) (outs_at (clauses_in p) p.depth q (path_of_branch b))

  outs_planned : (os : List NominalOut) → AreBelow os → entries.outs (kept_outs paths p path) ≡ shared_plan paths p most path → entries.outs os ≡ shared_plan paths p most path
  outs_planned os are planned =
      ap entries.outs (outs_there paths p os path h (λ q k. are q k ∙ ap (λ x. map (kept_out paths) (outs_at (clauses_in p) p.depth q x)) same)) ∙ planned

  pub planned_end : {Z : Type 0} (o : Option (Vec ℕ Z)) (os : List NominalOut) → o ≡ None → kid_numbers o ≡ node_kids n → AreBelow os → entries.outs os ≡ shared_plan paths p most path
  planned_end o os e k are = outs_planned os are (no_kids_at most paths p asked.0 asked.1 path n node_there (sym k ∙ ap kid_numbers e))

  pub planned_few : (os : List NominalOut) → AreBelow os
      → ((q : NominalQuery) → slice_get (queries_in p) (p.query - 1) ≡ Some q → choices_at (clauses_in p) p.depth q (path_of_branch b) ≤ most)
      → entries.outs os ≡ shared_plan paths p most path
  planned_few os are few =
      outs_planned os are
      (few_outs most paths p asked.0 asked.1 path
      (subst (λ (c : ℕ). c ≤ most) (ap (choices_at (clauses_in p) p.depth asked.0) same ∙ sym (below_is most paths p asked.0 asked.1 path)) (few asked.0 asked.1)))

  pub planned_many : {Z : Type 0} (o : Option (Vec ℕ Z)) (v : Vec ℕ Z) → o ≡ Some v → kid_numbers o ≡ node_kids n
      → ((q : NominalQuery) → slice_get (queries_in p) (p.query - 1) ≡ Some q → most < choices_at (clauses_in p) p.depth q (path_of_branch b))
      → entries.kids v.items ≡ shared_plan paths p most path
  planned_many o v e k many =
      many_kids most paths p asked.0 asked.1 path n v.items node_there (sym k ∙ ap kid_numbers e)
      (subst (λ (c : ℕ). most < c) (ap (choices_at (clauses_in p) p.depth asked.0) same ∙ sym (below_is most paths p asked.0 asked.1 path)) (many asked.0 asked.1))

-- the outputs of a whole search are those of its path
pub whole_outs : (paths : Paths) (p : Problem) (b : Branch) (path : List ℕ) → HasQuery p → path_of_branch b ≡ path → (os : List NominalOut)
    → ((q : NominalQuery) → slice_get (queries_in p) (p.query - 1) ≡ Some q → os ≡ map (kept_out paths) (outs_at (clauses_in p) p.depth q (path_of_branch b)))
    → entries.outs os ≡ entries.outs (kept_outs paths p path)
whole_outs paths p b path h same os are =
    ap entries.outs (outs_there paths p os path h (λ q k. are q k ∙ ap (λ x. map (kept_out paths) (outs_at (clauses_in p) p.depth q x)) same))
