-- A problem has a tree of paths, and its plan is one that a tree may have.
use Rattle.std.proofs.Common.{◌≡◌, ◌∙◌, ℕ, zero, suc, List, [], ◌∷◌, ◌++◌, map, refl, ap}
use Rattle.std.proofs.lemmas.List.{map-append}
use Rattle.std.specs.Prelude.{Option, Some, None, true, false, Bool, if◌then◌else◌}
use Rattle.ap_defs.specs.Answers.{NominalOut}
use Rattle.ap_defs.specs.Goals.{Clauses, NominalQuery}
use Rattle.ap_paths.specs.Trees.{AreKids, Choices, InChoiceTree, IsPlan, IsTree, Outputs, joined_below}
use Rattle.ap_paths.specs.Entries as entries
use Rattle.ap_search.proofs.QueryTreeLemmas.{query_kids, query_tree}
use Rattle.ap_backchain.specs.Ends.{kept_out}
use Rattle.ap_backchain.specs.Problems.{clauses_in}
use Rattle.ap_backchain.specs.declared.problem.Problem.{Problem}
use Rattle.ap_backchain.specs.declared.run.Paths.{Paths}
use Rattle.ap_replay.specs.ProblemTrees.{choices_of, is_shared, kept_of, kept_outs, outs_of_asked, problem_choices, problem_kept, problem_plan, query_in, shared_out}

-- A tree is one too where a function is applied to each of its outputs.
module _ (f : NominalOut → NominalOut) (at : Outputs) where
  map_joined : (p : List ℕ) (i n : ℕ) → map f (joined_below at p i n) ≡ joined_below (λ q. map f (at q)) p i n
  map_joined p i zero = refl
  map_joined p i (suc n) = map-append f (at (p ++ i ∷ [])) (joined_below at p (suc i) n) ∙ ap (λ os. map f (at (p ++ i ∷ [])) ++ os) (map_joined p (suc i) n)

  mapped_tree : (c : Choices) → IsTree c at → IsTree c (λ q. map f (at q))
  mapped_tree c tree p w there h = ap (map f) (tree p w there h) ∙ map_joined p 1 w

  mapped_kids : (c : Choices) (p ks : List ℕ) → AreKids c at p ks → AreKids c (λ q. map f (at q)) p ks
  mapped_kids c p ks kids =
      (kids.0, kids.1, kids.2, kids.3, (λ k least most none. ap (map f) (kids.4 k least most none)))

branches_of : (program : Clauses) (d : ℕ) (o : Option NominalQuery) → IsTree (choices_of program d o) (outs_of_asked program d o)
branches_of program d None path w there h = absurd (let e : None ≡ Some w = h in cc)
branches_of program d (Some q) path w there h = query_tree program d q path w h

pub problem_branches : (paths : Paths) (p : Problem) → IsTree (problem_choices p) (kept_outs paths p)
problem_branches paths p =
    mapped_tree (kept_out paths) (outs_of_asked (clauses_in p) p.depth (query_in p)) (problem_choices p) (branches_of (clauses_in p) p.depth (query_in p))

kids_kept : (program : Clauses) (d : ℕ) (o : Option NominalQuery) (path ks : List ℕ) → kept_of program d o path ≡ Some ks → AreKids (choices_of program d o) (outs_of_asked program d o) path ks
kids_kept program d None path ks h = absurd (let e : None ≡ Some ks = h in cc)
kids_kept program d (Some q) path ks h = query_kids program d q path ks h

module _ (paths : Paths) (p : Problem) (path : List ℕ) where
  shared_planned : (o : Option (List ℕ)) → problem_kept p path ≡ o → IsPlan (problem_choices p) (kept_outs paths p) path (shared_out o (kept_outs paths p path))
  shared_planned None h = refl
  shared_planned (Some ks) h =
      mapped_kids (kept_out paths) (outs_of_asked (clauses_in p) p.depth (query_in p)) (problem_choices p) path ks (kids_kept (clauses_in p) p.depth (query_in p) path ks h)

  planned_if : (b : Bool)
      → IsPlan (problem_choices p) (kept_outs paths p) path (if b then shared_out (problem_kept p path) (kept_outs paths p path) else entries.outs (kept_outs paths p path))
  planned_if true = shared_planned (problem_kept p path) refl
  planned_if false = refl

pub problem_planned : (paths : Paths) (p : Problem) (most : Option ℕ) (path : List ℕ) → InChoiceTree (problem_choices p) path
    → IsPlan (problem_choices p) (kept_outs paths p) path (problem_plan paths p most path)
problem_planned paths p None path there = refl
problem_planned paths p (Some most) path there = planned_if paths p path (is_shared most p path)
