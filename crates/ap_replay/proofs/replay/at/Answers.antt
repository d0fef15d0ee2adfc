use Rattle.std.proofs.Common.{◌≡◌, ℕ, List, [], ◌++◌, drop, refl, sym, ap, ◌∙◌, subst, append-nil}
use Rattle.std.proofs.lemmas.List.{drop_all}
use Rattle.ap_paths.specs.Trees.{GoesOn, InChoiceTree}
use Rattle.ap_backchain.specs.Branches.{path_of_descent}
use Rattle.ap_replay.specs.ProblemTrees.{problem_choices}
use Rattle.ap_replay.proofs.ReplayLemmas.{same_path, same_there}
use Rattle.ap_replay.proofs.replay.at.Goals as goal

pub stepping-preserved : goal.stepping-preserved
stepping-preserved c =
    let choices = problem_choices c.args.p.now in
    let all = c.choices-choices.result.now in
    let here = path_of_descent c.stepping.descent in
    let there = path_of_descent c.in_ok-descent-2.descent in
    let i = c.stepping.choice-index in
    record {
      of = c.in_ok-descent-2.ensures.of;
      path = same_path choices all here there i _ _ c.stepping-test.true refl c.in_ok-descent-2.ensures.path c.stepping.invariant.path;
      there = same_there choices all here there i _ _ c.stepping-test.true refl c.in_ok-descent-2.ensures.path c.in_ok-descent-2.ensures.taken c.stepping.invariant.there;
    }

-- no choice is left
pub returns-clause-path : goal.returns-clause-path
returns-clause-path c =
    let here = path_of_descent c.stepping.descent in
    let all = c.choices-choices.result.now in
    let none : drop c.stepping.choice-index all ≡ [] = drop_all c.stepping.choice-index all c.stepping-test.false in
    c.in_ok-stop.ensures.path ∙ sym (append-nil here) ∙ ap (λ (ks : List ℕ). here ++ ks) (sym none) ∙ c.stepping.invariant.path ∙ c.choices-choices.ensures

pub returns-clause-there : goal.returns-clause-there
returns-clause-there c =
    let choices = problem_choices c.args.p.now in
    let all = c.choices-choices.result.now in
    let none : drop c.stepping.choice-index all ≡ [] = drop_all c.stepping.choice-index all c.stepping-test.false in
    subst (InChoiceTree choices) c.choices-choices.ensures (c.stepping.invariant.there.0 (subst (GoesOn choices (path_of_descent c.stepping.descent)) (sym none) tt))
