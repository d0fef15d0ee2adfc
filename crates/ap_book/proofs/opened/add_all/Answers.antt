use Rattle.std.proofs.Common.{rules, arith, ◌≡◌, ◌<◌, ◌∷◌, ◌++◌, [], ap}
use Rattle.std.specs.HashSet.{spare}
use Rattle.ap_paths.specs.Weights.{weigh, one_if, is_it, times_in}
use Rattle.ap_paths.proofs.Frontiers.{weigh_both, same_itself}
use Rattle.ap_book.specs.Kept.{paths_of}
use Rattle.ap_book.proofs.Opening.{after_insert, paths_both}
use Rattle.ap_book.proofs.opened.add_all.Goals as goal

pub loop-path-preserved : goal.loop-path-preserved
loop-path-preserved c =
    let k = c.in-Some.path in
    let rest = c.pop.new.self.items in
    let left : c.loop-path.paths.items ≡ rest ++ k ∷ [] = c.in-Some.ensures.items in
    let few = c.loop-path.invariant.1 in
    let fewer = c.in-Some.ensures.cases in
    let used = c.insert-added.ensures.spare in
    let none : times_in (paths_of c.loop-path.opened.keys) k.items ≡ 0 =
    (let i = c.loop-path.invariant.0 (is_it k.items) in
    let o = c.requires.once k.items in
    let l = ap (λ vs. weigh (is_it k.items) (paths_of vs)) left in
    let b = ap (weigh (is_it k.items)) (paths_both rest (k ∷ [])) in
    let d = weigh_both (is_it k.items) (paths_of rest) (k.items ∷ []) in
    let one = ap one_if (same_itself k.items) in
    omega arith) in
    let room : 0 < spare c.loop-path.opened = omega arith in (
      λ h. (let a = after_insert k c.loop-path.opened.keys c.insert-added.new.self.keys c.insert-added.result (c.insert-added.ensures.succeeds room) c.insert-added.ensures.added c.insert-added.ensures.keys none h in
          let i = c.loop-path.invariant.0 h in
          let l = ap (λ vs. weigh h (paths_of vs)) left in
          let b = ap (weigh h) (paths_both rest (k ∷ [])) in
          let d = weigh_both h (paths_of rest) (k.items ∷ []) in
          omega arith),
      omega arith,
    )

pub returns : goal.returns
returns c = λ h.
    let none : c.loop-path.paths.items ≡ [] = search rules in
    let i = c.loop-path.invariant.0 h in let l = ap (λ vs. weigh h (paths_of vs)) none in omega arith
