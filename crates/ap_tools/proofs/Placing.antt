-- A path that goes on by a choice.
use Rattle.std.proofs.Common.{◌≡◌, ℕ, List, [], ◌∷◌, ◌++◌, refl, ap, subst, append-nil}
use Rattle.ap_paths.specs.Trees.{Choices, IsChoice, GoesOn, InChoiceTree}

snoc : (q : List ℕ) (x : ℕ) (xs : List ℕ) → q ++ x ∷ xs ≡ (q ++ x ∷ []) ++ xs
snoc [] x xs = refl
snoc (y ∷ ys) x xs = ap (λ r. y ∷ r) (snoc ys x xs)

go_on : (c : Choices) (q p : List ℕ) (k : ℕ) → GoesOn c q p → IsChoice (c (q ++ p)) k → GoesOn c q (p ++ k ∷ [])
go_on c q [] k h is = (subst (λ r. IsChoice (c r) k) (append-nil q) is, tt)
go_on c q (x ∷ xs) k h is = (h.0, go_on c (q ++ x ∷ []) xs k h.1 (subst (λ r. IsChoice (c r) k) (snoc q x xs) is))

pub child_in_tree : (c : Choices) (p : List ℕ) (k : ℕ) → InChoiceTree c p → IsChoice (c p) k → InChoiceTree c (p ++ k ∷ [])
child_in_tree c p k h is = go_on c [] p k h is
