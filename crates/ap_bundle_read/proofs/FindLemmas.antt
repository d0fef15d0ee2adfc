-- Looking through a list for the first that passes a test: none before this place does.
use Rattle.std.proofs.Common.{◌≡◌, ◌<◌, ◌+◌, ℕ, suc, Bool, true, false, if◌then◌else◌, Option, Some, List, ◌∷◌, length, get_or, drop, drop-cons, sym, ap, ◌∙◌, add-one}
use Rattle.std.specs.Prelude.{find}

module _ {X : Type 0} (test : X → Bool) (xs ys : List X) (same : xs ≡ ys) (i : ℕ) (d : X) (h : i < length xs) where
  next : find test (drop i ys) ≡ (if test (get_or xs i d) then Some (get_or xs i d) else find test (drop (i + 1) ys))
  next =
      ap (λ zs. find test (drop i zs)) (sym same) ∙ ap (find test) (drop-cons xs i d h)
      ∙ ap (λ zs. if test (get_or xs i d) then Some (get_or xs i d) else find test (drop (suc i) zs)) same
      ∙ ap (λ j. if test (get_or xs i d) then Some (get_or xs i d) else find test (drop j ys)) (sym (add-one i))

  pub found_here : test (get_or xs i d) ≡ true → find test (drop i ys) ≡ find test ys → Some (get_or xs i d) ≡ find test ys
  found_here e so_far = sym (next ∙ ap (λ b. if b then Some (get_or xs i d) else find test (drop (i + 1) ys)) e) ∙ so_far

  pub found_further : test (get_or xs i d) ≡ false → find test (drop i ys) ≡ find test ys → find test (drop (i + 1) ys) ≡ find test ys
  found_further e so_far = sym (next ∙ ap (λ b. if b then Some (get_or xs i d) else find test (drop (i + 1) ys)) e) ∙ so_far
