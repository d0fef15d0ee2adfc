-- Lists of what has a path: those that begin with a path.
use Rattle.std.proofs.Common.{◌≡◌, ◌≢◌, ℕ, true, false, ◌&&◌, List, [], ◌∷◌, ◌++◌, refl, sym, ap, ap₂, ◌∙◌, true≢false}
use Rattle.std.specs.Prelude.{if◌then◌else◌, ◌==◌}
use Rattle.ap_defs.specs.PathOrder.{has_prefix}
use Rattle.ap_theory.proofs.BooleanLemmas.{and_both, and_left, and_right, false_if_not}
use Rattle.ap_theory.proofs.TermLemmas.{number_same, same_number}
use Rattle.ap_search.specs.Prefixes.{AllBegin, beginning}

pub prefix_itself : (p : List ℕ) → has_prefix p p ≡ true
prefix_itself [] = refl
prefix_itself (k ∷ p) = and_both (k == k) (has_prefix p p) (same_number k k refl) (prefix_itself p)

pub prefix_append : (p q : List ℕ) → has_prefix p (p ++ q) ≡ true
prefix_append [] q = refl
prefix_append (k ∷ p) q = and_both (k == k) (has_prefix p (p ++ q)) (same_number k k refl) (prefix_append p q)

pub prefix_shorter : (p q path : List ℕ) → has_prefix (p ++ q) path ≡ true → has_prefix p path ≡ true
prefix_shorter [] q path h = refl
prefix_shorter (k ∷ p) q [] h = absurd (true≢false (sym h))
prefix_shorter (k ∷ p) q (j ∷ path) h = and_both (k == j) (has_prefix p path) (and_left (k == j) (has_prefix (p ++ q) path) h) (prefix_shorter p q path (and_right (k == j) (has_prefix (p ++ q) path) h))

-- a path that goes on by i does not go on by j
pub prefix_other : (p : List ℕ) (i j : ℕ) (path : List ℕ) → i ≢ j → has_prefix (p ++ i ∷ []) path ≡ true → has_prefix (p ++ j ∷ []) path ≡ false
prefix_other [] i j [] n h = absurd (true≢false (sym h))
prefix_other [] i j (k ∷ path) n h =
    false_if_not ((j == k) && true)
    (λ e. n (number_same i k (and_left (i == k) true h) ∙ sym (number_same j k (and_left (j == k) true e))))
prefix_other (l ∷ p) i j [] n h = absurd (true≢false (sym h))
prefix_other (l ∷ p) i j (k ∷ path) n h =
    ap₂ ◌&&◌ (and_left (l == k) (has_prefix (p ++ i ∷ []) path) h) (prefix_other p i j path n (and_right (l == k) (has_prefix (p ++ i ∷ []) path) h))

-- nor does it end there
pub prefix_longer : (p : List ℕ) (i : ℕ) (path : List ℕ) → has_prefix (p ++ i ∷ []) path ≡ true → has_prefix path p ≡ false
prefix_longer [] i [] h = absurd (true≢false (sym h))
prefix_longer [] i (k ∷ path) h = refl
prefix_longer (l ∷ p) i [] h = absurd (true≢false (sym h))
prefix_longer (l ∷ p) i (k ∷ path) h =
    ap₂ ◌&&◌ (same_number k l (sym (number_same l k (and_left (l == k) (has_prefix (p ++ i ∷ []) path) h)))) (prefix_longer p i path (and_right (l == k) (has_prefix (p ++ i ∷ []) path) h))

module _ {A : Type 0} (path : A → List ℕ) where
  pub begin-append : (p : List ℕ) (os qs : List A) → AllBegin path p os → AllBegin path p qs → AllBegin path p (os ++ qs)
  begin-append p [] qs h k = k
  begin-append p (o ∷ os) qs h k = (h.0, begin-append p os qs h.1 k)

  pub begin_shorter : (p q : List ℕ) (os : List A) → AllBegin path (p ++ q) os → AllBegin path p os
  begin_shorter p q [] h = tt
  begin_shorter p q (o ∷ os) h = (prefix_shorter p q (path o) h.0, begin_shorter p q os h.1)

  pub beginning-append : (p : List ℕ) (os qs : List A) → beginning path p (os ++ qs) ≡ beginning path p os ++ beginning path p qs
  beginning-append p [] qs = refl
  beginning-append p (o ∷ os) qs =
      elim (has_prefix p (path o)) as (λ b. (if b then (o ∷ beginning path p (os ++ qs)) else beginning path p (os ++ qs)) ≡ (if b then (o ∷ beginning path p os) else beginning path p os) ++ beginning path p qs) [
        | true ↦ ap (λ l. o ∷ l) (beginning-append p os qs)
        | false ↦ beginning-append p os qs
      ]

  -- all begin so, and nothing is left out
  pub beginning_whole : (p : List ℕ) (os : List A) → AllBegin path p os → beginning path p os ≡ os
  beginning_whole p [] h = refl
  beginning_whole p (o ∷ os) h = ap (λ b. if b then (o ∷ beginning path p os) else beginning path p os) h.0 ∙ ap (λ l. o ∷ l) (beginning_whole p os h.1)

  -- what goes on by i does not go on by j
  pub beginning_other : (p : List ℕ) (i j : ℕ) (os : List A) → i ≢ j → AllBegin path (p ++ i ∷ []) os → beginning path (p ++ j ∷ []) os ≡ []
  beginning_other p i j [] n h = refl
  beginning_other p i j (o ∷ os) n h =
      ap (λ b. if b then (o ∷ beginning path (p ++ j ∷ []) os) else beginning path (p ++ j ∷ []) os) (prefix_other p i j (path o) n h.0) ∙ beginning_other p i j os n h.1

  -- further down it does not matter whether one has gone part of the way
  pub beginning_deeper : (p q : List ℕ) (os : List A) → beginning path (p ++ q) (beginning path p os) ≡ beginning path (p ++ q) os
  beginning_deeper p q [] = refl
  beginning_deeper p q (o ∷ os) =
      elim (has_prefix p (path o)) as (λ b. has_prefix p (path o) ≡ b → beginning path (p ++ q) (if b then (o ∷ beginning path p os) else beginning path p os) ≡ beginning path (p ++ q) (o ∷ os)) [
        | true ↦ λ e. ap (λ l. if has_prefix (p ++ q) (path o) then (o ∷ l) else l) (beginning_deeper p q os)
        | false ↦ λ e. beginning_deeper p q os ∙ sym (ap (λ b. if b then (o ∷ beginning path (p ++ q) os) else beginning path (p ++ q) os) (false_if_not (has_prefix (p ++ q) (path o)) (λ h. true≢false (sym (prefix_shorter p q (path o) h) ∙ e))))
      ] refl
