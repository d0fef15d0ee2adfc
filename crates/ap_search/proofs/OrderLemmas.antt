-- Outputs of a tree of paths stand in path order, and there is one mark at most at a path.
use Rattle.std.proofs.Common.{subst, ◌≡◌, ◌<◌, ◌≤◌, ℕ, suc, true, false, ◌&&◌, List, [], ◌∷◌, ◌++◌, length, refl, sym, ap, ap₂, ◌∙◌, arith, true≢false}
use Rattle.std.specs.Prelude.{Option, Some, None, if◌then◌else◌, ◌==◌, nat_lt}
use Rattle.std.proofs.lemmas.Bool.Decides.{nat_tests}
use Rattle.ap_defs.specs.Answers.{NominalOut, out_path}
use Rattle.ap_defs.specs.PathOrder.{has_prefix}
use Rattle.ap_theory.proofs.BooleanLemmas.{and_false, and_left, and_right}
use Rattle.ap_theory.proofs.TermLemmas.{number_same, same_number}
use Rattle.ap_search.specs.Marks.{NominalMark, out, choice, mark_path, outs_among}
use Rattle.ap_search.specs.PathTrees.{AllOutsAfter, AreInPathOrder, Forest, PathTree, at_path, flat, flat_from, grow, is_before, leaf, node, none, nothing, width}
use Rattle.ap_search.specs.Prefixes.{AllBegin, beginning}
use Rattle.ap_search.specs.StatementsOnTrees.{marks_at}
use Rattle.ap_search.proofs.MarkLemmas.{begin_among, outs_among-append}
use Rattle.ap_search.proofs.PrefixLemmas.{prefix_longer}
use Rattle.ap_search.proofs.SubtreeLemmas.{flat_sub}
use Rattle.ap_search.proofs.TreeLemmas.{flat_begins, flat_some, sub}

-- a way comes before a later one
before_apart : (p : List ℕ) (i j : ℕ) (q r : List ℕ) → i < j → has_prefix (p ++ i ∷ []) q ≡ true → has_prefix (p ++ j ∷ []) r ≡ true → is_before q r ≡ true
before_apart [] i j [] r l h k = absurd (true≢false (sym h))
before_apart [] i j (m ∷ q) [] l h k = absurd (true≢false (sym k))
before_apart [] i j (m ∷ q) (n ∷ r) l h k =
    let a : i ≡ m = number_same i m (and_left (i == m) true h) in
    let b : j ≡ n = number_same j n (and_left (j == n) true k) in
    let apart : (m == n) ≡ false = grind (arith, nat_tests) in
    let less : nat_lt m n ≡ true = grind (arith, nat_tests) in
    ap (λ v. if v then is_before q r else nat_lt m n) apart ∙ less
before_apart (x ∷ p) i j [] r l h k = absurd (true≢false (sym h))
before_apart (x ∷ p) i j (m ∷ q) [] l h k = absurd (true≢false (sym k))
before_apart (x ∷ p) i j (m ∷ q) (n ∷ r) l h k =
    let a : x ≡ m = number_same x m (and_left (x == m) (has_prefix (p ++ i ∷ []) q) h) in
    let b : x ≡ n = number_same x n (and_left (x == n) (has_prefix (p ++ j ∷ []) r) k) in
    ap (λ v. if v then is_before q r else nat_lt m n) (same_number m n (sym a ∙ b))
    ∙ before_apart p i j q r l (and_right (x == m) (has_prefix (p ++ i ∷ []) q) h) (and_right (x == n) (has_prefix (p ++ j ∷ []) r) k)

-- each goes on by some way from the i-th on
abbrev AllFrom : List ℕ → ℕ → List NominalOut → Type 0
AllFrom p i [] = Unit {0}
AllFrom p i (o ∷ os) = ((j : ℕ) × (i ≤ j) × (has_prefix (p ++ j ∷ []) (out_path o) ≡ true)) × AllFrom p i os

from_begin : (p : List ℕ) (i j : ℕ) (os : List NominalOut) → i ≤ j → AllBegin out_path (p ++ j ∷ []) os → AllFrom p i os
from_begin p i j [] l h = tt
from_begin p i j (o ∷ os) l h = ((j, l, h.0), from_begin p i j os l h.1)

from-append : (p : List ℕ) (i : ℕ) (os qs : List NominalOut) → AllFrom p i os → AllFrom p i qs → AllFrom p i (os ++ qs)
from-append p i [] qs h k = k
from-append p i (o ∷ os) qs h k = (h.0, from-append p i os qs h.1 k)

from_earlier : (p : List ℕ) (i : ℕ) (os : List NominalOut) → AllFrom p (suc i) os → AllFrom p i os
from_earlier p i [] h = tt
from_earlier p i (o ∷ os) h = let l : i ≤ h.0.0 = omega arith in ((h.0.0, l, h.0.2), from_earlier p i os h.1)

outs_begin : (p : List ℕ) (t : PathTree) → AllBegin out_path p (outs_among (flat p t))
outs_begin p t = begin_among p (flat p t) (flat_begins p t)

flat_from_later : (p : List ℕ) (i : ℕ) (f : Forest) → AllFrom p i (outs_among (flat_from p i f))
flat_from_later p i none = tt
flat_from_later p i (grow t f) =
    subst (AllFrom p i) (sym (outs_among-append (flat (p ++ i ∷ []) t) (flat_from p (suc i) f)))
    (from-append p i (outs_among (flat (p ++ i ∷ []) t)) (outs_among (flat_from p (suc i) f)) (from_begin p i i (outs_among (flat (p ++ i ∷ []) t)) (omega arith) (outs_begin (p ++ i ∷ []) t)) (from_earlier p i (outs_among (flat_from p (suc i) f)) (flat_from_later p (suc i) f)))

after_from : (p : List ℕ) (i : ℕ) (q : List ℕ) (os : List NominalOut) → has_prefix (p ++ i ∷ []) q ≡ true → AllFrom p (suc i) os → AllOutsAfter q os
after_from p i q [] h k = tt
after_from p i q (o ∷ os) h k = (before_apart p i k.0.0 q (out_path o) (omega arith) h k.0.2, after_from p i q os h k.1)

after-append : (q : List ℕ) (os qs : List NominalOut) → AllOutsAfter q os → AllOutsAfter q qs → AllOutsAfter q (os ++ qs)
after-append q [] qs h k = k
after-append q (o ∷ os) qs h k = (h.0, after-append q os qs h.1 k)

order-append : (p : List ℕ) (i : ℕ) (os qs : List NominalOut) → AllBegin out_path (p ++ i ∷ []) os → AllFrom p (suc i) qs → AreInPathOrder os → AreInPathOrder qs
    → AreInPathOrder (os ++ qs)
order-append p i [] qs b f h k = k
order-append p i (o ∷ os) qs b f h k = (after-append (out_path o) os qs h.0 (after_from p i (out_path o) qs b.0 f), order-append p i os qs b.1 f h.1 k)

mutual
  pub flat_in_order : (p : List ℕ) (t : PathTree) → AreInPathOrder (outs_among (flat p t))
  flat_in_order p nothing = tt
  flat_in_order p (leaf l) = (tt, tt)
  flat_in_order p (node ks f) = flat_from_in_order p 1 f

  flat_from_in_order : (p : List ℕ) (i : ℕ) (f : Forest) → AreInPathOrder (outs_among (flat_from p i f))
  flat_from_in_order p i none = tt
  flat_from_in_order p i (grow t f) =
      subst AreInPathOrder (sym (outs_among-append (flat (p ++ i ∷ []) t) (flat_from p (suc i) f)))
      (order-append p i (outs_among (flat (p ++ i ∷ []) t)) (outs_among (flat_from p (suc i) f)) (outs_begin (p ++ i ∷ []) t) (flat_from_later p (suc i) f) (flat_in_order (p ++ i ∷ []) t) (flat_from_in_order p (suc i) f))

-- Marks at just one path.
marks_at_below : (p : List ℕ) (ms : List NominalMark) → marks_at p (beginning mark_path p ms) ≡ marks_at p ms
marks_at_below p [] = refl
marks_at_below p (m ∷ ms) =
    elim (has_prefix p (mark_path m)) as (λ b. has_prefix p (mark_path m) ≡ b → marks_at p (if b then (m ∷ beginning mark_path p ms) else beginning mark_path p ms) ≡ (if b && has_prefix (mark_path m) p then (m ∷ marks_at p ms) else marks_at p ms)) [
      | true ↦ λ e. ap (λ b. if b && has_prefix (mark_path m) p then (m ∷ marks_at p (beginning mark_path p ms)) else marks_at p (beginning mark_path p ms)) e ∙ ap (λ l. if has_prefix (mark_path m) p then (m ∷ l) else l) (marks_at_below p ms)
      | false ↦ λ e. marks_at_below p ms
    ] refl

marks_none : (p : List ℕ) (i : ℕ) (ms : List NominalMark) → AllBegin mark_path (p ++ i ∷ []) ms → marks_at p ms ≡ []
marks_none p i [] h = refl
marks_none p i (m ∷ ms) h =
    ap (λ b. if has_prefix p (mark_path m) && b then (m ∷ marks_at p ms) else marks_at p ms) (prefix_longer p i (mark_path m) h.0)
    ∙ ap (λ b. if b then (m ∷ marks_at p ms) else marks_at p ms) (and_false (has_prefix p (mark_path m))) ∙ marks_none p i ms h.1

marks_at-append : (p : List ℕ) (ms ns : List NominalMark) → marks_at p (ms ++ ns) ≡ marks_at p ms ++ marks_at p ns
marks_at-append p [] ns = refl
marks_at-append p (m ∷ ms) ns =
    elim (has_prefix p (mark_path m) && has_prefix (mark_path m) p) as (λ b. (if b then (m ∷ marks_at p (ms ++ ns)) else marks_at p (ms ++ ns)) ≡ (if b then (m ∷ marks_at p ms) else marks_at p ms) ++ marks_at p ns) [
      | true ↦ ap (λ l. m ∷ l) (marks_at-append p ms ns)
      | false ↦ marks_at-append p ms ns
    ]

marks_from : (p : List ℕ) (i : ℕ) (f : Forest) → marks_at p (flat_from p i f) ≡ []
marks_from p i none = refl
marks_from p i (grow t f) =
    marks_at-append p (flat (p ++ i ∷ []) t) (flat_from p (suc i) f) ∙ ap₂ ◌++◌ (marks_none p i (flat (p ++ i ∷ []) t) (flat_begins (p ++ i ∷ []) t)) (marks_from p (suc i) f)

one_at_most : (p : List ℕ) (m : NominalMark) (ms : List NominalMark) → marks_at p ms ≡ [] → length (marks_at p (m ∷ ms)) ≤ 1
one_at_most p m ms h =
    elim (has_prefix p (mark_path m) && has_prefix (mark_path m) p) as (λ b. length (if b then (m ∷ marks_at p ms) else marks_at p ms) ≤ 1) [
      | true ↦ let e : length (marks_at p ms) ≡ 0 = ap length h in omega arith
      | false ↦ let e : length (marks_at p ms) ≡ 0 = ap length h in omega arith
    ]

one_flat : (p : List ℕ) (o : Option PathTree) → length (marks_at p (flat_some p o)) ≤ 1
one_flat p None = omega arith
one_flat p (Some nothing) = omega arith
one_flat p (Some (leaf l)) = one_at_most p (out (at_path p l)) [] refl
one_flat p (Some (node ks f)) = one_at_most p (choice p (record { width = width f; kept = ks })) (flat_from p 1 f) (marks_from p 1 f)

-- an output or a choice, and no two of them, stand at one path
pub one_mark : (t : PathTree) (p : List ℕ) → length (marks_at p (flat [] t)) ≤ 1
one_mark t p =
    subst (λ (ms : List NominalMark). length ms ≤ 1) (ap (marks_at p) (sym (flat_sub [] t p)) ∙ marks_at_below p (flat [] t)) (one_flat p (sub t p))
