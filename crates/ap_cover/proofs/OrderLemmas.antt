-- The output that is found for a path is the one that stands there.
use Rattle.std.proofs.Common.{◌≡◌, ◌+◌, ℕ, suc, true, false, ◌&&◌, List, [], ◌∷◌, Some, refl, sym, ap, ◌∙◌, inl, inr, arith, true≢false, subst}
use Rattle.std.specs.Prelude.{◌==◌, if◌then◌else◌, nat_lt, slice_get}
use Rattle.ap_defs.specs.Answers as answers
use Rattle.ap_defs.specs.Answers.{NominalAnswer, NominalOut, out_path}
use Rattle.ap_defs.specs.PathOrder.{has_prefix}
use Rattle.ap_search.specs.PathTrees.{AllOutsAfter, AreInPathOrder, is_before}
use Rattle.ap_theory.proofs.BooleanLemmas.{and_both, and_left, and_right, false_if_not}
use Rattle.ap_theory.proofs.TermLemmas.{number_same, same_number}
use Rattle.ap_complete.specs.NumberedProofs.{IsAmong}
use Rattle.ap_cover.specs.Covers.{answer, answers_among, cover_behind, is_same_path, stuck, stuck_among}

-- of two paths of which one comes before the other, not both are beginnings of a path
both_begin : (l m path : List ℕ) → is_before l m ≡ true → has_prefix l path ≡ true → has_prefix m path ≡ true → ⊥
both_begin [] m path h i j = true≢false (sym h)
both_begin (a ∷ l) [] path h i j = true≢false (sym h)
both_begin (a ∷ l) (b ∷ m) [] h i j = true≢false (sym i)
both_begin (a ∷ l) (b ∷ m) (c ∷ path) h i j =
    let first : a ≡ c = number_same a c (and_left (a == c) (has_prefix l path) i) in
    let second : b ≡ c = number_same b c (and_left (b == c) (has_prefix m path) j) in
    let same : (a == b) ≡ true = same_number a b (first ∙ sym second) in
    both_begin l m path (sym (ap (λ v. if v then is_before l m else nat_lt a b) same) ∙ h) (and_right (a == c) (has_prefix l path) i) (and_right (b == c) (has_prefix m path) j)

begins_itself : (l : List ℕ) → has_prefix l l ≡ true
begins_itself [] = refl
begins_itself (k ∷ l) = and_both (k == k) (has_prefix l l) (same_number k k refl) (begins_itself l)

after_one : (l : List ℕ) (os : List NominalOut) → AllOutsAfter l os → (o : NominalOut) → IsAmong o os → is_before l (out_path o) ≡ true
after_one l [] h o i = absurd i
after_one l (w ∷ os) h o (inl e) = ap (λ z. is_before l (out_path z)) (sym e) ∙ h.0
after_one l (w ∷ os) h o (inr i) = after_one l os h.1 o i

-- an output before it does not begin the path that it begins
not_before : (w o : NominalOut) (os : List NominalOut) (path : List ℕ) → AllOutsAfter (out_path w) os → IsAmong o os → has_prefix (out_path o) path ≡ true → has_prefix (out_path w) path ≡ false
not_before w o os path h i b = false_if_not (has_prefix (out_path w) path) (λ k. both_begin (out_path w) (out_path o) path (after_one (out_path w) os h o i) k b)

not_same : (l path : List ℕ) → has_prefix l path ≡ false → is_same_path l path ≡ false
not_same l path h = ap (λ v. v && has_prefix path l) h

pub record FoundAnswer (m n : ℕ) (path : List ℕ) (a : NominalAnswer) (os : List NominalOut) : Type 0 where
  pub place : ℕ
  pub cover : cover_behind m n path os ≡ Some (answer (m + suc place) path)
  pub there : slice_get (answers_among os) place ≡ Some (answers.found path a)

pub record FoundStuck (m n : ℕ) (path l : List ℕ) (os : List NominalOut) : Type 0 where
  pub place : ℕ
  pub cover : cover_behind m n path os ≡ Some (stuck (n + suc place) l)
  pub there : slice_get (stuck_among os) place ≡ Some (answers.stuck l)

pub answer_found : (m n : ℕ) (path : List ℕ) (a : NominalAnswer) (os : List NominalOut) → AreInPathOrder os → IsAmong (answers.found path a) os → FoundAnswer m n path a os
answer_found m n path a [] h i = absurd i
answer_found m n path a (w ∷ os) h (inl e) =
    let same : is_same_path path path ≡ true = and_both (has_prefix path path) (has_prefix path path) (begins_itself path) (begins_itself path) in
    let next : suc m ≡ m + 1 = omega arith in
    subst (λ (z : NominalOut). FoundAnswer m n path a (z ∷ os)) (sym e) (record {
      place = 0;
      cover = ap (λ v. if v then Some (answer (suc m) path) else cover_behind (suc m) n path os) same ∙ ap (λ k. Some (answer k path)) next;
      there = refl;
    })
answer_found m n path a (answers.found l b ∷ os) h (inr i) =
    let r = answer_found (suc m) n path a os h.1 i in
    let other = not_same l path (not_before (answers.found l b) (answers.found path a) os path h.0 i (begins_itself path)) in
    let next : suc m + suc r.place ≡ m + suc (suc r.place) = omega arith in
    record {
      place = suc r.place;
      cover = ap (λ v. if v then Some (answer (suc m) l) else cover_behind (suc m) n path os) other ∙ r.cover ∙ ap (λ k. Some (answer k path)) next;
      there = r.there;
    }
answer_found m n path a (answers.cut l ∷ os) h (inr i) = let r = answer_found m n path a os h.1 i in record { place = r.place; cover = r.cover; there = r.there }
answer_found m n path a (answers.stuck l ∷ os) h (inr i) =
    let r = answer_found m (suc n) path a os h.1 i in
    let other = not_before (answers.stuck l) (answers.found path a) os path h.0 i (begins_itself path) in
    record {
      place = r.place;
      cover = ap (λ v. if v then Some (stuck (suc n) l) else cover_behind m (suc n) path os) other ∙ r.cover;
      there = r.there;
    }

pub stuck_found : (m n : ℕ) (path l : List ℕ) (os : List NominalOut) → AreInPathOrder os → IsAmong (answers.stuck l) os → has_prefix l path ≡ true → FoundStuck m n path l os
stuck_found m n path l [] h i b = absurd i
stuck_found m n path l (w ∷ os) h (inl e) b =
    let next : suc n ≡ n + 1 = omega arith in
    subst (λ (z : NominalOut). FoundStuck m n path l (z ∷ os)) (sym e) (record {
      place = 0;
      cover = ap (λ v. if v then Some (stuck (suc n) l) else cover_behind m (suc n) path os) b ∙ ap (λ k. Some (stuck k l)) next;
      there = refl;
    })
stuck_found m n path l (answers.found k a ∷ os) h (inr i) b =
    let r = stuck_found (suc m) n path l os h.1 i b in
    let other = not_same k path (not_before (answers.found k a) (answers.stuck l) os path h.0 i b) in
    record {
      place = r.place;
      cover = ap (λ v. if v then Some (answer (suc m) k) else cover_behind (suc m) n path os) other ∙ r.cover;
      there = r.there;
    }
stuck_found m n path l (answers.cut k ∷ os) h (inr i) b = let r = stuck_found m n path l os h.1 i b in record { place = r.place; cover = r.cover; there = r.there }
stuck_found m n path l (answers.stuck k ∷ os) h (inr i) b =
    let r = stuck_found m (suc n) path l os h.1 i b in
    let other = not_before (answers.stuck k) (answers.stuck l) os path h.0 i b in
    let next : suc n + suc r.place ≡ n + suc (suc r.place) = omega arith in
    record {
      place = suc r.place;
      cover = ap (λ v. if v then Some (stuck (suc n) k) else cover_behind m (suc n) path os) other ∙ r.cover ∙ ap (λ j. Some (stuck j l)) next;
      there = r.there;
    }
