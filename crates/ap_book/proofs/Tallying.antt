-- What is kept of the answers that have ended, while the history grows and is looked through.
use Rattle.std.proofs.Common.{◌≡◌, ℕ, zero, suc, ◌+◌, ◌<◌, ◌≤◌, List, [], ◌∷◌, ◌++◌, length, length-append, get_or, take, add-one, refl, sym, ap, ◌∙◌, subst, arith}
use Rattle.std.specs.Prelude.{slice_get}
use Rattle.std.proofs.lemmas.List.{take-append-le}
use Rattle.std.proofs.lemmas.Option.{slice_get-get_or}
use Rattle.ap_paths.specs.declared.entries.Entry.{Entry}
use Rattle.ap_paths.specs.Entries.{entry_of, entries_of}
use Rattle.ap_paths.specs.History.{answers_before}
use Rattle.ap_book.specs.Counts.{adds, adds_at, entries_counted, AreIn, IsTallied}
use Rattle.ap_book.proofs.Additions.{counted_next}

get_more : (h : List Entry) (e : Entry) (i : ℕ) → i < length h → slice_get (h ++ e ∷ []) i ≡ slice_get h i
get_more [] e i l = absurd (omega arith)
get_more (x ∷ xs) e zero l = refl
get_more (x ∷ xs) e (suc i) l = get_more xs e i (omega arith)

counted_more : (p : List ℕ) (h : List Entry) (e : Entry) (is : List ℕ) → AreIn (length h) is → entries_counted p (h ++ e ∷ []) is ≡ entries_counted p h is
counted_more p h e [] all = refl
counted_more p h e (i ∷ is) all = let a = ap (adds_at p) (get_more h e i all.0) in omega (arith, counted_more p h e is all.1)

counted_both : (p : List ℕ) (h : List Entry) (is js : List ℕ) → entries_counted p h (is ++ js) ≡ entries_counted p h is + entries_counted p h js
counted_both p h [] js = omega arith
counted_both p h (i ∷ is) js = omega (arith, counted_both p h is js)

in_more : (m n : ℕ) (is : List ℕ) → m ≤ n → AreIn m is → AreIn n is
in_more m n [] le all = tt
in_more m n (i ∷ is) le all = ((let z = all.0 in omega arith), in_more m n is le all.1)

in_last : (n k : ℕ) (is : List ℕ) → k < n → AreIn n is → AreIn n (is ++ k ∷ [])
in_last n k [] lt all = (lt, tt)
in_last n k (i ∷ is) lt all = (all.0, in_last n k is lt all.1)

pub in_at : (n : ℕ) (is : List ℕ) (i d : ℕ) → AreIn n is → i < length is → get_or is i d < n
in_at n [] i d all lt = absurd (omega arith)
in_at n (j ∷ js) zero d all lt = all.0
in_at n (j ∷ js) (suc i) d all lt = in_at n js i d all.1 (omega arith)

-- one more entry was made
pub tallied_more : (h new : List Entry) (e : Entry) (is : List ℕ) (k : ℕ) → new ≡ h ++ e ∷ [] → IsTallied h is k → IsTallied new is k
tallied_more h new e is k grown t =
    subst (λ (l : List Entry). IsTallied l is k) (sym grown) (
      (let z = t.0 in omega (arith, length-append h (e ∷ []))),
      in_more (length h) (length (h ++ e ∷ [])) is (omega (arith, length-append h (e ∷ []))) t.1,
      λ p. counted_more p h e is t.1 ∙ t.2 p ∙ ap (λ (l : List Entry). answers_before p (entries_of l)) (sym (take-append-le k h (e ∷ []) t.0)),
    )

-- one more entry was looked at, which adds nothing, or is kept
pub tallied_none : (h : List Entry) (is : List ℕ) (k : ℕ) (d : Entry) → k < length h → ((p : List ℕ) → adds p (entry_of (get_or h k d)) ≡ 0) → IsTallied h is k → IsTallied h is (k + 1)
tallied_none h is k d lt none t = ((omega arith), t.1, λ p. (let a = counted_next p h k d lt in let b = none p in let z = t.2 p in omega arith))

pub tallied_found : (h : List Entry) (is new : List ℕ) (k : ℕ) (d : Entry) → k < length h → new ≡ is ++ k ∷ [] → IsTallied h is k → IsTallied h new (k + 1)
tallied_found h is new k d lt grown t =
    subst (λ (l : List ℕ). IsTallied h l (k + 1)) (sym grown) (
      (omega arith),
      in_last (length h) k is lt t.1,
      λ p.
          (let a = counted_next p h k d lt in
          let g = ap (adds_at p) (slice_get-get_or h k d lt) in
          let z = t.2 p in
          omega (arith, counted_both p h is (k ∷ []))),
    )

-- one more place was counted
counted_at' : (p : List ℕ) (h : List Entry) (is : List ℕ) (i d : ℕ) → i < length is → entries_counted p h (take (suc i) is) ≡ entries_counted p h (take i is) + adds_at p (slice_get h (get_or is i d))
counted_at' p h [] i d lt = absurd (omega arith)
counted_at' p h (j ∷ js) zero d lt = omega arith
counted_at' p h (j ∷ js) (suc i) d lt = omega (arith, counted_at' p h js i d (omega arith))

pub counted_at : (p : List ℕ) (h : List Entry) (is : List ℕ) (i d : ℕ) → i < length is → entries_counted p h (take (i + 1) is) ≡ entries_counted p h (take i is) + adds_at p (slice_get h (get_or is i d))
counted_at p h is i d lt = ap (λ k. entries_counted p h (take k is)) (add-one i) ∙ counted_at' p h is i d lt
