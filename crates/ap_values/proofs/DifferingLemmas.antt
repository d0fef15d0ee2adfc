-- Where lists of numbers differ, by blocks and one by one.
use Rattle.std.proofs.Common.{◌≡◌, ◌≢◌, ℕ, suc, ◌+◌, ◌≤◌, ◌<◌, List, [], ◌∷◌, ◌++◌, length, get_or, take, drop, set, refl, sym, ap, ap₂, ◌∙◌, arith, add-one}
use Rattle.std.proofs.Math.Seq.{take-suc}
use Rattle.std.proofs.lemmas.Bool.Decides.{nat_tests}
use Rattle.std.proofs.lemmas.List.{drop-take, length-take-le, take-append-drop, take-take, take_more_set}
use Rattle.std.proofs.lemmas.Simd.{length-chunk, take_more_put_chunk}
use Rattle.std.specs.Prelude.{◌==◌, if◌then◌else◌}
use lib.Lanes.{put_chunk}
use Rattle.ap_values.specs.Differing.{differing_places}

pub length_places : (xs ys : List ℕ) → length ys ≡ length xs → length (differing_places xs ys) ≡ length xs
length_places [] ys e = refl
length_places (x ∷ xs) [] e = absurd (omega (arith, e))
length_places (x ∷ xs) (y ∷ ys) e = ap suc (length_places xs ys (omega (arith, e)))

pub places_append : (xs ys vs ws : List ℕ) → length ys ≡ length xs → differing_places (xs ++ vs) (ys ++ ws) ≡ differing_places xs ys ++ differing_places vs ws
places_append [] [] vs ws e = refl
places_append [] (y ∷ ys) vs ws e = absurd (omega (arith, e))
places_append (x ∷ xs) [] vs ws e = absurd (omega (arith, e))
places_append (x ∷ xs) (y ∷ ys) vs ws e = ap (λ (os : List ℕ). (if x == y then 0 else 1) ∷ os) (places_append xs ys vs ws (omega (arith, e)))

take_further : (i n : ℕ) (xs : List ℕ) → take i xs ++ take n (drop i xs) ≡ take (i + n) xs
take_further i n xs =
    ap (λ (ys : List ℕ). ys ++ take n (drop i xs)) (sym (take-take i (i + n) xs (omega arith)))
    ∙ ap (λ (ys : List ℕ). take i (take (i + n) xs) ++ ys) (sym (drop-take i n xs)) ∙ take-append-drop i (take (i + n) xs)

module _ (xs ys : List ℕ) (same : length ys ≡ length xs) where
  alike : (i : ℕ) → i ≤ length xs → length (take i ys) ≡ length (take i xs)
  alike i l = length-take-le i ys (omega (arith, l, same)) ∙ sym (length-take-le i xs l)

  -- what is stored behind the first i for the numbers there
  pub places_stored : (out : List ℕ) (i n : ℕ) → i + n ≤ length xs → length out ≡ length xs → take i out ≡ differing_places (take i xs) (take i ys)
      → take (i + n) (put_chunk i out (differing_places (take n (drop i xs)) (take n (drop i ys)))) ≡ differing_places (take (i + n) xs) (take (i + n) ys)
  places_stored out i n room long done =
      let block = differing_places (take n (drop i xs)) (take n (drop i ys)) in
      let left : length (take n (drop i xs)) ≡ n = length-chunk i n xs room in
      let right : length (take n (drop i ys)) ≡ n = length-chunk i n ys (omega (arith, room, same)) in
      let k : length block ≡ n = length_places (take n (drop i xs)) (take n (drop i ys)) (right ∙ sym left) ∙ left in
      take_more_put_chunk i out block (i + n) (omega (arith, k)) (omega (arith, long, room))
      ∙ ap (λ (os : List ℕ). os ++ block) done
      ∙ sym (places_append (take i xs) (take i ys) (take n (drop i xs)) (take n (drop i ys)) (alike i (omega (arith, room))))
      ∙ ap₂ differing_places (take_further i n xs) (take_further i n ys)

  pub length_block : (i n : ℕ) → i + n ≤ length xs → length (differing_places (take n (drop i xs)) (take n (drop i ys))) ≡ n
  length_block i n room =
      let left : length (take n (drop i xs)) ≡ n = length-chunk i n xs room in
      let right : length (take n (drop i ys)) ≡ n = length-chunk i n ys (omega (arith, room, same)) in
      length_places (take n (drop i xs)) (take n (drop i ys)) (right ∙ sym left) ∙ left

  pub place_stored : (out : List ℕ) (i v d e : ℕ) → i < length xs → length out ≡ length xs → take i out ≡ differing_places (take i xs) (take i ys)
      → (if get_or xs i d == get_or ys i e then 0 else 1) ≡ v
      → take (i + 1) (set out i v) ≡ differing_places (take (i + 1) xs) (take (i + 1) ys)
  place_stored out i v d e l long done h =
      take_more_set out i v (omega (arith, l, long))
      ∙ ap₂ (λ (os : List ℕ) (w : ℕ). os ++ w ∷ []) done (sym h)
      ∙ sym (places_append (take i xs) (take i ys) (get_or xs i d ∷ []) (get_or ys i e ∷ []) (alike i (omega (arith, l))))
      ∙ sym (ap₂ differing_places (ap (λ n. take n xs) (add-one i) ∙ take-suc xs i d l) (ap (λ n. take n ys) (add-one i) ∙ take-suc ys i e (omega (arith, l, same))))

pub mark_same : (x y : ℕ) → x ≡ y → ◌≡◌ {A = ℕ} (if x == y then 0 else 1) 0
mark_same x y h = grind (arith, nat_tests, h)

pub mark_apart : (x y : ℕ) → x ≢ y → ◌≡◌ {A = ℕ} (if x == y then 0 else 1) 1
mark_apart x y h = grind (arith, nat_tests, h)
