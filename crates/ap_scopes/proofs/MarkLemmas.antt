-- What the marks of words tell.
use Rattle.std.proofs.Common.{◌≡◌, ℕ, zero, suc, ◌+◌, ◌<◌, ◌==◌, ◌||◌, subst, Bool, true, false, true≢false, ◌&&◌, List, [], ◌∷◌, ◌++◌, map, length, get_or, nat_lt, set, Option, None, Some, refl, sym, ap, ◌∙◌, position, cond, if◌then◌else◌, arith}
use Rattle.std.specs.Str.{bytes_eq}
use Rattle.std.proofs.lemmas.Bool.Decides.{nat_tests}
use Rattle.std.proofs.lemmas.List.{length-set}
use Rattle.std.proofs.lemmas.Option.{slice_get_read}
use Rattle.std.specs.List.{slice_get, list_any, IsDistinct, AllByRecursion}
use Rattle.std.specs.Option.{option_map, is_none, unwrap_or}
use Rattle.std.proofs.lemmas.Slice.Eq.{bytes_eq-Decides}
use denote.Ref.{Bor}
use Rattle.ap_scopes.specs.Words.{with_word}
use Rattle.ap_scopes.specs.Marks.{word_mark, tells, are_marked, is_nothing, is_table}
use Rattle.ap_scopes.proofs.Numbering.{bytes_eq-flip}
use Rattle.ap_scopes.proofs.Tables.{position-cons}

both_true : (a b : Bool) → (a && b) ≡ true → (a ≡ true) × (b ≡ true)
both_true true true h = (refl, refl)
both_true true false h = absurd (true≢false (sym h))
both_true false b h = absurd (true≢false (sym h))

-- a word whose mark has no entry is not among those that are marked
marked_absent : (latest : List ℕ) (w : List ℕ) → tells (slice_get latest (word_mark w)) ≡ false → (ws : List (List ℕ)) → are_marked latest ws ≡ true → position (bytes_eq w) ws ≡ None
marked_absent latest w t [] m = refl
marked_absent latest w t (v ∷ vs) m =
    let both : (tells (slice_get latest (word_mark v)) ≡ true) × (are_marked latest vs ≡ true) = both_true _ _ m in
    position-cons (bytes_eq w) v vs ∙ ap (λ b. cond b (Some 0) (option_map suc (position (bytes_eq w) vs))) (by (bytes_eq w v) refl both.0) ∙ ap (option_map suc) (marked_absent latest w t vs both.1)
  where
    by : (b : Bool) → bytes_eq w v ≡ b → tells (slice_get latest (word_mark v)) ≡ true → bytes_eq w v ≡ false
    by false h k = h
    by true h k = absurd (true≢false (sym k ∙ ap (λ u. tells (slice_get latest (word_mark u))) (sym ((bytes_eq-Decides w v).0 h)) ∙ t))

none_of_none : (ws : List (List ℕ)) (w : List ℕ) → is_nothing ws ≡ true → position (bytes_eq w) ws ≡ None
none_of_none [] w h = refl
none_of_none (v ∷ vs) w h = absurd (true≢false (sym h))

pub is_absent : (latest : List ℕ) (ws : List (List ℕ)) (w : List ℕ) → is_table latest ws ≡ true → tells (slice_get latest (word_mark w)) ≡ false → position (bytes_eq w) ws ≡ None
is_absent latest ws w h t = by (length latest == 1024) refl
  where
    by : (b : Bool) → (length latest == 1024) ≡ b → position (bytes_eq w) ws ≡ None
    by true e = marked_absent latest w t ws (ap (λ b. if b then are_marked latest ws else is_nothing ws) (sym e) ∙ h)
    by false e = none_of_none ws w (ap (λ b. if b then are_marked latest ws else is_nothing ws) (sym e) ∙ h)

none_is_some : (i : ℕ) → None ≡ Some i → true ≡ false
none_is_some i h = ap (λ o. cond (is_none o) true false) h

some_same : {A : Type 0} (x y : A) → Some x ≡ Some y → x ≡ y
some_same x y h = ap (λ o. unwrap_or o x) h

at_place : {A : Type 0} (P : A → Type 0) (xs : List A) (i : ℕ) (x : A) → AllByRecursion P xs → slice_get xs i ≡ Some x → P x
at_place P [] i x a h = absurd (cc)
at_place P (y ∷ ys) zero x a h = subst P (some_same y x h) a.0
at_place P (y ∷ ys) (suc i) x a h = at_place P ys i x a.1 h

-- what is read at a place
pub read_there : {A : Type 0} (xs : List A) (i : ℕ) (x : A) → true ≡ nat_lt i (length xs) → x ≡ get_or xs i x → slice_get xs i ≡ Some x
read_there xs i x h e = let l : i < length xs = grind (arith, nat_tests) in slice_get_read xs (length xs) i x refl l e

-- a word that stands at a place of words that are all different has that place
pub found_there : (ks : List (Bor (List ℕ))) (i : ℕ) (k : Bor (List ℕ)) (w : List ℕ) → IsDistinct (λ x y. bytes_eq x.now y.now) ks → slice_get ks i ≡ Some k → bytes_eq k.now w ≡ true
    → position (bytes_eq w) (map (λ j. j.now) ks) ≡ Some i
unfolding IsDistinct
found_there [] i k w d h e = absurd (cc)
found_there (x ∷ xs) zero k w d h e = position-cons (bytes_eq w) x.now (map (λ j. j.now) xs) ∙ ap (λ b. cond b (Some 0) (option_map suc (position (bytes_eq w) (map (λ j. j.now) xs)))) (ap (λ j. bytes_eq w j.now) (some_same x k h) ∙ bytes_eq-flip k.now w true e)
found_there (x ∷ xs) (suc i) k w d h e =
    let other : bytes_eq x.now k.now ≡ false = at_place (λ y. bytes_eq x.now y.now ≡ false) xs i k d.0 h in
    position-cons (bytes_eq w) x.now (map (λ j. j.now) xs) ∙ ap (λ b. cond b (Some 0) (option_map suc (position (bytes_eq w) (map (λ j. j.now) xs)))) (ap (λ u. bytes_eq u x.now) (sym ((bytes_eq-Decides k.now w).0 e)) ∙ bytes_eq-flip x.now k.now false other)
    ∙ ap (option_map suc) (found_there xs i k w d.1 h e)

-- an entry at the mark of a word
told_still : (latest : List ℕ) (m n i : ℕ) → tells (slice_get latest i) ≡ true → tells (slice_get (set latest m (suc n)) i) ≡ true
told_still [] m n i h = h
told_still (x ∷ xs) zero n zero h = refl
told_still (x ∷ xs) zero n (suc i) h = h
told_still (x ∷ xs) (suc m) n zero h = h
told_still (x ∷ xs) (suc m) n (suc i) h = told_still xs m n i h

told_now : (latest : List ℕ) (m n : ℕ) → m < length latest → tells (slice_get (set latest m (suc n)) m) ≡ true
told_now [] m n l = absurd (omega arith)
told_now (x ∷ xs) zero n l = refl
told_now (x ∷ xs) (suc m) n l = told_now xs m n (omega arith)

marked_still : (latest : List ℕ) (m n : ℕ) (ws : List (List ℕ)) → are_marked latest ws ≡ true → are_marked (set latest m (suc n)) ws ≡ true
marked_still latest m n [] h = refl
marked_still latest m n (w ∷ ws) h =
    let both : (tells (slice_get latest (word_mark w)) ≡ true) × (are_marked latest ws ≡ true) = both_true _ _ h in
    ap (λ b. b && are_marked (set latest m (suc n)) ws) (told_still latest m n (word_mark w) both.0) ∙ marked_still latest m n ws both.1

marked_append : (latest : List ℕ) (w : List ℕ) → tells (slice_get latest (word_mark w)) ≡ true → (ws : List (List ℕ)) → are_marked latest ws ≡ true → are_marked latest (ws ++ w ∷ []) ≡ true
marked_append latest w t [] h = ap (λ b. b && true) t
marked_append latest w t (v ∷ vs) h =
    let both : (tells (slice_get latest (word_mark v)) ≡ true) × (are_marked latest vs ≡ true) = both_true _ _ h in
    ap (λ b. b && are_marked latest (vs ++ w ∷ [])) both.0 ∙ marked_append latest w t vs both.1

pub table_made : (old new : List ℕ) (ws : List (List ℕ)) → is_table old ws ≡ true → (length old == 1024) ≡ false → length new ≡ 1024 → is_table new ws ≡ true
table_made old new [] h other l = rw l refl
table_made old new (w ∷ ws) h other l = absurd (true≢false (sym h ∙ ap (λ b. if b then are_marked old (w ∷ ws) else false) other))

with_marked : (latest : List ℕ) (ws : List (List ℕ)) (w : List ℕ) (n : ℕ) → length latest ≡ 1024 → word_mark w < 1024 → are_marked latest ws ≡ true → are_marked (set latest (word_mark w) (suc n)) (with_word ws w) ≡ true
with_marked latest ws w n l below h = by (list_any (bytes_eq w) ws)
  where
    still : are_marked (set latest (word_mark w) (suc n)) ws ≡ true
    still = marked_still latest (word_mark w) n ws h

    by : (b : Bool) → are_marked (set latest (word_mark w) (suc n)) (if b then ws else ws ++ w ∷ []) ≡ true
    by true = still
    by false = marked_append (set latest (word_mark w) (suc n)) w (told_now latest (word_mark w) n (rw l below)) ws still

pub table_put : (latest new : List ℕ) (ws : List (List ℕ)) (w : List ℕ) (m n : ℕ) → is_table latest ws ≡ true → length latest ≡ 1024 → m ≡ word_mark w → m < 1024 → new ≡ set latest m (n + 1) → is_table new (with_word ws w) ≡ true
table_put latest new ws w m n h l is below put =
    let marked : are_marked latest ws ≡ true = ap (λ k. if k == 1024 then are_marked latest ws else is_nothing ws) (sym l) ∙ h in
    let next : n + 1 ≡ suc n = omega arith in
    let made : new ≡ set latest (word_mark w) (suc n) = put ∙ ap (λ k. set latest m k) next ∙ ap (λ k. set latest k (suc n)) is in
    let full : length new ≡ 1024 = ap length put ∙ length-set latest m (n + 1) ∙ l in
    ap (λ k. if k == 1024 then are_marked new (with_word ws w) else is_nothing (with_word ws w)) full
    ∙ ap (λ t. are_marked t (with_word ws w)) made ∙ with_marked latest ws w n l (subst (λ k. k < 1024) is below) marked

any_there : (w : List ℕ) (vs : List (List ℕ)) (i : ℕ) → position (bytes_eq w) vs ≡ Some i → list_any (bytes_eq w) vs ≡ true
any_there w [] i h = absurd (cc)
any_there w (v ∷ vs) i h = by (λ j. any_there w vs j) (bytes_eq w v) (position (bytes_eq w) vs) refl refl
  where
    by : ((j : ℕ) → position (bytes_eq w) vs ≡ Some j → list_any (bytes_eq w) vs ≡ true) → (b : Bool) (o : Option ℕ) → bytes_eq w v ≡ b → position (bytes_eq w) vs ≡ o → (bytes_eq w v || list_any (bytes_eq w) vs) ≡ true
    by later true o e k = ap (λ b. b || list_any (bytes_eq w) vs) e
    by later false (Some j) e k = ap (λ b. b || list_any (bytes_eq w) vs) e ∙ later j k
    by later false None e k =
        let none : position (bytes_eq w) (v ∷ vs) ≡ None = position-cons (bytes_eq w) v vs ∙ ap (λ b. cond b (Some 0) (option_map suc (position (bytes_eq w) vs))) e ∙ ap (option_map suc) k in
        absurd (true≢false (none_is_some i (sym none ∙ h)))

-- a word that has a place is there already
pub with_known : (ws : List (List ℕ)) (w : List ℕ) (i : ℕ) → position (bytes_eq w) ws ≡ Some i → with_word ws w ≡ ws
with_known ws w i h = ap (λ b. if b then ws else ws ++ w ∷ []) (any_there w ws i h)
