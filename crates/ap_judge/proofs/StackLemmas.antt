-- Steps of loops that test what waits on a stack.
use Rattle.std.proofs.Common.{◌≡◌, ◌<◌, ◌≤◌, ◌+◌, ℕ, Bool, true, false, ◌&&◌, List, [], ◌∷◌, ◌++◌, length, reverse, take, refl, sym, ap, ap₂, ◌∙◌, arith, le_refl, length-append, subst}
use Rattle.std.proofs.lemmas.List.{length-take-le, reverse-append, take-append-le, take-take}
use Rattle.std.proofs.lemmas.List.Folds.{list_all-append}
use Rattle.std.proofs.lemmas.List.Sums.{sum_by-append}
use Rattle.std.specs.List.{list_all, sum_by}
use Rattle.ap_judge.specs.Stacks.{AreWithin, IsReplaced, IsReplacedThere, IsTested, IsTestedThere, all_waiting}

pub and_true : (x : Bool) → (x && true) ≡ x
and_true true = refl
and_true false = refl

pub and_turned : (x y : Bool) → (x && y) ≡ (y && x)
and_turned true true = refl
and_turned true false = refl
and_turned false true = refl
and_turned false false = refl

and_assoc : (x y z : Bool) → ((x && y) && z) ≡ (x && (y && z))
and_assoc true y z = refl
and_assoc false y z = refl

sum_last : {P : Type 0} (size : P → ℕ) (ps : List P) (q : P) → sum_by size (ps ++ q ∷ []) ≡ size q + sum_by size ps
sum_last size ps q = let whole : sum_by size (ps ++ q ∷ []) ≡ sum_by size ps + sum_by size (q ∷ []) = sum_by-append size ps (q ∷ []) in omega (arith, whole)

module _ {P : Type 0} (test : P → Bool) (size : P → ℕ) where
  all_last : (ps : List P) (q : P) → list_all test (ps ++ q ∷ []) ≡ (test q && list_all test ps)
  all_last ps q = list_all-append test ps (q ∷ []) ∙ ap (λ v. list_all test ps && v) (and_true (test q)) ∙ and_turned (list_all test ps) (test q)

  -- what one leaves: nothing, one, or two
  pub replaced_none : (p : P) (ps qs : List P) → qs ≡ ps → test p ≡ true → 0 < size p → IsReplaced test size p ps qs
  replaced_none p ps qs e h l = record {
    all = ap (list_all test) e ∙ ap (λ v. v && list_all test ps) (sym h);
    less = let same : sum_by size qs ≡ sum_by size ps = ap (sum_by size) e in omega (arith, same);
  }

  pub replaced_one : (p q : P) (ps qs : List P) → qs ≡ ps ++ q ∷ [] → test p ≡ test q → size q < size p → IsReplaced test size p ps qs
  replaced_one p q ps qs e h l = record {
    all = ap (list_all test) e ∙ all_last ps q ∙ ap (λ v. v && list_all test ps) (sym h);
    less = let sums : sum_by size qs ≡ size q + sum_by size ps = ap (sum_by size) e ∙ sum_last size ps q in omega (arith, sums);
  }

  pub replaced_two : (p q r : P) (ps ms qs : List P) → ms ≡ ps ++ r ∷ [] → qs ≡ ms ++ q ∷ [] → test p ≡ (test q && test r) → size q + size r < size p → IsReplaced test size p ps qs
  replaced_two p q r ps ms qs d e h l = record {
    all =
        ap (list_all test) e ∙ all_last ms q ∙ ap (λ zs. test q && list_all test zs) d ∙ ap (λ v. test q && v) (all_last ps r) ∙ sym (and_assoc (test q) (test r) (list_all test ps))
        ∙ ap (λ v. v && list_all test ps) (sym h);
    less =
        let first : sum_by size qs ≡ size q + sum_by size ms = ap (sum_by size) e ∙ sum_last size ms q in
        let second : sum_by size ms ≡ size r + sum_by size ps = ap (sum_by size) d ∙ sum_last size ps r in
        omega (arith, first, second);
  }

  -- one turn of a loop, where the last one was taken
  pub tested_false : (whole : Bool) (p : P) (ws ps qs : List P) (r : Bool) → list_all test ws ≡ whole → ws ≡ ps ++ p ∷ [] → r ≡ false → IsTested test size p ps qs r → false ≡ whole
  tested_false whole p ws ps qs r inv top e h =
      let fails : test p ≡ false = subst (λ v. IsTested test size p ps qs v) e h in
      sym (ap (λ v. v && list_all test ps) fails) ∙ sym (ap (list_all test) top ∙ all_last ps p) ∙ inv

  pub tested_true : (whole : Bool) (p : P) (ws ps qs : List P) (r : Bool) → list_all test ws ≡ whole → ws ≡ ps ++ p ∷ [] → r ≡ true → IsTested test size p ps qs r → list_all test qs ≡ whole
  tested_true whole p ws ps qs r inv top e h =
      let left : IsReplaced test size p ps qs = subst (λ v. IsTested test size p ps qs v) e h in
      left.all ∙ sym (ap (list_all test) top ∙ all_last ps p) ∙ inv

  pub tested_less : (p : P) (ws ps qs : List P) (r : Bool) → ws ≡ ps ++ p ∷ [] → r ≡ true → IsTested test size p ps qs r → sum_by size qs < sum_by size ws
  tested_less p ws ps qs r top e h =
      let left : IsReplaced test size p ps qs = subst (λ v. IsTested test size p ps qs v) e h in
      let sums : sum_by size ws ≡ size p + sum_by size ps = ap (sum_by size) top ∙ sum_last size ps p in
      omega (arith, left.less, sums)

  pub tested_end : (whole : Bool) (ws : List P) → list_all test ws ≡ whole → ws ≡ [] → true ≡ whole
  tested_end whole ws inv e = sym (ap (list_all test) e) ∙ inv

take-whole : {A : Type 0} (xs : List A) → take (length xs) xs ≡ xs
take-whole [] = refl
take-whole (x ∷ xs) = ap (λ ys. x ∷ ys) (take-whole xs)

last_first : {A : Type 0} (xs : List A) (x : A) → reverse (xs ++ x ∷ []) ≡ x ∷ reverse xs
last_first xs x = reverse-append xs (x ∷ [])

module _ {P : Type 0} (mark : P → ℕ) where
  within_higher : (m n : ℕ) (ps : List P) → m ≤ n → AreWithin mark m ps → AreWithin mark n ps
  within_higher m n [] h k = tt
  within_higher m n (p ∷ ps) h k = (omega (arith, k.0), k.1)

  within_last : (ps : List P) (q : P) (n : ℕ) → mark q ≤ n → AreWithin mark (mark q) (reverse ps) → AreWithin mark n (reverse (ps ++ q ∷ []))
  within_last ps q n h k = subst (AreWithin mark n) (sym (last_first ps q)) (h, k)

module _ {P B : Type 0} (mark : P → ℕ) (test : List B → P → Bool) where
  -- all depend only on what stands below the greatest mark
  waiting_same : (top : ℕ) (bs cs : List B) (ps : List P) → take top bs ≡ take top cs → AreWithin mark top ps → all_waiting mark test bs ps ≡ all_waiting mark test cs ps
  waiting_same top bs cs [] e m = refl
  waiting_same top bs cs (p ∷ ps) e m =
      let same : take (mark p) bs ≡ take (mark p) cs = sym (take-take (mark p) top bs m.0) ∙ ap (take (mark p)) e ∙ take-take (mark p) top cs m.0 in
      ap₂ ◌&&◌ (ap (λ ds. test ds p) same) (waiting_same (mark p) bs cs ps same m.1)

  -- one more waits, where all stands
  waiting_last : (bs cs : List B) (ps : List P) (q : P) → take (length bs) cs ≡ bs → mark q ≡ length cs → AreWithin mark (length bs) (reverse ps)
      → all_waiting mark test cs (reverse (ps ++ q ∷ [])) ≡ (test cs q && all_waiting mark test bs (reverse ps))
  waiting_last bs cs ps q e m k =
      ap (all_waiting mark test cs) (last_first ps q) ∙ ap₂ ◌&&◌ (ap (λ n. test (take n cs) q) m ∙ ap (λ ds. test ds q) (take-whole cs))
      (waiting_same (length bs) cs bs (reverse ps) (e ∙ sym (take-whole bs)) k)

  module _ (size : P → ℕ) where
    pub left_none : (p : P) (bs : List B) (ps : List P) → AreWithin mark (length bs) (reverse ps) → test bs p ≡ true → 0 < size p → IsReplacedThere mark test size p bs ps bs ps
    left_none p bs ps k h l = record {
      all = ap (λ v. v && all_waiting mark test bs (reverse ps)) (sym h);
      within = k;
      less = omega arith;
    }

    pub left_one : (p q : P) (bs cs : List B) (ps qs : List P) → AreWithin mark (length bs) (reverse ps) → take (length bs) cs ≡ bs → length bs ≤ length cs → mark q ≡ length cs → qs ≡ ps ++ q ∷ []
        → test bs p ≡ test cs q → size q < size p → IsReplacedThere mark test size p bs ps cs qs
    left_one p q bs cs ps qs k f g m e h l = record {
      all = ap (λ zs. all_waiting mark test cs (reverse zs)) e ∙ waiting_last bs cs ps q f m k ∙ ap (λ v. v && all_waiting mark test bs (reverse ps)) (sym h);
      within =
          subst (λ zs. AreWithin mark (length cs) (reverse zs)) (sym e)
          (within_last mark ps q (length cs) (omega (arith, m)) (within_higher mark (length bs) (mark q) (reverse ps) (omega (arith, m)) k));
      less = let sums : sum_by size qs ≡ size q + sum_by size ps = ap (sum_by size) e ∙ sum_last size ps q in omega (arith, sums);
    }

    -- one waits where the same stands, and where one thing more stands
    pub left_here : (p q : P) (bs cs : List B) (ps qs : List P) → AreWithin mark (length bs) (reverse ps) → cs ≡ bs → mark q ≡ length bs → qs ≡ ps ++ q ∷ []
        → test bs p ≡ test bs q → size q < size p → IsReplacedThere mark test size p bs ps cs qs
    left_here p q bs cs ps qs k d m e h l =
        subst (λ ds. IsReplacedThere mark test size p bs ps ds qs) (sym d) (left_one p q bs bs ps qs k (take-whole bs) (le_refl (length bs)) m e h l)

    pub left_brought : (p q : P) (b : B) (bs cs : List B) (ps qs : List P) → AreWithin mark (length bs) (reverse ps) → cs ≡ bs ++ b ∷ [] → mark q ≡ length cs → qs ≡ ps ++ q ∷ []
        → test bs p ≡ test (bs ++ b ∷ []) q → size q < size p → IsReplacedThere mark test size p bs ps cs qs
    left_brought p q b bs cs ps qs k d m e h l =
        left_one p q bs cs ps qs k (ap (take (length bs)) d ∙ take-append-le (length bs) bs (b ∷ []) (le_refl (length bs)) ∙ take-whole bs) (omega (arith, ap length d, length-append bs (b ∷ []))) m e
        (h ∙ ap (λ ds. test ds q) (sym d)) l

    -- two wait
    two_here : (p q r : P) (bs : List B) (ps ms qs : List P) → AreWithin mark (length bs) (reverse ps) → mark r ≡ length bs → ms ≡ ps ++ r ∷ [] → mark q ≡ length bs → qs ≡ ms ++ q ∷ []
        → test bs p ≡ (test bs q && test bs r) → size q + size r < size p → IsReplacedThere mark test size p bs ps bs qs
    two_here p q r bs ps ms qs k m d n e h l =
        let one : AreWithin mark (length bs) (reverse ms) =
        subst (λ zs. AreWithin mark (length bs) (reverse zs)) (sym d) (within_last mark ps r (length bs) (omega (arith, m)) (subst (λ i. AreWithin mark i (reverse ps)) (sym m) k)) in
        record {
          all =
              ap (λ zs. all_waiting mark test bs (reverse zs)) e ∙ waiting_last bs bs ms q (take-whole bs) n one
              ∙ ap (λ v. test bs q && v) (ap (λ zs. all_waiting mark test bs (reverse zs)) d ∙ waiting_last bs bs ps r (take-whole bs) m k)
              ∙ sym (and_assoc (test bs q) (test bs r) (all_waiting mark test bs (reverse ps))) ∙ ap (λ v. v && all_waiting mark test bs (reverse ps)) (sym h);
          within = subst (λ zs. AreWithin mark (length bs) (reverse zs)) (sym e) (within_last mark ms q (length bs) (omega (arith, n)) (subst (λ i. AreWithin mark i (reverse ms)) (sym n) one));
          less =
              let first : sum_by size qs ≡ size q + sum_by size ms = ap (sum_by size) e ∙ sum_last size ms q in
              let second : sum_by size ms ≡ size r + sum_by size ps = ap (sum_by size) d ∙ sum_last size ps r in
              omega (arith, first, second);
        }

    pub left_two : (p q r : P) (bs cs : List B) (ps ms qs : List P) → AreWithin mark (length bs) (reverse ps) → cs ≡ bs → mark r ≡ length bs → ms ≡ ps ++ r ∷ [] → mark q ≡ length bs → qs ≡ ms ++ q ∷ []
        → test bs p ≡ (test bs q && test bs r) → size q + size r < size p → IsReplacedThere mark test size p bs ps cs qs
    left_two p q r bs cs ps ms qs k f m d n e h l = subst (λ ds. IsReplacedThere mark test size p bs ps ds qs) (sym f) (two_here p q r bs ps ms qs k m d n e h l)

    -- One turn of a loop, where the last one was taken, and what stands after its mark was cut off.
    module _ (whole : Bool) (p : P) (as' bs cs : List B) (ws ps qs : List P) (inv : all_waiting mark test as' (reverse ws) ≡ whole) (within : AreWithin mark (length as') (reverse ws))
        (top : ws ≡ ps ++ p ∷ []) (cut : bs ≡ take (mark p) as') where
      marks : (mark p ≤ length as') × AreWithin mark (mark p) (reverse ps)
      marks = subst (AreWithin mark (length as')) (ap reverse top ∙ last_first ps p) within

      stands : length bs ≡ mark p
      stands = ap length cut ∙ length-take-le (mark p) as' marks.0

      pub turn_within : AreWithin mark (length bs) (reverse ps)
      turn_within = subst (λ n. AreWithin mark n (reverse ps)) (sym stands) marks.1

      whole_is : whole ≡ (test bs p && all_waiting mark test bs (reverse ps))
      whole_is =
          sym inv ∙ ap (λ zs. all_waiting mark test as' zs) (ap reverse top ∙ last_first ps p)
          ∙ ap₂ ◌&&◌ (ap (λ ds. test ds p) (sym cut))
          (waiting_same (mark p) as' bs (reverse ps) (sym (ap (take (mark p)) cut ∙ take-take (mark p) (mark p) as' (le_refl (mark p)))) marks.1)

      pub turn_false : (r : Bool) → r ≡ false → IsTestedThere mark test size p bs ps cs qs r → false ≡ whole
      turn_false r e h =
          let fails : test bs p ≡ false = subst (λ v. IsTestedThere mark test size p bs ps cs qs v) e h in
          sym (whole_is ∙ ap (λ v. v && all_waiting mark test bs (reverse ps)) fails)

      module _ (r : Bool) (e : r ≡ true) (h : IsTestedThere mark test size p bs ps cs qs r) where
        left : IsReplacedThere mark test size p bs ps cs qs
        left = subst (λ v. IsTestedThere mark test size p bs ps cs qs v) e h

        pub turn_true : all_waiting mark test cs (reverse qs) ≡ whole
        turn_true = left.all ∙ sym whole_is

        pub turn_keeps : AreWithin mark (length cs) (reverse qs)
        turn_keeps = left.within

        pub turn_less : sum_by size qs < sum_by size ws
        turn_less =
            let sums : sum_by size ws ≡ size p + sum_by size ps = ap (sum_by size) top ∙ sum_last size ps p in
            omega (arith, left.less, sums)

    pub turn_end : (whole : Bool) (bs : List B) (ws : List P) → all_waiting mark test bs (reverse ws) ≡ whole → ws ≡ [] → true ≡ whole
    turn_end whole bs ws inv e = sym (ap (λ zs. all_waiting mark test bs (reverse zs)) e) ∙ inv

-- WITH NOTHING LEFT

module _ {P : Type 0} (test : P → Bool) (size : P → ℕ) where
  pub tested_leaf : (r : Bool) (p : P) (ps : List P) → r ≡ test p → 0 < size p → IsTested test size p ps ps r
  tested_leaf true p ps h l = replaced_none test size p ps ps refl (sym h) l
  tested_leaf false p ps h l = sym h

pub tested_leaf_there : {P B : Type 0} (mark : P → ℕ) (test : List B → P → Bool) (size : P → ℕ) (r : Bool) (p : P) (bs : List B) (ps : List P) → AreWithin mark (length bs) (reverse ps)
    → r ≡ test bs p → 0 < size p → IsTestedThere mark test size p bs ps bs ps r
tested_leaf_there mark test size true p bs ps k h l = left_none mark test size p bs ps k (sym h) l
tested_leaf_there mark test size false p bs ps k h l = sym h

-- where one waits at the beginning
module _ {P B : Type 0} (mark : P → ℕ) (test : List B → P → Bool) (p : P) (bs : List B) (ps : List P) (m : mark p ≡ 0) (e : ps ≡ p ∷ []) where
  pub first_waits : bs ≡ [] → all_waiting mark test bs (reverse ps) ≡ test [] p
  first_waits d =
      ap₂ (λ cs zs. all_waiting mark test cs (reverse zs)) d e ∙ and_true (test (take (mark p) []) p) ∙ ap (λ n. test (take n []) p) m

  pub first_within : AreWithin mark (length bs) (reverse ps)
  first_within = subst (λ zs. AreWithin mark (length bs) (reverse zs)) (sym e) (omega (arith, m), tt)
