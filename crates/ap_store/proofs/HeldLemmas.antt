-- The conditions that are held of each number, as changes are made and undone.
use Rattle.std.proofs.Common.{◌≡◌, ◌<◌, ◌≤◌, ◌+◌, ◌-◌, ℕ, zero, suc, Bool, true, false, not, ◌&&◌, ◌||◌, List, [], ◌∷◌, ◌++◌, length, take, get_or, refl, sym, ap, ◌∙◌, subst, arith, append_assoc, true≢false, inl, inr}
use Rattle.std.specs.Global.{Global}
use Rattle.std.specs.Prelude.{◌==◌, Vec, filter, nat_lt, slice_set, if◌then◌else◌, Result, Ok, Err, OnErr}
use Rattle.std.proofs.lemmas.Bool.Decides.{nat_tests}
use Rattle.std.proofs.lemmas.List.{append-nil, length-append, take-append-le, take_more}
use Rattle.ap_defs.specs.Freshness.{Conds, add_conds, cond_eq, has_cond}
use Rattle.ap_defs.specs.declared.terms.Cond.{Cond}
use Rattle.ap_defs.specs.declared.terms.Var.{Var}
use Rattle.ap_theory.proofs.BooleanLemmas.{and_both, and_false, and_left, and_right, or_cases, or_if_left, or_if_right, same_test}
use Rattle.ap_theory.proofs.ConditionSetLemmas.{add_conds_same, cond_eq_tells, has_cond-append, has_cond_add}
use Rattle.ap_theory.proofs.TermLemmas.{number_same, same_number, same_var}
use Rattle.ap_store.specs.Changes.{AreChanges, Change, Made, Bound, Added, Taken, after, empty, has_on, present_after}
use Rattle.ap_store.specs.Slots.{AreHeld, AreTakenBelow, IsHeldByVariable, IsTakenBelow, all_held, held_in}
use Rattle.ap_store.specs.Trails.{AreTakenHeld, held_after, held_step, nothing_held}
use Rattle.ap_store.specs.Triples.{Triple, is_apart, is_on}
use Rattle.ap_store.proofs.AscendingLemmas.{added_some, ascending_filter, ascending_is_set, none_on, on_none}
use Rattle.ap_store.proofs.SoundLemmas.{sound}
use Rattle.ap_store.proofs.TrailLemmas.{kept_more, linked_less, take_whole}

-- what follows where a call fails
pub on_err : {T E : Type 0} (r : Result T E) {P : Type 0} → P → OnErr r P
on_err (Ok x) p = tt
on_err (Err e) p = p

-- What is held of each number in a list.
held_in_get : (vs : List (Vec Cond Global)) (i : ℕ) (d : Vec Cond Global) → i < length vs → held_in vs i ≡ (get_or vs i d).items
held_in_get [] i d l = absurd (omega arith)
held_in_get (v ∷ vs) zero d l = refl
held_in_get (v ∷ vs) (suc i) d l = held_in_get vs i d (omega arith)

pub held_in_beyond : (vs : List (Vec Cond Global)) (i : ℕ) → length vs ≤ i → held_in vs i ≡ []
held_in_beyond [] i l = refl
held_in_beyond (v ∷ vs) zero l = absurd (omega arith)
held_in_beyond (v ∷ vs) (suc i) l = held_in_beyond vs i (omega arith)

held_in_take : (vs : List (Vec Cond Global)) (n i : ℕ) → i < n → held_in (take n vs) i ≡ held_in vs i
held_in_take [] zero i l = refl
held_in_take [] (suc n) i l = refl
held_in_take (v ∷ vs) zero i l = absurd (omega arith)
held_in_take (v ∷ vs) (suc n) zero l = refl
held_in_take (v ∷ vs) (suc n) (suc i) l = held_in_take vs n i (omega arith)

pub held_in_more : (v : Vec Cond Global) (vs ws : List (Vec Cond Global)) (i : ℕ) → ws ≡ vs ++ v ∷ [] → v.items ≡ [] → held_in ws i ≡ held_in vs i
held_in_more v vs ws i e z = ap (λ us. held_in us i) e ∙ last vs i
  where
    none : (j : ℕ) → held_in (v ∷ []) j ≡ []
    none zero = z
    none (suc j) = refl

    last : (us : List (Vec Cond Global)) (j : ℕ) → held_in (us ++ v ∷ []) j ≡ held_in us j
    last [] j = none j
    last (u ∷ us) zero = refl
    last (u ∷ us) (suc j) = last us j

after_zero : (j : ℕ) → (suc j == 0) ≡ false
after_zero j = grind (arith, nat_tests)

before_suc : (i : ℕ) → (0 == suc i) ≡ false
before_suc i = grind (arith, nat_tests)

both_suc : (i j : ℕ) → (suc j == suc i) ≡ (j == i)
both_suc i j = grind (arith, nat_tests)

held_in_set : (vs : List (Vec Cond Global)) (i j : ℕ) (v : Vec Cond Global) → i < length vs → held_in (slice_set vs i v) j ≡ (if j == i then v.items else held_in vs j)
held_in_set [] i j v l = absurd (omega arith)
held_in_set (w ∷ vs) zero zero v l = refl
held_in_set (w ∷ vs) zero (suc j) v l = sym (ap (λ (b : Bool). if b then v.items else held_in vs j) (after_zero j))
held_in_set (w ∷ vs) (suc i) zero v l = sym (ap (λ (b : Bool). if b then v.items else w.items) (before_suc i))
held_in_set (w ∷ vs) (suc i) (suc j) v l = held_in_set vs i j v (omega arith) ∙ ap (λ (b : Bool). if b then v.items else held_in vs j) (sym (both_suc i j))

pub length_set : (vs : List (Vec Cond Global)) (i : ℕ) (v : Vec Cond Global) → length (slice_set vs i v) ≡ length vs
length_set [] zero v = refl
length_set [] (suc i) v = refl
length_set (w ∷ vs) zero v = refl
length_set (w ∷ vs) (suc i) v = ap suc (length_set vs i v)

-- one list is another one
pub changed_at : (f : List Cond → List Cond) (vs : List (Vec Cond Global)) (i : ℕ) (v w : Vec Cond Global) → i < length vs → w ≡ get_or vs i w → v.items ≡ f w.items
    → (j : ℕ) → held_in (slice_set vs i v) j ≡ (if j == i then f (held_in vs j) else held_in vs j)
changed_at f vs i v w l e g j =
    held_in_set vs i j v l
    ∙ (elim (j == i) as (λ b. (j == i) ≡ b → (if b then v.items else held_in vs j) ≡ (if b then f (held_in vs j) else held_in vs j)) [
      | true ↦ λ k. g ∙ ap f (ap (λ (u : Vec Cond Global). u.items) e ∙ sym (held_in_get vs i w l) ∙ ap (held_in vs) (sym (number_same j i k)))
      | false ↦ λ k. refl
    ] refl)

pub kept_at : (vs : List (Vec Cond Global)) (i : ℕ) (v w : Vec Cond Global) → i < length vs → w ≡ get_or vs i w → v.items ≡ w.items → (j : ℕ) → held_in (slice_set vs i v) j ≡ held_in vs j
kept_at vs i v w l e g j =
    changed_at (λ cs. cs) vs i v w l e g j
    ∙ (elim (j == i) as (λ b. (if b then held_in vs j else held_in vs j) ≡ held_in vs j) [ true ↦ refl | false ↦ refl ])

pub held_at : (vs : List (Vec Cond Global)) (i : ℕ) (w : Vec Cond Global) → i < length vs → w ≡ get_or vs i w → w.items ≡ held_in vs i
held_at vs i w l e = ap (λ (u : Vec Cond Global). u.items) e ∙ sym (held_in_get vs i w l)

-- one more list
pub all_more : (vs : List (Vec Cond Global)) (i : ℕ) (v : Vec Cond Global) → i < length vs → v ≡ get_or vs i v → all_held (take (i + 1) vs) ≡ all_held (take i vs) ++ v.items
all_more vs i v l e =
    ap all_held (take_more vs i v l) ∙ behind (take i vs) (get_or vs i v) ∙ ap (λ (u : Vec Cond Global). all_held (take i vs) ++ u.items) (sym e)
  where
    behind : (us : List (Vec Cond Global)) (u : Vec Cond Global) → all_held (us ++ u ∷ []) ≡ all_held us ++ u.items
    behind [] u = append-nil u.items
    behind (t ∷ us) u = ap (λ (cs : List Cond). t.items ++ cs) (behind us u) ∙ sym (append_assoc t.items (all_held us) u.items)

abbrev pub kept : List Change → ℕ → List Cond
kept cs = held_after cs nothing_held

abbrev pub now : List Change → Triple
now cs = present_after cs empty

-- Taken numbers below a bound.
taken_more : (m n : ℕ) (cs : List Change) → m ≤ n → AreTakenBelow m cs → AreTakenBelow n cs
taken_more m n [] l h = tt
taken_more m n (Made k ∷ cs) l h = (tt, taken_more m n cs l h.1)
taken_more m n (Bound x b ∷ cs) l h = (tt, taken_more m n cs l h.1)
taken_more m n (Added c ∷ cs) l h = (tt, taken_more m n cs l h.1)
taken_more m n (Taken x es ∷ cs) l h = let k : x.num < m = h.0 in (omega (arith, k), taken_more m n cs l h.1)

taken_new : (n : ℕ) (cs : List Change) (d : Change) → AreTakenBelow n cs → IsTakenBelow n d → AreTakenBelow n (cs ++ d ∷ [])
taken_new n [] d h k = (k, tt)
taken_new n (c ∷ cs) d h k = (h.0, taken_new n cs d h.1 k)

taken_less : (n : ℕ) (cs : List Change) (d : Change) → AreTakenBelow n (cs ++ d ∷ []) → AreTakenBelow n cs × IsTakenBelow n d
taken_less n [] d h = (tt, h.0)
taken_less n (c ∷ cs) d h = let k = taken_less n cs d h.1 in ((h.0, k.0), k.1)

-- Changes that are made.
module _ (vs us : List (Vec Cond Global)) (cs ts : List Change) (d : Change) (e : ts ≡ cs ++ d ∷ []) (h : AreHeld vs cs) where
  held_new : length vs ≤ length us → IsTakenBelow (length us) d → ((i : ℕ) → held_in us i ≡ held_step d (kept cs) i) → AreHeld us ts
  held_new l p g =
      let k : kept ts ≡ held_step d (kept cs) = ap kept e ∙ kept_more cs d nothing_held in (
        subst (AreTakenBelow (length us)) (sym e) (taken_new (length us) cs d (taken_more (length vs) (length us) cs l h.0) p),
        λ i. g i ∙ ap (λ (q : ℕ → List Cond). q i) (sym k),
      )

pub held_made : (vs : List (Vec Cond Global)) (cs ts : List Change) (n : ℕ) → AreHeld vs cs → ts ≡ cs ++ Made n ∷ [] → AreHeld vs ts
held_made vs cs ts n h e = held_new vs vs cs ts (Made n) e h (omega arith) tt h.1

pub held_bound : (vs : List (Vec Cond Global)) (cs ts : List Change) (x : Var) (b : _) → AreHeld vs cs → ts ≡ cs ++ Bound x b ∷ [] → AreHeld vs ts
held_bound vs cs ts x b h g = held_new vs vs cs ts (Bound x b) g h (omega arith) tt h.1

pub held_added : (vs us : List (Vec Cond Global)) (cs ts : List Change) (c : Cond) → AreHeld vs cs → length vs ≤ length us → ((i : ℕ) → held_in us i ≡ (if i == c.var.num then held_in vs i ++ c ∷ [] else held_in vs i)) → ts ≡ cs ++ Added c ∷ []
    → AreHeld us ts
held_added vs us cs ts c h e f g =
    held_new vs us cs ts (Added c) g h e tt (λ i. f i ∙ ap (λ (es : List Cond). if i == c.var.num then es ++ c ∷ [] else es) (h.1 i))

pub held_taken : (vs us : List (Vec Cond Global)) (cs ts : List Change) (x : Var) (es : _) → AreHeld vs cs → x.num < length vs → length us ≡ length vs → ((i : ℕ) → held_in us i ≡ (if i == x.num then [] else held_in vs i)) → ts ≡ cs ++ Taken x es ∷ []
    → AreHeld us ts
held_taken vs us cs ts x es h l e f g =
    let nothing : List Cond = [] in
    held_new vs us cs ts (Taken x es) g h (omega (arith, e)) (omega (arith, l, e)) (λ i. f i ∙ ap (λ (fs : List Cond). if i == x.num then nothing else fs) (h.1 i))

-- more places, of which nothing is held
pub held_kept : (vs us : List (Vec Cond Global)) (cs : List Change) → AreHeld vs cs → length vs ≤ length us → ((i : ℕ) → held_in us i ≡ held_in vs i) → AreHeld us cs
held_kept vs us cs h l f = (taken_more (length vs) (length us) cs l h.0, λ i. f i ∙ h.1 i)

pub some_more : (n : ℕ) → (n == 0) ≡ false → 0 < n
some_more n h = grind (arith, nat_tests)

-- something is held of places alone
pub held_within : (vs : List (Vec Cond Global)) (i : ℕ) (cs : List Cond) → held_in vs i ≡ cs → 0 < length cs → i < length vs
held_within vs i cs e l =
    elim (nat_lt i (length vs)) as (λ b. nat_lt i (length vs) ≡ b → i < length vs) [
      | true ↦ λ k. grind (arith, nat_tests)
      | false ↦ λ k.
          let m : length vs ≤ i = grind (arith, nat_tests) in
          let n : length cs ≡ 0 = ap length (sym e ∙ held_in_beyond vs i m) in
          absurd (omega (arith, l, n))
    ] refl

pub held_as : (vs : List (Vec Cond Global)) (us : List (Vec Cond Global)) (cs ts : List Change) → AreHeld vs cs → us ≡ vs → ts ≡ cs → AreHeld us ts
held_as vs us cs ts h e f = subst (λ (ws : List (Vec Cond Global)). AreHeld ws ts) (sym e) (subst (AreHeld vs) (sym f) h)

-- Changes that are undone.
module _ (vs : List (Vec Cond Global)) (cs ds : List Change) (d : Change) (e : ds ≡ cs ++ d ∷ []) (h : AreHeld vs ds) where
  taken_before : AreTakenBelow (length vs) cs × IsTakenBelow (length vs) d
  taken_before = taken_less (length vs) cs d (subst (AreTakenBelow (length vs)) e h.0)

  held_before : (i : ℕ) → held_in vs i ≡ held_step d (kept cs) i
  held_before i = h.1 i ∙ ap (λ (q : ℕ → List Cond). q i) (ap kept e ∙ kept_more cs d nothing_held)

pub unheld_made : (vs : List (Vec Cond Global)) (cs ds : List Change) (n : ℕ) → AreHeld vs ds → ds ≡ cs ++ Made n ∷ [] → AreHeld vs cs
unheld_made vs cs ds n h e = let k = taken_before vs cs ds (Made n) e h in (k.0, held_before vs cs ds (Made n) e h)

pub unheld_bound : (vs : List (Vec Cond Global)) (cs ds : List Change) (x : Var) (b : _) → AreHeld vs ds → ds ≡ cs ++ Bound x b ∷ [] → AreHeld vs cs
unheld_bound vs cs ds x b h e = let k = taken_before vs cs ds (Bound x b) e h in (k.0, held_before vs cs ds (Bound x b) e h)

without_last : (cs : List Cond) (c : Cond) → take (length (cs ++ c ∷ []) - 1) (cs ++ c ∷ []) ≡ cs
without_last cs c =
    let l : length (cs ++ c ∷ []) - 1 ≡ length cs = omega (arith, length-append cs (c ∷ [])) in
    ap (λ n. take n (cs ++ c ∷ [])) l ∙ take-append-le (length cs) cs (c ∷ []) (omega arith) ∙ take_whole cs

pub unheld_added : (vs us : List (Vec Cond Global)) (cs ds : List Change) (c : Cond) → AreHeld vs ds → ds ≡ cs ++ Added c ∷ [] → length us ≡ length vs
    → ((i : ℕ) → held_in us i ≡ (if i == c.var.num then take (length (held_in vs i) - 1) (held_in vs i) else held_in vs i)) → AreHeld us cs
unheld_added vs us cs ds c h e f g = (
  let k = taken_before vs cs ds (Added c) e h in taken_more (length vs) (length us) cs (omega (arith, f)) k.0,
  λ i. g i
      ∙ (elim (i == c.var.num) as (λ b. held_in vs i ≡ (if b then kept cs i ++ c ∷ [] else kept cs i) → (if b then take (length (held_in vs i) - 1) (held_in vs i) else held_in vs i) ≡ kept cs i) [
        | true ↦ λ k. ap (λ (es : List Cond). take (length es - 1) es) k ∙ without_last (kept cs i) c
        | false ↦ λ k. k
      ] (held_before vs cs ds (Added c) e h i)),
)

pub unheld_taken : (vs us : List (Vec Cond Global)) (cs ds : List Change) (x : Var) (es : _) → AreHeld vs ds → ds ≡ cs ++ Taken x es ∷ [] → es ≡ kept cs x.num → length us ≡ length vs
    → ((i : ℕ) → held_in us i ≡ (if i == x.num then es else held_in vs i)) → AreHeld us cs
unheld_taken vs us cs ds x es h e k f g = (
  let t = taken_before vs cs ds (Taken x es) e h in taken_more (length vs) (length us) cs (omega (arith, f)) t.0,
  λ i. g i
      ∙ (elim (i == x.num) as (λ b. (i == x.num) ≡ b → held_in vs i ≡ (if b then [] else kept cs i) → (if b then es else held_in vs i) ≡ kept cs i) [
        | true ↦ λ m l. k ∙ ap (kept cs) (sym (number_same i x.num m))
        | false ↦ λ m l. l
      ] refl (held_before vs cs ds (Taken x es) e h i)),
)

pub added_fits : (vs : List (Vec Cond Global)) (cs ds : List Change) (c : Cond) → AreHeld vs ds → ds ≡ cs ++ Added c ∷ [] → c.var.num < length vs
added_fits vs cs ds c h e =
    let i = c.var.num in
    let es = kept cs i in
    let same : (i == i) ≡ true = same_number i i refl in
    let l : 0 < length (es ++ c ∷ []) = omega (arith, length-append es (c ∷ [])) in
    held_within vs i (es ++ c ∷ []) (held_before vs cs ds (Added c) e h i ∙ ap (λ (b : Bool). if b then es ++ c ∷ [] else es) same) l

pub taken_fits : (vs : List (Vec Cond Global)) (cs ds : List Change) (x : Var) (es : _) → AreHeld vs ds → ds ≡ cs ++ Taken x es ∷ [] → x.num < length vs
taken_fits vs cs ds x es h e = let k = taken_before vs cs ds (Taken x es) e h in k.1

pub taken_link : (cs ds : List Change) (x : Var) (es : _) → AreTakenHeld ds nothing_held → ds ≡ cs ++ Taken x es ∷ [] → es ≡ kept cs x.num
taken_link cs ds x es h e = (linked_less cs (Taken x es) nothing_held (subst (λ (fs : List Change). AreTakenHeld fs nothing_held) e h)).1

-- The conditions on a variable are those that came and were not taken out since.
and_or : (o e h : Bool) → (e ≡ true → o ≡ true) → ((o && h) || (e || false)) ≡ (o && (e || h))
and_or true true true p = refl
and_or true true false p = refl
and_or true false true p = refl
and_or true false false p = refl
and_or false true h p = absurd (true≢false (sym (p refl)))
and_or false false h p = refl

or_and : (o e h : Bool) → (e ≡ true → o ≡ true) → (e || (o && h)) ≡ (o && (e || h))
or_and true e h p = refl
or_and false true h p = absurd (true≢false (sym (p refl)))
or_and false false h p = refl

and_skip : (o e h : Bool) → (e ≡ true → o ≡ false) → (o && h) ≡ (o && (e || h))
and_skip false e h p = refl
and_skip true true h p = absurd (true≢false (p refl))
and_skip true false h p = refl

and_none : (o p h : Bool) → (o ≡ true → p ≡ false) → false ≡ (o && (p && h))
and_none false p h q = refl
and_none true true h q = absurd (true≢false (q refl))
and_none true false h q = refl

and_also : (o p h : Bool) → (o ≡ true → p ≡ true) → (o && h) ≡ (o && (p && h))
and_also false p h q = refl
and_also true true h q = refl
and_also true false h q = absurd (true≢false (sym (q refl)))

has_filter : (p : Cond → Bool) (c : Cond) (ds : Conds) → has_cond c (filter p ds) ≡ (p c && has_cond c ds)
has_filter p c [] = sym (and_false (p c))
has_filter p c (d ∷ ds) =
    elim (p d) as (λ b. p d ≡ b → has_cond c (if b then (d ∷ filter p ds) else filter p ds) ≡ (p c && (cond_eq c d || has_cond c ds))) [
      | true ↦ λ k. ap (λ x. cond_eq c d || x) (has_filter p c ds) ∙ or_and (p c) (cond_eq c d) (has_cond c ds) (λ e. ap p (cond_eq_tells c d e) ∙ k)
      | false ↦ λ k. has_filter p c ds ∙ and_skip (p c) (cond_eq c d) (has_cond c ds) (λ e. ap p (cond_eq_tells c d e) ∙ k)
    ] refl

abbrev KeepsConds : Triple → (ℕ → List Cond) → Type 0
KeepsConds a k = (x : Var) (c : Cond) → has_cond c (k x.num) ≡ (is_on x c && has_cond c a.conditions)

on_same : (x : Var) (c d : Cond) → (x.num == d.var.num) ≡ true → cond_eq c d ≡ true → is_on x c ≡ true
on_same x c d h k = same_number c.var.num x.num (ap (λ (b : Cond). b.var.num) (cond_eq_tells c d k) ∙ sym (number_same x.num d.var.num h))

on_other : (x : Var) (c d : Cond) → (x.num == d.var.num) ≡ false → cond_eq c d ≡ true → is_on x c ≡ false
on_other x c d h k = let e : c.var.num ≡ d.var.num = ap (λ (b : Cond). b.var.num) (cond_eq_tells c d k) in grind (arith, nat_tests)

apart_none : (x y : Var) (c : Cond) → (x.num == y.num) ≡ true → is_on x c ≡ true → is_apart y c ≡ false
apart_none x y c h k = grind (arith, nat_tests)

apart_also : (x y : Var) (c : Cond) → (x.num == y.num) ≡ false → is_on x c ≡ true → is_apart y c ≡ true
apart_also x y c h k = grind (arith, nat_tests)

keeps_step : (d : Change) (a : Triple) (k : ℕ → List Cond) → KeepsConds a k → KeepsConds (after d a) (held_step d k)
keeps_step (Made n) a k f x c = f x c
keeps_step (Bound y b) a k f x c = f x c
keeps_step (Added d) a k f x c =
    (elim (x.num == d.var.num) as (λ b. (x.num == d.var.num) ≡ b → has_cond c (if b then k x.num ++ d ∷ [] else k x.num) ≡ (is_on x c && (cond_eq c d || has_cond c a.conditions))) [
      | true ↦ λ e.
          has_cond-append c (k x.num) (d ∷ []) ∙ ap (λ z. z || (cond_eq c d || false)) (f x c)
          ∙ and_or (is_on x c) (cond_eq c d) (has_cond c a.conditions) (on_same x c d e)
      | false ↦ λ e. f x c ∙ and_skip (is_on x c) (cond_eq c d) (has_cond c a.conditions) (on_other x c d e)
    ] refl)
    ∙ ap (λ z. is_on x c && z) (sym (has_cond_add c d a.conditions))
keeps_step (Taken y cs) a k f x c =
    (elim (x.num == y.num) as (λ b. (x.num == y.num) ≡ b → has_cond c (if b then [] else k x.num) ≡ (is_on x c && (is_apart y c && has_cond c a.conditions))) [
      | true ↦ λ e. and_none (is_on x c) (is_apart y c) (has_cond c a.conditions) (apart_none x y c e)
      | false ↦ λ e. f x c ∙ and_also (is_on x c) (is_apart y c) (has_cond c a.conditions) (apart_also x y c e)
    ] refl)
    ∙ ap (λ z. is_on x c && z) (sym (has_filter (is_apart y) c a.conditions))

keeps_after : (cs : List Change) (a : Triple) (k : ℕ → List Cond) → KeepsConds a k → KeepsConds (present_after cs a) (held_after cs k)
keeps_after [] a k f = f
keeps_after (c ∷ cs) a k f = keeps_after cs (after c a) (held_step c k) (keeps_step c a k f)

keeps : (cs : List Change) → KeepsConds (now cs) (kept cs)
keeps cs = keeps_after cs empty nothing_held (λ x c. sym (and_false (is_on x c)))

pub on_var_set : (vs : List (Vec Cond Global)) (cs : List Change) (x : Var) → AreHeld vs cs → AreChanges cs empty → add_conds (held_in vs x.num) [] ≡ filter (is_on x) (now cs).conditions
on_var_set vs cs x h ch =
    let ds = (now cs).conditions in
    add_conds_same (held_in vs x.num) (filter (is_on x) ds) (λ c. ap (has_cond c) (h.1 x.num) ∙ keeps cs x c ∙ sym (has_filter (is_on x) c ds))
    ∙ ascending_is_set (filter (is_on x) ds) (ascending_filter (is_on x) ds (sound cs ch).well_formed.ascending)

-- whether something is held of x tells whether there are conditions on it
some_held : (n : ℕ) → not (suc n == 0) ≡ true
some_held n = grind (arith, nat_tests)

held_tells : (hs ds : Conds) (x : Var) → add_conds hs [] ≡ filter (is_on x) ds → not (length hs == 0) ≡ has_on x ds
held_tells [] ds x e = sym (none_on x ds (sym e))
held_tells (h ∷ hs) ds x e =
    elim (has_on x ds) as (λ b. has_on x ds ≡ b → not (length (h ∷ hs) == 0) ≡ b) [
      | true ↦ λ k. some_held (length hs)
      | false ↦ λ k. absurd (added_some h (add_conds hs []) (e ∙ on_none x ds k))
    ] refl

pub on_var_held : (vs : List (Vec Cond Global)) (cs : List Change) (x : Var) → AreHeld vs cs → AreChanges cs empty → not (length (held_in vs x.num) == 0) ≡ has_on x (now cs).conditions
on_var_held vs cs x h ch = held_tells (held_in vs x.num) (now cs).conditions x (on_var_set vs cs x h ch)

held_one : (c : Cond) (vs : List (Vec Cond Global)) (i : ℕ) → has_cond c (held_in vs i) ≡ true → has_cond c (all_held vs) ≡ true
held_one c [] i h = h
held_one c (v ∷ vs) zero h = has_cond-append c v.items (all_held vs) ∙ or_if_left (has_cond c v.items) (has_cond c (all_held vs)) h
held_one c (v ∷ vs) (suc i) h = has_cond-append c v.items (all_held vs) ∙ or_if_right (has_cond c v.items) (has_cond c (all_held vs)) (held_one c vs i h)

held_some : (c : Cond) (ds : Conds) (vs : List (Vec Cond Global)) → ((i : ℕ) → has_cond c (held_in vs i) ≡ true → has_cond c ds ≡ true) → has_cond c (all_held vs) ≡ true → has_cond c ds ≡ true
held_some c ds [] f h = absurd (true≢false (sym h))
held_some c ds (v ∷ vs) f h =
    elim (or_cases (has_cond c v.items) (has_cond c (all_held vs)) (sym (has_cond-append c v.items (all_held vs)) ∙ h)) [
      | inl k ↦ f 0 k
      | inr k ↦ held_some c ds vs (λ i. f (suc i)) k
    ]

pub all_set : (vs : List (Vec Cond Global)) (cs : List Change) → AreHeld vs cs → AreChanges cs empty → add_conds (all_held vs) [] ≡ (now cs).conditions
all_set vs cs h ch =
    let ds = (now cs).conditions in
    add_conds_same (all_held vs) ds
    (λ c. same_test (has_cond c (all_held vs)) (has_cond c ds)
    (held_some c ds vs (λ i k. let x : Var = record { num = i } in and_right (is_on x c) (has_cond c ds) (sym (ap (has_cond c) (h.1 i) ∙ keeps cs x c) ∙ k)))
    (λ k. held_one c vs c.var.num (ap (has_cond c) (h.1 c.var.num) ∙ keeps cs c.var c ∙ and_both (is_on c.var c) (has_cond c ds) (same_var c.var c.var refl) k)))
    ∙ ascending_is_set ds (sound cs ch).well_formed.ascending

pub held_by_variable : (vs : List (Vec Cond Global)) (cs : List Change) → AreHeld vs cs → IsHeldByVariable vs
held_by_variable vs cs h i c k =
    let x : Var = record { num = i } in
    number_same c.var.num i (and_left (is_on x c) (has_cond c (now cs).conditions) (sym (ap (has_cond c) (h.1 i) ∙ keeps cs x c) ∙ k))
