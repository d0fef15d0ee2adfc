-- The merged outputs of a legal and true history with nothing open are those below the empty path, as far as they are wanted.
-- The proof keeps a frontier: all paths that are open, have ended or were left out, in path order.
use Rattle.std.proofs.Common.{◌≡◌, ◌≢◌, ℕ, zero, suc, ◌+◌, ◌<◌, ◌≤◌, Bool, true, false, ◌&&◌, ◌||◌, eqb, if◌then◌else◌, Option, Some, nat_le, leb-true, List, [], ◌∷◌, ◌++◌, sym, refl, ap, ◌∙◌, subst, inl, inr, ⊎_elim, true≢false, not, eq-eqb, ne_eqb, append_assoc, append-nil, arith}
use mathlib.Core.Logic.{dite}
use native.Mathlib.Decide.{ℕ_discrete}
use Rattle.std.proofs.lemmas.Bool.Decides.{nat_tests}
use Rattle.std.proofs.lemmas.Cmp.{nat_cmp_total, tied_itself}
use Rattle.std.specs.Ordering.{is_lt, nat_cmp, ordering_then}
use Rattle.std.specs.Cmp.Lexicographic.{slice_cmp}
use Rattle.std.specs.declared.cmp.Ordering.{Ordering}
use Rattle.std.specs.declared.cmp.Ordering.TheVariants.{Greater, Less}
use Rattle.std.proofs.lemmas.Bool.{and_parts}
use Rattle.ap_defs.specs.Answers.{NominalOut}
use Rattle.ap_paths.specs.declared.limits.Limit.{Limit}
use Rattle.ap_paths.specs.declared.limits.Limit.TheVariants as limits
use Rattle.ap_paths.specs.Entries.{TreeEntry, split, done, skip, stop}
use Rattle.ap_paths.specs.Limits.{AreWithin, found_in, part}
use Rattle.ap_paths.specs.History.{same_path, is_open, without, kids_of, open_from, legal_from, are_reached, is_legal, open_of}
use Rattle.ap_paths.specs.Trees.{Choices, Outputs, IsChoice, GoesOn, InChoiceTree, joined_below, IsTree, times, Ascends, AreAtMost, AreKids, AreTrue}
use Rattle.ap_paths.specs.Frontier.{Before, Fate, still_open, has_ended, was_skipped, is_waiting, is_ended, is_skipped, Item, AllAfter, Sorted, outs_in, outs_left, ended_in, open_in, skipped_in}
use Rattle.ap_paths.specs.Weights.{weigh, one_if, is_it}
use Rattle.ap_paths.specs.Merging.{is_path_before, EndedPath, insert, ends_from, all_outs, found_before, merged}
use Rattle.ap_paths.proofs.Histories.{legal_parts}
use Rattle.ap_paths.proofs.Limiting.{found_both, part_full}

pub before_left : (p q r : List ℕ) → Before p q → Before (p ++ r) q
before_left [] q r h = absurd h
before_left (x ∷ xs) [] r h = absurd h
before_left (x ∷ xs) (y ∷ ys) r h = ⊎_elim (λ l. inl l) (λ e. inr (e.0, before_left xs ys r e.1)) h

pub before_right : (p q r : List ℕ) → Before p q → Before p (q ++ r)
before_right [] q r h = absurd h
before_right (x ∷ xs) [] r h = absurd h
before_right (x ∷ xs) (y ∷ ys) r h = ⊎_elim (λ l. inl l) (λ e. inr (e.0, before_right xs ys r e.1)) h

pub before_kids : (p : List ℕ) (a b : ℕ) → a < b → Before (p ++ a ∷ []) (p ++ b ∷ [])
before_kids [] a b l = inl l
before_kids (x ∷ xs) a b l = inr (refl, before_kids xs a b l)

or-true : (b : Bool) → b || true ≡ true
or-true true = refl
or-true false = refl

and-false : (b : Bool) → b && false ≡ false
and-false true = refl
and-false false = refl

nat_less : (x y : ℕ) → x < y → nat_cmp x y ≡ Less
nat_less x y l = grind (arith, nat_tests)

nat_greater : (x y : ℕ) → y < x → nat_cmp x y ≡ Greater
nat_greater x y l = grind (arith, nat_tests)

-- equal numbers leave the order to the rest
nat_then : (x y : ℕ) (o : Ordering) → x ≡ y → ordering_then (nat_cmp x y) o ≡ o
nat_then x y o e = subst (λ z. ordering_then (nat_cmp x z) o ≡ o) e (rw (tied_itself nat_cmp_total x) refl)

pub path_less : (p q : List ℕ) → Before p q → slice_cmp nat_cmp p q ≡ Less
path_less [] q h = absurd h
path_less (x ∷ xs) [] h = absurd h
path_less (x ∷ xs) (y ∷ ys) h = ⊎_elim (λ l. rw (nat_less x y l) refl) (λ e. nat_then x y (slice_cmp nat_cmp xs ys) e.0 ∙ path_less xs ys e.1) h

pub path_greater : (p q : List ℕ) → Before q p → slice_cmp nat_cmp p q ≡ Greater
path_greater p [] h = absurd h
path_greater [] (y ∷ ys) h = absurd h
path_greater (x ∷ xs) (y ∷ ys) h = ⊎_elim (λ l. rw (nat_greater x y l) refl) (λ e. nat_then x y (slice_cmp nat_cmp xs ys) (sym e.0) ∙ path_greater xs ys e.1) h

less_there : (p q : List ℕ) → Before p q → is_path_before p q ≡ true
less_there p q h = ap is_lt (path_less p q h)

less_not : (p q : List ℕ) → Before q p → is_path_before p q ≡ false
less_not p q h = ap is_lt (path_greater p q h)

eqb_same : (x y : ℕ) → eqb x y ≡ true → x ≡ y
eqb_same x y e = grind (arith, nat_tests)

pub path_same : (p q : List ℕ) → same_path p q ≡ true → p ≡ q
path_same [] [] e = refl
path_same [] (y ∷ ys) e = absurd (true≢false (sym e))
path_same (x ∷ xs) [] e = absurd (true≢false (sym e))
path_same (x ∷ xs) (y ∷ ys) e = let b = and_parts (eqb x y) (same_path xs ys) e in λ i. eqb_same x y b.0 i ∷ path_same xs ys b.1 i

abbrev pub AllIn : Choices → List Item → Type 0
AllIn c [] = Unit {0}
AllIn c (x ∷ xs) = InChoiceTree c x.0 × AllIn c xs

abbrev pub kid_items : List ℕ → List ℕ → List Item
kid_items p [] = []
kid_items p (k ∷ ks) = (p ++ k ∷ [], still_open) ∷ kid_items p ks

abbrev pub hits : List ℕ → Item → Bool
hits p x = if is_waiting x.1 then same_path p x.0 else false

abbrev pub grow : List ℕ → List ℕ → List Item → List Item
grow p ks [] = []
grow p ks (x ∷ xs) = if hits p x then kid_items p ks ++ xs else x ∷ grow p ks xs

abbrev pub mark : Fate → List ℕ → List Item → List Item
mark m p [] = []
mark m p (x ∷ xs) = if hits p x then (x.0, m) ∷ xs else x ∷ mark m p xs

abbrev pub undone : (List ℕ → ℕ) → List Item → ℕ
undone h [] = 0
undone h (x ∷ xs) = (if is_waiting x.1 then h x.0 else 0) + undone h xs

hit_is : (p : List ℕ) (x : Item) → hits p x ≡ true → (p ≡ x.0) × (x.1 ≡ still_open)
hit_is p (q, still_open) e = (path_same p q e, refl)
hit_is p (q, has_ended) e = absurd (true≢false (sym e))
hit_is p (q, was_skipped) e = absurd (true≢false (sym e))

-- the item is one that is open at p, or not
cases : (P : List Item → Type 0) (p : List ℕ) (x : Item) (hit miss : List Item) → ((p ≡ x.0) → (x.1 ≡ still_open) → P hit) → (hits p x ≡ false → P miss) → P (if hits p x then hit else miss)
cases P p x hit miss yes_hit no_hit =
    let step : (b : Bool) → hits p x ≡ b → P (if b then hit else miss) = λ b.
    elim b as (λ b. hits p x ≡ b → P (if b then hit else miss)) [ true ↦ λ e. (let r = hit_is p x e in yes_hit r.0 r.1) | false ↦ λ e. no_hit e ] in
    step (hits p x) refl

after_left : (p r : List ℕ) (xs : List Item) → AllAfter p xs → AllAfter (p ++ r) xs
after_left p r [] h = tt
after_left p r (x ∷ xs) h = (before_left p x.0 r h.0, after_left p r xs h.1)

after_both : (p : List ℕ) (xs ys : List Item) → AllAfter p xs → AllAfter p ys → AllAfter p (xs ++ ys)
after_both p [] ys h g = g
after_both p (x ∷ xs) ys h g = (h.0, after_both p xs ys h.1 g)

after_kids : (r p ks : List ℕ) → Before r p → AllAfter r (kid_items p ks)
after_kids r p [] h = tt
after_kids r p (k ∷ ks) h = (before_right r p (k ∷ []) h, after_kids r p ks h)

-- later kids come after
kids_after : (p : List ℕ) (k i : ℕ) (ks : List ℕ) → k < i → Ascends i ks → AllAfter (p ++ k ∷ []) (kid_items p ks)
kids_after p k i [] l h = tt
kids_after p k i (j ∷ ks) l h = (before_kids p k j (let z = h.0 in omega arith), kids_after p k (suc j) ks (let z = h.0 in omega arith) h.1)

sorted_kids : (p : List ℕ) (i : ℕ) (ks : List ℕ) (xs : List Item) → Ascends i ks → AllAfter p xs → Sorted xs → Sorted (kid_items p ks ++ xs)
sorted_kids p i [] xs h g s = s
sorted_kids p i (k ∷ ks) xs h g s = (after_both (p ++ k ∷ []) (kid_items p ks) xs (kids_after p k (suc k) ks (omega arith) h.1) (after_left p (k ∷ []) xs g), sorted_kids p (suc k) ks xs h.1 g s)

grow_after : (r p ks : List ℕ) (xs : List Item) → AllAfter r xs → AllAfter r (grow p ks xs)
grow_after r p ks [] h = tt
grow_after r p ks (x ∷ xs) h =
    cases (AllAfter r) p x (kid_items p ks ++ xs) (x ∷ grow p ks xs)
    (λ e _. after_both r (kid_items p ks) xs (after_kids r p ks (subst (Before r) (sym e) h.0)) h.1)
    (λ _. (h.0, grow_after r p ks xs h.1))

grow_sorted : (p : List ℕ) (i : ℕ) (ks : List ℕ) (xs : List Item) → Ascends i ks → Sorted xs → Sorted (grow p ks xs)
grow_sorted p i ks [] a s = tt
grow_sorted p i ks (x ∷ xs) a s =
    cases Sorted p x (kid_items p ks ++ xs) (x ∷ grow p ks xs)
    (λ e _. sorted_kids p i ks xs a (subst (λ q. AllAfter q xs) (sym e) s.0) s.1)
    (λ _. (grow_after x.0 p ks xs s.0, grow_sorted p i ks xs a s.1))

mark_after : (m : Fate) (r p : List ℕ) (xs : List Item) → AllAfter r xs → AllAfter r (mark m p xs)
mark_after m r p [] h = tt
mark_after m r p (x ∷ xs) h = cases (AllAfter r) p x ((x.0, m) ∷ xs) (x ∷ mark m p xs) (λ _ _. h) (λ _. (h.0, mark_after m r p xs h.1))

mark_sorted : (m : Fate) (p : List ℕ) (xs : List Item) → Sorted xs → Sorted (mark m p xs)
mark_sorted m p [] s = tt
mark_sorted m p (x ∷ xs) s = cases Sorted p x ((x.0, m) ∷ xs) (x ∷ mark m p xs) (λ _ _. s) (λ _. (mark_after m x.0 p xs s.0, mark_sorted m p xs s.1))

in_both : (c : Choices) (xs ys : List Item) → AllIn c xs → AllIn c ys → AllIn c (xs ++ ys)
in_both c [] ys h g = g
in_both c (x ∷ xs) ys h g = (h.0, in_both c xs ys h.1 g)

grow_in : (c : Choices) (p ks : List ℕ) (xs : List Item) → AllIn c (kid_items p ks) → AllIn c xs → AllIn c (grow p ks xs)
grow_in c p ks [] kids h = tt
grow_in c p ks (x ∷ xs) kids h = cases (AllIn c) p x (kid_items p ks ++ xs) (x ∷ grow p ks xs) (λ _ _. in_both c (kid_items p ks) xs kids h.1) (λ _. (h.0, grow_in c p ks xs kids h.1))

mark_in : (c : Choices) (m : Fate) (p : List ℕ) (xs : List Item) → AllIn c xs → AllIn c (mark m p xs)
mark_in c m p [] h = tt
mark_in c m p (x ∷ xs) h = cases (AllIn c) p x ((x.0, m) ∷ xs) (x ∷ mark m p xs) (λ _ _. h) (λ _. (h.0, mark_in c m p xs h.1))

outs_both : (at : Outputs) (xs ys : List Item) → outs_in at (xs ++ ys) ≡ outs_in at xs ++ outs_in at ys
outs_both at [] ys = refl
outs_both at (x ∷ xs) ys = ap (λ l. at x.0 ++ l) (outs_both at xs ys) ∙ sym (append_assoc (at x.0) (outs_in at xs) (outs_in at ys))

grow_outs : (at : Outputs) (p ks : List ℕ) (xs : List Item) → at p ≡ outs_in at (kid_items p ks) → outs_in at (grow p ks xs) ≡ outs_in at xs
grow_outs at p ks [] e = refl
grow_outs at p ks (x ∷ xs) e =
    cases (λ l. outs_in at l ≡ at x.0 ++ outs_in at xs) p x (kid_items p ks ++ xs) (x ∷ grow p ks xs)
    (λ is _. outs_both at (kid_items p ks) xs ∙ ap (λ l. l ++ outs_in at xs) (sym e ∙ ap at is))
    (λ _. ap (λ l. at x.0 ++ l) (grow_outs at p ks xs e))

mark_outs : (at : Outputs) (m : Fate) (p : List ℕ) (xs : List Item) → outs_in at (mark m p xs) ≡ outs_in at xs
mark_outs at m p [] = refl
mark_outs at m p (x ∷ xs) = cases (λ l. outs_in at l ≡ at x.0 ++ outs_in at xs) p x ((x.0, m) ∷ xs) (x ∷ mark m p xs) (λ _ _. refl) (λ _. ap (λ l. at x.0 ++ l) (mark_outs at m p xs))

doned_kids : (at : Outputs) (p ks : List ℕ) (xs : List Item) → ended_in at (kid_items p ks ++ xs) ≡ ended_in at xs
doned_kids at p [] xs = refl
doned_kids at p (k ∷ ks) xs = doned_kids at p ks xs

grow_doned : (at : Outputs) (p ks : List ℕ) (xs : List Item) → ended_in at (grow p ks xs) ≡ ended_in at xs
grow_doned at p ks [] = refl
grow_doned at p ks (x ∷ xs) =
    cases (λ l. ended_in at l ≡ (if is_ended x.1 then (x.0, at x.0) ∷ ended_in at xs else ended_in at xs)) p x (kid_items p ks ++ xs) (x ∷ grow p ks xs)
    (λ _ open_yet. doned_kids at p ks xs ∙ sym (ap (λ (k : Fate). if is_ended k then (x.0, at x.0) ∷ ended_in at xs else ended_in at xs) open_yet))
    (λ _. ap (λ l. if is_ended x.1 then (x.0, at x.0) ∷ l else l) (grow_doned at p ks xs))

-- leaving a path out ends nothing
skip_doned : (at : Outputs) (p : List ℕ) (xs : List Item) → ended_in at (mark was_skipped p xs) ≡ ended_in at xs
skip_doned at p [] = refl
skip_doned at p (x ∷ xs) =
    cases (λ l. ended_in at l ≡ (if is_ended x.1 then (x.0, at x.0) ∷ ended_in at xs else ended_in at xs)) p x ((x.0, was_skipped) ∷ xs) (x ∷ mark was_skipped p xs)
    (λ _ open_yet. sym (ap (λ (k : Fate). if is_ended k then (x.0, at x.0) ∷ ended_in at xs else ended_in at xs) open_yet))
    (λ _. ap (λ l. if is_ended x.1 then (x.0, at x.0) ∷ l else l) (skip_doned at p xs))

pub same_itself : (p : List ℕ) → same_path p p ≡ true
same_itself [] = refl
same_itself (x ∷ xs) = rw (eq-eqb x x refl, same_itself xs) refl

-- an item that is open at p
abbrev pub Has : List ℕ → List Item → Type 0
Has p xs = 0 < undone (is_it p) xs

undone_both : (h : List ℕ → ℕ) (xs ys : List Item) → undone h (xs ++ ys) ≡ undone h xs + undone h ys
undone_both h [] ys = omega arith
undone_both h (x ∷ xs) ys = omega (arith, undone_both h xs ys)

-- where an item is no hit, an open p stands behind it
has_later : (p : List ℕ) (x : Item) (xs : List Item) → hits p x ≡ false → Has p (x ∷ xs) → Has p xs
has_later p (q, still_open) xs e h = let z = ap one_if e in omega arith
has_later p (q, has_ended) xs e h = omega arith
has_later p (q, was_skipped) xs e h = omega arith

-- what is open after p went, and its kids came
grow_undone : (h : List ℕ → ℕ) (p ks : List ℕ) (xs : List Item) → Has p xs → undone h (grow p ks xs) + h p ≡ undone h xs + undone h (kid_items p ks)
grow_undone h p ks [] has = absurd (omega arith)
grow_undone h p ks (x ∷ xs) has =
    cases (λ l. undone h l + h p ≡ undone h (x ∷ xs) + undone h (kid_items p ks)) p x (kid_items p ks ++ xs) (x ∷ grow p ks xs)
    (λ e open_yet. (let a = undone_both h (kid_items p ks) xs in let b : (if is_waiting x.1 then h x.0 else 0) ≡ h p = ap (λ (k : Fate). if is_waiting k then h x.0 else 0) open_yet ∙ ap h (sym e) in omega arith))
    (λ miss. (let a = grow_undone h p ks xs (has_later p x xs miss has) in omega arith))

mark_undone : (m : Fate) (h : List ℕ → ℕ) (p : List ℕ) (xs : List Item) → is_waiting m ≡ false → Has p xs → undone h (mark m p xs) + h p ≡ undone h xs
mark_undone m h p [] gone has = absurd (omega arith)
mark_undone m h p (x ∷ xs) gone has =
    cases (λ l. undone h l + h p ≡ undone h (x ∷ xs)) p x ((x.0, m) ∷ xs) (x ∷ mark m p xs)
    (λ e open_yet.
    (let b : (if is_waiting x.1 then h x.0 else 0) ≡ h p = ap (λ (k : Fate). if is_waiting k then h x.0 else 0) open_yet ∙ ap h (sym e) in
    let d : (if is_waiting m then h x.0 else 0) ≡ 0 = ap (λ (b : Bool). if b then h x.0 else 0) gone in
    omega arith))
    (λ miss. (let a = mark_undone m h p xs gone (has_later p x xs miss has) in omega arith))

-- an open p behind q comes after it
before_it : (q p : List ℕ) (xs : List Item) → AllAfter q xs → Has p xs → Before q p
before_it q p [] all has = absurd (omega arith)
before_it q p (x ∷ xs) all has =
    cases (λ _. Before q p) p x xs xs (λ e _. subst (Before q) (sym e) all.0) (λ miss. before_it q p xs all.1 (has_later p x xs miss has))

insert_front : (at : Outputs) (p : List ℕ) (xs : List Item) → AllAfter p xs → insert p (at p) (ended_in at xs) ≡ (p, at p) ∷ ended_in at xs
insert_front at p [] all = refl
insert_front at p ((q, still_open) ∷ xs) all = insert_front at p xs all.1
insert_front at p ((q, has_ended) ∷ xs) all = rw (less_there p q all.0) refl
insert_front at p ((q, was_skipped) ∷ xs) all = insert_front at p xs all.1

miss_doned : (at : Outputs) (p : List ℕ) (x : Item) (xs : List Item) → ended_in at (mark has_ended p xs) ≡ insert p (at p) (ended_in at xs) → is_path_before p x.0 ≡ false
    → ended_in at (x ∷ mark has_ended p xs) ≡ insert p (at p) (ended_in at (x ∷ xs))
miss_doned at p (q, still_open) xs r less = r
miss_doned at p (q, has_ended) xs r less = rw less (ap (λ l. (q, at q) ∷ l) r)
miss_doned at p (q, was_skipped) xs r less = r

mark_doned : (at : Outputs) (p : List ℕ) (xs : List Item) → Sorted xs → Has p xs → ended_in at (mark has_ended p xs) ≡ insert p (at p) (ended_in at xs)
mark_doned at p [] s has = absurd (omega arith)
mark_doned at p (x ∷ xs) s has =
    cases (λ l. ended_in at l ≡ insert p (at p) (ended_in at (x ∷ xs))) p x ((x.0, has_ended) ∷ xs) (x ∷ mark has_ended p xs)
    (λ e open_yet.
    ap (λ q. (q, at q) ∷ ended_in at xs) (sym e) ∙ sym (insert_front at p xs (subst (λ q. AllAfter q xs) (sym e) s.0)) ∙ ap (insert p (at p)) (sym (ap (λ (k : Fate). if is_ended k then (x.0, at x.0) ∷ ended_in at xs else ended_in at xs) open_yet)))
    (λ miss. let later = has_later p x xs miss has in let r = mark_doned at p xs s.1 later in let less = less_not p x.0 (before_it x.0 p xs s.0 later) in miss_doned at p x xs r less)

-- left out numbers
abbrev count_if : Bool → ℕ
count_if b = if b then 1 else 0

zero_if : (a b : ℕ) → a ≢ b → count_if (eqb a b) ≡ 0
zero_if a b ne = ap count_if (ne_eqb a b ne)

ascends_none : (i j : ℕ) (ks : List ℕ) → i < j → Ascends j ks → times i ks ≡ 0
ascends_none i j [] l h = refl
ascends_none i j (k ∷ ks) l h = let a = h.0 in let r = ascends_none i (suc k) ks (omega arith) h.1 in let s = zero_if k i (λ e. omega arith) in omega arith

AllBelow : ℕ → List ℕ → Type 0
AllBelow n [] = Unit {0}
AllBelow n (k ∷ ks) = (k < n) × AllBelow n ks

below_same : (m n : ℕ) (ks : List ℕ) → m ≡ n → AllBelow m ks → AllBelow n ks
below_same m n ks e h = subst (λ k. AllBelow k ks) e h

joined_kids : (at : Outputs) (p : List ℕ) (i n : ℕ) (ks : List ℕ) → Ascends i ks → AllBelow (i + n) ks → ((k : ℕ) → i ≤ k → k < i + n → times k ks ≡ 0 → at (p ++ k ∷ []) ≡ []) → joined_below at p i n ≡ outs_in at (kid_items p ks)
unfolding AllBelow
joined_kids at p i zero [] a b out = refl
joined_kids at p i zero (k ∷ ks) a b out = absurd (let x = a.0 in let y = b.0 in omega arith)
joined_kids at p i (suc n) [] a b out =
    ap (λ l. l ++ joined_below at p (suc i) n) (out i (omega arith) (omega arith) refl) ∙ joined_kids at p (suc i) n [] tt tt (λ k low high e. out k (omega arith) (omega arith) e)
joined_kids at p i (suc n) (k ∷ ks) a b out =
    dite (ℕ_discrete i k)
    (λ same.
    ap (λ j. at (p ++ j ∷ []) ++ joined_below at p (suc i) n) same
    ∙ ap (λ l. at (p ++ k ∷ []) ++ l) (joined_kids at p (suc i) n ks (subst (λ j. Ascends (suc j) ks) (sym same) a.1) (below_same (i + suc n) (suc i + n) ks (omega arith) b.1)
    (λ j low high e. out j (omega arith) (omega arith) (let s = zero_if k j (λ z. omega arith) in omega arith))))
    (λ apart.
    let less : i < k = (let z = a.0 in omega arith) in
    let none_here : times i (k ∷ ks) ≡ 0 = ascends_none i k (k ∷ ks) less ((omega arith), a.1) in
    ap (λ l. l ++ joined_below at p (suc i) n) (out i (omega arith) (omega arith) none_here)
    ∙ joined_kids at p (suc i) n (k ∷ ks) ((omega arith), a.1) (below_same (i + suc n) (suc i + n) (k ∷ ks) (omega arith) b) (λ j low high e. out j (omega arith) (omega arith) e))

at_most_below : (w : ℕ) (ks : List ℕ) → AreAtMost w ks → AllBelow (1 + w) ks
unfolding AllBelow
at_most_below w [] h = tt
at_most_below w (k ∷ ks) h = ((let z = h.0 in omega arith), at_most_below w ks h.1)

-- what is below a path is what is below the kids that were kept
kept_outs : (c : Choices) (at : Outputs) (p ks : List ℕ) → IsTree c at → InChoiceTree c p → AreKids c at p ks → at p ≡ outs_in at (kid_items p ks)
kept_outs c at p ks tree there kids =
    tree p kids.0 there kids.1 ∙ joined_kids at p 1 kids.0 ks kids.2 (at_most_below kids.0 ks kids.3) (λ k low high e. kids.4 k low (omega arith) e)

goes_on-last : (c : Choices) (q p : List ℕ) (k : ℕ) → GoesOn c q p → IsChoice (c (q ++ p)) k → GoesOn c q (p ++ k ∷ [])
goes_on-last c q [] k h is = (subst (λ (x : List ℕ). IsChoice (c x) k) (append-nil q) is, tt)
goes_on-last c q (x ∷ xs) k h is = (h.0, goes_on-last c (q ++ x ∷ []) xs k h.1 (subst (λ (y : List ℕ). IsChoice (c y) k) (sym (append_assoc q (x ∷ []) xs)) is))

pub kids_in : (c : Choices) (p : List ℕ) (w i : ℕ) (ks : List ℕ) → InChoiceTree c p → c p ≡ Some w → 1 ≤ i → Ascends i ks → AreAtMost w ks → AllIn c (kid_items p ks)
kids_in c p w i [] there is one a m = tt
kids_in c p w i (k ∷ ks) there is one a m =
    let low = a.0 in
    (goes_on-last c [] p k there (subst (λ (o : Option ℕ). IsChoice o k) (sym is) ((omega arith), m.0)), kids_in c p w (suc k) ks there is (omega arith) a.1 m.1)

pub weigh_open_in : (h : List ℕ → ℕ) (xs : List Item) → undone h xs ≡ weigh h (open_in xs)
weigh_open_in h [] = refl
weigh_open_in h ((q, still_open) ∷ xs) = omega (arith, weigh_open_in h xs)
weigh_open_in h ((q, has_ended) ∷ xs) = omega (arith, weigh_open_in h xs)
weigh_open_in h ((q, was_skipped) ∷ xs) = omega (arith, weigh_open_in h xs)

pub weigh_both : (h : List ℕ → ℕ) (xs ys : List (List ℕ)) → weigh h (xs ++ ys) ≡ weigh h xs + weigh h ys
weigh_both h [] ys = omega arith
weigh_both h (x ∷ xs) ys = omega (arith, weigh_both h xs ys)

weigh_kids : (h : List ℕ → ℕ) (p ks : List ℕ) → weigh h (kids_of p ks) ≡ undone h (kid_items p ks)
weigh_kids h p [] = refl
weigh_kids h p (k ∷ ks) = omega (arith, weigh_kids h p ks)

pub weigh_without : (h : List ℕ → ℕ) (p : List ℕ) (ps : List (List ℕ)) → is_open p ps ≡ true → weigh h (without p ps) + h p ≡ weigh h ps
weigh_without h p [] e = absurd (true≢false (sym e))
weigh_without h p (q ∷ qs) e =
    let step : (b : Bool) → same_path p q ≡ b → b || is_open p qs ≡ true → weigh h (if b then qs else q ∷ without p qs) + h p ≡ weigh h (q ∷ qs) = λ b.
    elim b as (λ b. same_path p q ≡ b → b || is_open p qs ≡ true → weigh h (if b then qs else q ∷ without p qs) + h p ≡ weigh h (q ∷ qs))
    [ true ↦ λ s _. (let z = ap h (path_same p q s) in omega arith) | false ↦ λ _ o. (let z = weigh_without h p qs o in omega arith) ] in
    step (same_path p q) refl e

pub weigh_open : (p : List ℕ) (ps : List (List ℕ)) → is_open p ps ≡ true → 0 < weigh (is_it p) ps
weigh_open p ps e = let z = weigh_without (is_it p) p ps e in let s = ap one_if (same_itself p) in omega arith

-- where no item is open, all have ended or were left out
pub all_doned : (at : Outputs) (xs : List Item) → undone (λ _. 1) xs ≡ 0 → all_outs (ended_in at xs) ≡ outs_left at xs
all_doned at [] e = refl
all_doned at ((q, still_open) ∷ xs) e = absurd (omega arith)
all_doned at ((q, has_ended) ∷ xs) e = ap (λ l. at q ++ l) (all_doned at xs (omega arith))
all_doned at ((q, was_skipped) ∷ xs) e = all_doned at xs (omega arith)

-- what was left out is as it was, but where a path is left out
skipped_kids : (p ks : List ℕ) (xs : List Item) → skipped_in (kid_items p ks ++ xs) ≡ skipped_in xs
skipped_kids p [] xs = refl
skipped_kids p (k ∷ ks) xs = skipped_kids p ks xs

pub skipped_grow : (p ks : List ℕ) (xs : List Item) → skipped_in (grow p ks xs) ≡ skipped_in xs
skipped_grow p ks [] = refl
skipped_grow p ks (x ∷ xs) =
    cases (λ l. skipped_in l ≡ (if is_skipped x.1 then x.0 ∷ skipped_in xs else skipped_in xs)) p x (kid_items p ks ++ xs) (x ∷ grow p ks xs)
    (λ _ open_yet. skipped_kids p ks xs ∙ sym (ap (λ (k : Fate). if is_skipped k then x.0 ∷ skipped_in xs else skipped_in xs) open_yet))
    (λ _. ap (λ l. if is_skipped x.1 then x.0 ∷ l else l) (skipped_grow p ks xs))

pub skipped_ended : (p : List ℕ) (xs : List Item) → skipped_in (mark has_ended p xs) ≡ skipped_in xs
skipped_ended p [] = refl
skipped_ended p (x ∷ xs) =
    cases (λ l. skipped_in l ≡ (if is_skipped x.1 then x.0 ∷ skipped_in xs else skipped_in xs)) p x ((x.0, has_ended) ∷ xs) (x ∷ mark has_ended p xs)
    (λ _ open_yet. sym (ap (λ (k : Fate). if is_skipped k then x.0 ∷ skipped_in xs else skipped_in xs) open_yet))
    (λ _. ap (λ l. if is_skipped x.1 then x.0 ∷ l else l) (skipped_ended p xs))

skipped_next : (h : List ℕ → ℕ) (n : ℕ) (x : Item) (xs ys : List Item) → weigh h (skipped_in ys) ≡ n + weigh h (skipped_in xs) → weigh h (skipped_in (x ∷ ys)) ≡ n + weigh h (skipped_in (x ∷ xs))
skipped_next h n (q, still_open) xs ys e = e
skipped_next h n (q, has_ended) xs ys e = e
skipped_next h n (q, was_skipped) xs ys e = omega (arith, e)

pub skipped_more : (h : List ℕ → ℕ) (p : List ℕ) (xs : List Item) → Has p xs → weigh h (skipped_in (mark was_skipped p xs)) ≡ h p + weigh h (skipped_in xs)
skipped_more h p [] has = absurd (omega arith)
skipped_more h p (x ∷ xs) has =
    cases (λ l. weigh h (skipped_in l) ≡ h p + weigh h (skipped_in (x ∷ xs))) p x ((x.0, was_skipped) ∷ xs) (x ∷ mark was_skipped p xs)
    (λ e open_yet. (let a = ap h e in let b = ap (λ (k : Fate). weigh h (if is_skipped k then x.0 ∷ skipped_in xs else skipped_in xs)) open_yet in omega arith))
    (λ miss. skipped_next h (h p) x xs (mark was_skipped p xs) (skipped_more h p xs (has_later p x xs miss has)))

-- what an item adds to the answers that have ended
abbrev pub counts : Fate → ℕ → ℕ
counts still_open n = 0
counts has_ended n = n
counts was_skipped n = 0

-- where a path was left out, answers enough have ended before it
abbrev pub MayLack : Limit → ℕ → Fate → Type 0
MayLack l k still_open = Unit {0}
MayLack l k has_ended = Unit {0}
MayLack l k was_skipped = (n : ℕ) × (l ≡ limits.First n) × (n ≤ k)

abbrev pub AreCovered : Limit → Outputs → ℕ → List Item → Type 0
AreCovered l at k [] = Unit {0}
AreCovered l at k (x ∷ xs) = MayLack l k x.1 × AreCovered l at (counts x.1 (found_in (at x.0)) + k) xs

lack_more : (l : Limit) (m : Fate) (k j : ℕ) → k ≤ j → MayLack l k m → MayLack l j m
lack_more l still_open k j le h = tt
lack_more l has_ended k j le h = tt
lack_more l was_skipped k j le h = (h.0, h.1, (let z = h.2 in omega arith))

covered_more : (l : Limit) (at : Outputs) (k j : ℕ) (xs : List Item) → k ≤ j → AreCovered l at k xs → AreCovered l at j xs
covered_more l at k j [] le h = tt
covered_more l at k j (x ∷ xs) le h =
    (lack_more l x.1 k j le h.0, covered_more l at (counts x.1 (found_in (at x.0)) + k) (counts x.1 (found_in (at x.0)) + j) xs (omega arith) h.1)

covered_kids : (l : Limit) (at : Outputs) (k : ℕ) (p ks : List ℕ) (xs : List Item) → AreCovered l at k xs → AreCovered l at k (kid_items p ks ++ xs)
covered_kids l at k p [] xs h = h
covered_kids l at k p (i ∷ ks) xs h = (tt, covered_more l at k (0 + k) (kid_items p ks ++ xs) (omega arith) (covered_kids l at k p ks xs h))

pub covered_grow : (l : Limit) (at : Outputs) (k : ℕ) (p ks : List ℕ) (xs : List Item) → AreCovered l at k xs → AreCovered l at k (grow p ks xs)
covered_grow l at k p ks [] h = tt
covered_grow l at k p ks (x ∷ xs) h =
    cases (AreCovered l at k) p x (kid_items p ks ++ xs) (x ∷ grow p ks xs)
    (λ _ open_yet.
    covered_kids l at k p ks xs
    (covered_more l at (counts x.1 (found_in (at x.0)) + k) k xs (let z : counts x.1 (found_in (at x.0)) ≡ 0 = ap (λ (m : Fate). counts m (found_in (at x.0))) open_yet in omega arith) h.1))
    (λ _. (h.0, covered_grow l at (counts x.1 (found_in (at x.0)) + k) p ks xs h.1))

pub covered_ended : (l : Limit) (at : Outputs) (k : ℕ) (p : List ℕ) (xs : List Item) → AreCovered l at k xs → AreCovered l at k (mark has_ended p xs)
covered_ended l at k p [] h = tt
covered_ended l at k p (x ∷ xs) h =
    cases (AreCovered l at k) p x ((x.0, has_ended) ∷ xs) (x ∷ mark has_ended p xs)
    (λ _ open_yet. (
      tt,
      covered_more l at (counts x.1 (found_in (at x.0)) + k) (found_in (at x.0) + k) xs (let z : counts x.1 (found_in (at x.0)) ≡ 0 = ap (λ (m : Fate). counts m (found_in (at x.0))) open_yet in omega arith) h.1,
    ))
    (λ _. (h.0, covered_ended l at (counts x.1 (found_in (at x.0)) + k) p xs h.1))

-- nothing behind p counts before it
none_before : (at : Outputs) (p : List ℕ) (xs : List Item) → AllAfter p xs → found_before p (ended_in at xs) ≡ 0
none_before at p [] all = refl
none_before at p ((q, still_open) ∷ xs) all = none_before at p xs all.1
none_before at p ((q, has_ended) ∷ xs) all =
    let z : (if is_path_before q p then found_in (at q) else 0) ≡ 0 = ap (λ (b : Bool). if b then found_in (at q) else 0) (less_not q p all.0) in omega (arith, none_before at p xs all.1)
none_before at p ((q, was_skipped) ∷ xs) all = none_before at p xs all.1

at_most : (b : Bool) (n m : ℕ) → (if b then n else 0) + m ≤ n + m
at_most true n m = omega arith
at_most false n m = omega arith

before_next : (at : Outputs) (p : List ℕ) (x : Item) (xs : List Item) → found_before p (ended_in at (x ∷ xs)) ≤ counts x.1 (found_in (at x.0)) + found_before p (ended_in at xs)
before_next at p (q, still_open) xs = omega arith
before_next at p (q, has_ended) xs = at_most (is_path_before q p) (found_in (at q)) (found_before p (ended_in at xs))
before_next at p (q, was_skipped) xs = omega arith

covered_skipped : (l : Limit) (at : Outputs) (k : ℕ) (p : List ℕ) (n : ℕ) (xs : List Item) → l ≡ limits.First n → Sorted xs → Has p xs → n ≤ found_before p (ended_in at xs) + k → AreCovered l at k xs → AreCovered l at k (mark was_skipped p xs)
covered_skipped l at k p n [] is s has le h = tt
covered_skipped l at k p n (x ∷ xs) is s has le h =
    let next = before_next at p x xs in
    cases (AreCovered l at k) p x ((x.0, was_skipped) ∷ xs) (x ∷ mark was_skipped p xs)
    (λ e open_yet.
    (let z : counts x.1 (found_in (at x.0)) ≡ 0 = ap (λ (m : Fate). counts m (found_in (at x.0))) open_yet in
    let none_yet = none_before at p xs (subst (λ q. AllAfter q xs) (sym e) s.0) in
    ((n, is, omega arith), covered_more l at (counts x.1 (found_in (at x.0)) + k) (0 + k) xs (omega arith) h.1)))
    (λ miss. (h.0, covered_skipped l at (counts x.1 (found_in (at x.0)) + k) p n xs is s.1 (has_later p x xs miss has) (omega arith) h.1))

-- what is wanted is not below a path that was left out
cut_left : (l : Limit) (at : Outputs) (k : ℕ) (front : List NominalOut) (xs : List Item) → k ≤ found_in front → AreCovered l at k xs → part l (front ++ outs_left at xs) ≡ part l (front ++ outs_in at xs)
cut_left l at k front [] le h = refl
cut_left l at k front ((q, still_open) ∷ xs) le h =
    ap (part l) (sym (append_assoc front (at q) (outs_left at xs))) ∙ cut_left l at (0 + k) (front ++ at q) xs (omega (arith, found_both front (at q))) h.1 ∙ ap (part l) (append_assoc front (at q) (outs_in at xs))
cut_left l at k front ((q, has_ended) ∷ xs) le h =
    ap (part l) (sym (append_assoc front (at q) (outs_left at xs))) ∙ cut_left l at (found_in (at q) + k) (front ++ at q) xs (omega (arith, found_both front (at q))) h.1 ∙ ap (part l) (append_assoc front (at q) (outs_in at xs))
cut_left l at k front ((q, was_skipped) ∷ xs) le h =
    let n = h.0.0 in
    let enough : n ≤ found_in front = (let z = h.0.2 in omega arith) in
    part_full l n front (outs_left at xs) h.0.1 enough ∙ sym (part_full l n front (at q ++ outs_in at xs) h.0.1 enough)

-- what is wanted of the outputs below all paths is below those that were not left out
pub wanted_left : (l : Limit) (at : Outputs) (xs : List Item) → AreCovered l at 0 xs → part l (outs_left at xs) ≡ part l (outs_in at xs)
wanted_left l at xs h = cut_left l at 0 [] xs (omega arith) h

-- the frontier of a history so far
pub record IsFrontier (c : Choices) (at : Outputs) (whole : List NominalOut) (ps : List (List ℕ)) (ends : List EndedPath) (xs : List Item) : Type 0 where
  pub sorted : Sorted xs
  pub outs : outs_in at xs ≡ whole
  pub opens : (h : List ℕ → ℕ) → undone h xs ≡ weigh h ps
  pub ended : ends ≡ ended_in at xs
  pub inside : AllIn c xs

pub frontier_has : (p : List ℕ) (ps : List (List ℕ)) (xs : List Item) → ((h : List ℕ → ℕ) → undone h xs ≡ weigh h ps) → is_open p ps ≡ true → Has p xs
frontier_has p ps xs opens e = let a = opens (is_it p) in let b = weigh_open p ps e in omega arith

pub in_tree_at : (c : Choices) (p : List ℕ) (xs : List Item) → AllIn c xs → Has p xs → InChoiceTree c p
in_tree_at c p [] all has = absurd (omega arith)
in_tree_at c p (x ∷ xs) all has = cases (λ _. InChoiceTree c p) p x xs xs (λ e _. subst (InChoiceTree c) (sym e) all.0) (λ miss. in_tree_at c p xs all.1 (has_later p x xs miss has))

-- what a split does to the weight of all open paths
pub weigh_split : (p ks : List ℕ) (ps : List (List ℕ)) → is_open p ps ≡ true → (h : List ℕ → ℕ) → weigh h (without p ps ++ kids_of p ks) + h p ≡ weigh h ps + weigh h (kids_of p ks)
weigh_split p ks ps e h = let a = weigh_without h p ps e in let b = weigh_both h (without p ps) (kids_of p ks) in omega arith

-- the frontier after one path was split, and after one was ended, however the open paths lie
pub frontier_split : (c : Choices) (at : Outputs) (whole : List NominalOut) (ps qs : List (List ℕ)) (ends : List EndedPath) (xs : List Item) (p ks : List ℕ) → IsTree c at → IsFrontier c at whole ps ends xs → 0 < weigh (is_it p) ps → AreKids c at p ks
    → ((h : List ℕ → ℕ) → weigh h qs + h p ≡ weigh h ps + weigh h (kids_of p ks)) → IsFrontier c at whole qs ends (grow p ks xs)
frontier_split c at whole ps qs ends xs p ks tree f open_yet kids moved =
    let has : Has p xs = (let a = f.opens (is_it p) in omega arith) in
    let there = in_tree_at c p xs f.inside has in
    record {
      sorted = grow_sorted p 1 ks xs kids.2 f.sorted;
      outs = grow_outs at p ks xs (kept_outs c at p ks tree there kids) ∙ f.outs;
      opens = λ h. (let g = grow_undone h p ks xs has in let a = f.opens h in let k = weigh_kids h p ks in let m = moved h in omega arith);
      ended = f.ended ∙ sym (grow_doned at p ks xs);
      inside = grow_in c p ks xs (kids_in c p kids.0 1 ks there kids.1 (omega arith) kids.2 kids.3) f.inside;
    }

pub frontier_done : (c : Choices) (at : Outputs) (whole : List NominalOut) (ps qs : List (List ℕ)) (ends : List EndedPath) (xs : List Item) (p : List ℕ) → IsFrontier c at whole ps ends xs → 0 < weigh (is_it p) ps
    → ((h : List ℕ → ℕ) → weigh h qs + h p ≡ weigh h ps) → IsFrontier c at whole qs (insert p (at p) ends) (mark has_ended p xs)
frontier_done c at whole ps qs ends xs p f open_yet moved =
    let has : Has p xs = (let a = f.opens (is_it p) in omega arith) in
    record {
      sorted = mark_sorted has_ended p xs f.sorted;
      outs = mark_outs at has_ended p xs ∙ f.outs;
      opens = λ h. (let g = mark_undone has_ended h p xs refl has in let a = f.opens h in let m = moved h in omega arith);
      ended = ap (insert p (at p)) f.ended ∙ sym (mark_doned at p xs f.sorted has);
      inside = mark_in c has_ended p xs f.inside;
    }

pub frontier_skip : (c : Choices) (at : Outputs) (whole : List NominalOut) (ps qs : List (List ℕ)) (ends : List EndedPath) (xs : List Item) (p : List ℕ) → IsFrontier c at whole ps ends xs → 0 < weigh (is_it p) ps
    → ((h : List ℕ → ℕ) → weigh h qs + h p ≡ weigh h ps) → IsFrontier c at whole qs ends (mark was_skipped p xs)
frontier_skip c at whole ps qs ends xs p f open_yet moved =
    let has : Has p xs = (let a = f.opens (is_it p) in omega arith) in
    record {
      sorted = mark_sorted was_skipped p xs f.sorted;
      outs = mark_outs at was_skipped p xs ∙ f.outs;
      opens = λ h. (let g = mark_undone was_skipped h p xs refl has in let a = f.opens h in let m = moved h in omega arith);
      ended = f.ended ∙ sym (skip_doned at p xs);
      inside = mark_in c was_skipped p xs f.inside;
    }

-- a path that is left out has answers enough before it
pub skip_covered : (c : Choices) (at : Outputs) (l : Limit) (whole : List NominalOut) (ps : List (List ℕ)) (ends : List EndedPath) (xs : List Item) (p : List ℕ) (n : ℕ) → IsFrontier c at whole ps ends xs → 0 < weigh (is_it p) ps → l ≡ limits.First n
    → n ≤ found_before p ends → AreCovered l at 0 xs → AreCovered l at 0 (mark was_skipped p xs)
skip_covered c at l whole ps ends xs p n f open_yet is enough covered =
    let has : Has p xs = (let a = f.opens (is_it p) in omega arith) in
    covered_skipped l at 0 p n xs is f.sorted has (let z = ap (found_before p) f.ended in omega arith) covered

pub frontier_moved : (c : Choices) (at : Outputs) (whole : List NominalOut) (ps qs : List (List ℕ)) (ends : List EndedPath) (xs : List Item) → IsFrontier c at whole ps ends xs → ((h : List ℕ → ℕ) → weigh h qs ≡ weigh h ps) → IsFrontier c at whole qs ends xs
frontier_moved c at whole ps qs ends xs f moved = record { sorted = f.sorted; outs = f.outs; opens = λ h. f.opens h ∙ sym (moved h); ended = f.ended; inside = f.inside }

merges : (c : Choices) (at : Outputs) (l : Limit) (whole : List NominalOut) (ps : List (List ℕ)) (b : Bool) (ends : List EndedPath) (xs : List Item) (es : List TreeEntry) → IsTree c at → IsFrontier c at whole ps ends xs → AreCovered l at 0 xs → legal_from ps b es ≡ true
    → are_reached ends es ≡ true → AreTrue c at es → AreWithin l es → open_from ps es ≡ [] → part l (all_outs (ends_from ends es)) ≡ part l whole
merges c at l whole ps b ends xs [] tree f covered legal reached true_of within closed =
    let none_open : undone (λ _. 1) xs ≡ 0 = f.opens (λ _. 1) ∙ ap (weigh (λ _. 1)) closed in
    ap (λ (e : List EndedPath). part l (all_outs e)) f.ended ∙ ap (part l) (all_doned at xs none_open) ∙ wanted_left l at xs covered ∙ ap (part l) f.outs
merges c at l whole ps b ends xs (split s p ks ∷ es) tree f covered legal reached true_of within closed =
    let o = and_parts (is_open p ps) (legal_from (without p ps ++ kids_of p ks) (b || false) es) legal in
    let g = frontier_split c at whole ps (without p ps ++ kids_of p ks) ends xs p ks tree f (weigh_open p ps o.0) true_of.0 (weigh_split p ks ps o.0) in
    merges c at l whole (without p ps ++ kids_of p ks) (b || false) ends (grow p ks xs) es tree g (covered_grow l at 0 p ks xs covered) o.1 reached true_of.1 within.1 closed
merges c at l whole ps b ends xs (done s p os ∷ es) tree f covered legal reached true_of within closed =
    let o = and_parts (is_open p ps) (legal_from (without p ps) (b || false) es) legal in
    let g = frontier_done c at whole ps (without p ps) ends xs p f (weigh_open p ps o.0) (λ h. weigh_without h p ps o.0) in
    let g' = subst (λ (o : List NominalOut). IsFrontier c at whole (without p ps) (insert p o ends) (mark has_ended p xs)) (sym true_of.0) g in
    merges c at l whole (without p ps) (b || false) (insert p os ends) (mark has_ended p xs) es tree g' (covered_ended l at 0 p xs covered) o.1 reached true_of.1 within.1 closed
merges c at l whole ps b ends xs (skip s p n ∷ es) tree f covered legal reached true_of within closed =
    let o = and_parts (is_open p ps) (legal_from (without p ps) (b || false) es) legal in
    let e = and_parts (nat_le n (found_before p ends)) (are_reached ends es) reached in
    let enough = leb-true n (found_before p ends) e.0 in
    let g = frontier_skip c at whole ps (without p ps) ends xs p f (weigh_open p ps o.0) (λ h. weigh_without h p ps o.0) in
    let k = skip_covered c at l whole ps ends xs p n f (weigh_open p ps o.0) within.0 enough covered in
    merges c at l whole (without p ps) (b || false) ends (mark was_skipped p xs) es tree g k o.1 e.1 true_of.1 within.1 closed
merges c at l whole ps b ends xs (stop s ∷ es) tree f covered legal reached true_of within closed =
    let o = and_parts (not b) (legal_from ps (b || true) es) legal in
    merges c at l whole ps (b || true) ends xs es tree f covered o.1 reached true_of.1 within.1 closed

-- the merged outputs of a legal and true history with nothing open are those below the empty path, as far as they are wanted
pub merged_whole : (c : Choices) (at : Outputs) (l : Limit) (history : List TreeEntry) → IsTree c at → is_legal history ≡ true → AreTrue c at history → AreWithin l history → open_of history ≡ [] → part l (merged history) ≡ part l (at [])
merged_whole c at l history tree legal true_of within closed =
    let parts = legal_parts history legal in
    merges c at l (at []) ([] ∷ []) false [] (([], still_open) ∷ []) history tree
    record {
      sorted = (tt, tt);
      outs = append-nil (at []);
      opens = λ h. refl;
      ended = refl;
      inside = (tt, tt);
    } (tt, tt) parts.0 parts.1 true_of within closed
