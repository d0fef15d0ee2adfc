-- Clauses under their items and places: they are in order as they are kept.
use Rattle.std.proofs.Common.{◌≡◌, ℕ, ◌+◌, ◌<◌, ◌≤◌, nat_lt, Bool, true, false, cond, List, [], ◌∷◌, map, length, drop, get_or, refl, sym, ap, ap₂, subst, ◌∙◌, arith, add-one, drop-cons}
use Rattle.std.specs.Prelude.{if◌then◌else◌, nat_le, ◌==◌, ◌||◌}
use Rattle.std.proofs.lemmas.Bool.Decides.{nat_tests}
use Rattle.std.specs.Ordering.{match_ordering, ordering_then}
use Rattle.std.specs.BTreeMap.{insert_entry}
use Rattle.std.specs.declared.cmp.Ordering.TheVariants.{Less, Equal, Greater}
use Rattle.ap_text_commands.specs.Counts.{in_order_of_items, insert_count}
use Rattle.ap_text_commands.specs.Rows.{row_cmp}
use Rattle.ap_text_commands.specs.declared.counting.counts.ClauseCount.{ClauseCount}

-- a clause under its item and its place
abbrev pub Placed : Type 0
Placed = (ℕ × ℕ) × ClauseCount

-- under their own items, at places from n on
abbrev pub Keyed : ℕ → List Placed → Type 0
Keyed n [] = Unit {0}
Keyed n (e ∷ es) = (e.0.0 ≡ e.1.item) × (n ≤ e.0.1) × Keyed n es

abbrev pub kept : List Placed → List ClauseCount
kept = map (λ e. e.1)

chosen : {X : Type 0} (p e f s : Bool) (q : Bool) (x y z : X) → q ≡ true → s ≡ (p || e)
    → match_ordering (ordering_then (cond p Less (cond e Equal Greater)) (cond q Less (cond f Equal Greater))) x y z ≡ (if s then x else z)
chosen true e f s q x y z h k = rw k refl
chosen false true f s q x y z h k = rw (h, k) refl
chosen false false f s q x y z h k = rw k refl

ordered : {X : Type 0} (i n k l : ℕ) (x y z : X) → n < l → match_ordering (row_cmp (i, n) (k, l)) x y z ≡ (if nat_le i k then x else z)
ordered i n k l x y z h = chosen (nat_lt i k) (i == k) (n == l) (nat_le i k) (nat_lt n l) x y z (grind (arith, nat_tests, h)) (grind (arith, nat_tests))

inserted_if : (b : Bool) (c : ClauseCount) (k : ℕ × ℕ) (e : Placed) (es ds : List Placed) → nat_le c.item e.1.item ≡ b → kept ds ≡ insert_count c (kept es)
    → kept (if b then ((k, c) ∷ e ∷ es) else (e ∷ ds)) ≡ insert_count c (kept (e ∷ es))
inserted_if true c k e es ds h i = rw h refl
inserted_if false c k e es ds h i = rw (h, i) refl

kept_in_order : (n m : ℕ) (c : ClauseCount) (es : List Placed) → n < m → Keyed m es → kept (insert_entry row_cmp es (c.item, n) c) ≡ insert_count c (kept es)
kept_in_order n m c [] h keyed = refl
kept_in_order n m c (e ∷ es) h keyed =
    ap kept (ordered c.item n e.0.0 e.0.1 (((c.item, n), c) ∷ e ∷ es) ((e.0, c) ∷ es) (e ∷ insert_entry row_cmp es (c.item, n) c) (omega (arith, h, keyed.1)))
    ∙ inserted_if (nat_le c.item e.0.0) c (c.item, n) e es (insert_entry row_cmp es (c.item, n) c) (ap (nat_le c.item) (sym keyed.0)) (kept_in_order n m c es h keyed.2)

keyed_from : (n m : ℕ) (es : List Placed) → n ≤ m → Keyed m es → Keyed n es
keyed_from n m [] h k = tt
keyed_from n m (e ∷ es) h k = (k.0, omega (arith, h, k.1), keyed_from n m es h k.2)

keyed_if : (n : ℕ) (b : Bool) (d e : Placed) (es ds : List Placed) → Keyed n (d ∷ e ∷ es) → Keyed n ds → Keyed n (if b then (d ∷ e ∷ es) else (e ∷ ds))
keyed_if n true d e es ds h k = h
keyed_if n false d e es ds h k = (h.2.0, h.2.1, k)

kept_keyed : (n m : ℕ) (c : ClauseCount) (es : List Placed) → n < m → Keyed m es → Keyed n (insert_entry row_cmp es (c.item, n) c)
kept_keyed n m c [] h keyed = (refl, omega arith, tt)
kept_keyed n m c (e ∷ es) h keyed =
    subst (Keyed n) (sym (ordered c.item n e.0.0 e.0.1 (((c.item, n), c) ∷ e ∷ es) ((e.0, c) ∷ es) (e ∷ insert_entry row_cmp es (c.item, n) c) (omega (arith, h, keyed.1))))
    (keyed_if n (nat_le c.item e.0.0) ((c.item, n), c) e es (insert_entry row_cmp es (c.item, n) c)
    (refl, omega arith, keyed_from n m (e ∷ es) (omega (arith, h)) keyed) (kept_keyed n m c es h keyed.2))

-- one clause more, from the end on
pub kept_next : (cs : List ClauseCount) (c : ClauseCount) (left next : ℕ) (es fs : List Placed) → next + 1 ≡ left → left ≤ length cs → c ≡ get_or cs next c
    → kept es ≡ in_order_of_items (drop left cs) → Keyed left es → fs ≡ insert_entry row_cmp es (c.item, next) c
    → (kept fs ≡ in_order_of_items (drop next cs)) × Keyed next fs
kept_next cs c left next es fs s h e k keyed f =
    let less : next < left = omega (arith, s) in
    let within : next < length cs = omega (arith, s, h) in
    let front : drop next cs ≡ c ∷ drop left cs = drop-cons cs next c within ∙ ap₂ (λ (x : ClauseCount) n. x ∷ drop n cs) (sym e) (sym (add-one next) ∙ s) in (
      ap kept f ∙ kept_in_order next left c es less keyed ∙ ap (insert_count c) k ∙ ap in_order_of_items (sym front),
      subst (Keyed next) (sym f) (kept_keyed next left c es less keyed),
    )
