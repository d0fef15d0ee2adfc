-- Ends that are put into a map by path and number stand as the definition says.
use Rattle.std.proofs.Common.{◌≡◌, ℕ, suc, ◌<◌, ◌≤◌, if◌then◌else◌, List, [], ◌∷◌, length, refl, sym, ap, subst, ◌∙◌, arith}
use Rattle.std.specs.Prelude.{Vec}
use Rattle.std.specs.Ordering.{nat_cmp, ordering_then, is_lt, match_ordering}
use Rattle.std.specs.Cmp.Lexicographic.{slice_cmp}
use Rattle.std.specs.declared.cmp.Ordering.{Ordering}
use Rattle.std.specs.declared.cmp.Ordering.TheVariants.{Less, Equal, Greater}
use Rattle.std.specs.BTreeMap.{insert_entry}
use Rattle.std.proofs.lemmas.Bool.Decides.{nat_tests}
use Rattle.ap_paths.specs.Merging.{insert}
use Rattle.ap_paths.specs.Ends.{ends_in, AreNumbersBelow}

nat_greater : (x y : ℕ) → y < x → nat_cmp x y ≡ Greater
nat_greater x y l = grind (arith, nat_tests)

-- the order of paths with numbers
abbrev pub numbered_cmp : {Z : Type 0} → Vec ℕ Z × ℕ → Vec ℕ Z × ℕ → Ordering
numbered_cmp x y = ordering_then (slice_cmp nat_cmp x.0.items y.0.items) (nat_cmp x.1 y.1)

pub inserted : {Z X : Type 0} (es : List ((Vec ℕ Z × ℕ) × X)) (k : Vec ℕ Z × ℕ) (v : X) → AreNumbersBelow k.1 es → ends_in (insert_entry numbered_cmp es k v) ≡ insert k.0.items v (ends_in es)
inserted [] k v h = refl
inserted {Z} {X} (e ∷ es) k v h =
    let later = inserted es k v h.1 in
    let above = nat_greater k.1 e.0.1 h.0 in
    let there : List (List ℕ × X) = (k.0.items, v) ∷ (e.0.0.items, e.1) ∷ ends_in es in
    let behind : List (List ℕ × X) = (e.0.0.items, e.1) ∷ insert k.0.items v (ends_in es) in
    let step : (o : Ordering) → ends_in (match_ordering (ordering_then o (nat_cmp k.1 e.0.1)) ((k, v) ∷ e ∷ es) ((e.0, v) ∷ es) (e ∷ insert_entry numbered_cmp es k v)) ≡ (if is_lt o then there else behind) = λ o.
    elim o as (λ o. ends_in (match_ordering (ordering_then o (nat_cmp k.1 e.0.1)) ((k, v) ∷ e ∷ es) ((e.0, v) ∷ es) (e ∷ insert_entry numbered_cmp es k v)) ≡ (if is_lt o then there else behind))
    [ Less ↦ refl | Equal ↦ rw above (ap (λ l. (e.0.0.items, e.1) ∷ l) later) | Greater ↦ ap (λ l. (e.0.0.items, e.1) ∷ l) later ] in
    step (slice_cmp nat_cmp k.0.items e.0.0.items)

length_insert : {Z X : Type 0} (es : List ((Vec ℕ Z × ℕ) × X)) (k : Vec ℕ Z × ℕ) (v : X) → AreNumbersBelow k.1 es → length (insert_entry numbered_cmp es k v) ≡ suc (length es)
length_insert [] k v h = refl
length_insert {Z} {X} (e ∷ es) k v h =
    let later = length_insert es k v h.1 in
    let above = nat_greater k.1 e.0.1 h.0 in
    elim (slice_cmp nat_cmp k.0.items e.0.0.items) as (λ o. length (match_ordering (ordering_then o (nat_cmp k.1 e.0.1)) ((k, v) ∷ e ∷ es) ((e.0, v) ∷ es) (e ∷ insert_entry numbered_cmp es k v)) ≡ suc (suc (length es)))
    [ Less ↦ refl | Equal ↦ rw above (ap suc later) | Greater ↦ ap suc later ]

below_more : {Z X : Type 0} (m n : ℕ) (es : List ((Vec ℕ Z × ℕ) × X)) → m ≤ n → AreNumbersBelow m es → AreNumbersBelow n es
below_more m n [] l h = tt
below_more m n (e ∷ es) l h = ((let z = h.0 in omega arith), below_more m n es l h.1)

below_insert : {Z X : Type 0} (es : List ((Vec ℕ Z × ℕ) × X)) (k : Vec ℕ Z × ℕ) (v : X) → AreNumbersBelow k.1 es → AreNumbersBelow (suc k.1) (insert_entry numbered_cmp es k v)
below_insert [] k v h = (omega arith, tt)
below_insert {Z} {X} (e ∷ es) k v h =
    let later = below_insert es k v h.1 in
    let above = nat_greater k.1 e.0.1 h.0 in
    let first : e.0.1 < suc k.1 = (let z = h.0 in omega arith) in
    let rest : AreNumbersBelow (suc k.1) es = below_more k.1 (suc k.1) es (omega arith) h.1 in
    elim (slice_cmp nat_cmp k.0.items e.0.0.items) as (λ o. AreNumbersBelow (suc k.1) (match_ordering (ordering_then o (nat_cmp k.1 e.0.1)) ((k, v) ∷ e ∷ es) ((e.0, v) ∷ es) (e ∷ insert_entry numbered_cmp es k v)))
    [ Less ↦ (omega arith, (first, rest)) | Equal ↦ rw above (first, later) | Greater ↦ (first, later) ]

pub numbered : {Z X : Type 0} (es : List ((Vec ℕ Z × ℕ) × X)) (k : Vec ℕ Z × ℕ) (v : X) → k.1 ≡ length es → AreNumbersBelow k.1 es → AreNumbersBelow (length (insert_entry numbered_cmp es k v)) (insert_entry numbered_cmp es k v)
numbered es k v e h =
    let m : suc k.1 ≡ length (insert_entry numbered_cmp es k v) = ap suc e ∙ sym (length_insert es k v h) in
    subst (λ (n : ℕ). AreNumbersBelow n (insert_entry numbered_cmp es k v)) m (below_insert es k v h)
