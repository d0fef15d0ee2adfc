-- What stands in tables, and what is marked there.
use Rattle.std.proofs.Common.{◌≡◌, ◌<◌, ◌≤◌, ℕ, zero, suc, Bool, true, false, true≢false, List, [], ◌∷◌, ◌++◌, length, map, take, get_or, refl, sym, ap, ◌∙◌, arith}
use Rattle.std.specs.Prelude.{◌==◌, slice_set, if◌then◌else◌, None, is_some}
use Rattle.std.proofs.lemmas.Bool.Decides.{nat_tests}
use Rattle.ap_defs.specs.Types.{NominalKind}
use Rattle.ap_store.specs.Marks.{is_ground_value, ground_in}
use Rattle.ap_store.specs.Slots.{bound_in, slot_kind, value_term}
use Rattle.ap_store.specs.declared.slots.Slot.{Slot}
use Rattle.ap_store.specs.declared.slots.Value.{Value}
use Rattle.ap_store.specs.declared.slots.Value.TheVariants.{Unbound, Plain, Ground, Moved}

-- What stands in tables.
pub bound_in_get : (ss : List Slot) (i : ℕ) (d : Slot) → i < length ss → bound_in ss i ≡ value_term (get_or ss i d).value
bound_in_get [] i d l = absurd (omega arith)
bound_in_get (s ∷ ss) zero d l = refl
bound_in_get (s ∷ ss) (suc i) d l = bound_in_get ss i d (omega arith)

pub bound_in_beyond : (ss : List Slot) (i : ℕ) → length ss ≤ i → bound_in ss i ≡ None
bound_in_beyond [] i l = refl
bound_in_beyond (s ∷ ss) zero l = absurd (omega arith)
bound_in_beyond (s ∷ ss) (suc i) l = bound_in_beyond ss i (omega arith)

after_zero : (j : ℕ) → (suc j == 0) ≡ false
after_zero j = grind (arith, nat_tests)

before_suc : (i : ℕ) → (0 == suc i) ≡ false
before_suc i = grind (arith, nat_tests)

both_suc : (i j : ℕ) → (suc j == suc i) ≡ (j == i)
both_suc i j = grind (arith, nat_tests)

pub bound_in_set : (ss : List Slot) (i j : ℕ) (s : Slot) → i < length ss → bound_in (slice_set ss i s) j ≡ (if j == i then value_term s.value else bound_in ss j)
bound_in_set [] i j s l = absurd (omega arith)
bound_in_set (t ∷ ss) zero zero s l = refl
bound_in_set (t ∷ ss) zero (suc j) s l = sym (ap (λ (b : Bool). if b then value_term s.value else bound_in ss j) (after_zero j))
bound_in_set (t ∷ ss) (suc i) zero s l = sym (ap (λ (b : Bool). if b then value_term s.value else value_term t.value) (before_suc i))
bound_in_set (t ∷ ss) (suc i) (suc j) s l = bound_in_set ss i j s (omega arith) ∙ ap (λ (b : Bool). if b then value_term s.value else bound_in ss j) (sym (both_suc i j))

bound_in_append : (ss zs : List Slot) (i : ℕ) → ((j : ℕ) → bound_in zs j ≡ None) → bound_in (ss ++ zs) i ≡ bound_in ss i
bound_in_append [] zs i h = h i
bound_in_append (s ∷ ss) zs zero h = refl
bound_in_append (s ∷ ss) zs (suc i) h = bound_in_append ss zs i h

pub bound_in_take : (ss : List Slot) (n i : ℕ) → i < n → bound_in (take n ss) i ≡ bound_in ss i
bound_in_take [] zero i l = refl
bound_in_take [] (suc n) i l = refl
bound_in_take (s ∷ ss) zero i l = absurd (omega arith)
bound_in_take (s ∷ ss) (suc n) zero l = refl
bound_in_take (s ∷ ss) (suc n) (suc i) l = bound_in_take ss n i (omega arith)

pub kinds_set : (ss : List Slot) (i : ℕ) (s d : Slot) → i < length ss → slot_kind s ≡ slot_kind (get_or ss i d) → map slot_kind (slice_set ss i s) ≡ map slot_kind ss
kinds_set [] i s d l e = absurd (omega arith)
kinds_set (t ∷ ss) zero s d l e = ap (λ (k : NominalKind). k ∷ map slot_kind ss) e
kinds_set (t ∷ ss) (suc i) s d l e = ap (λ (ks : List NominalKind). slot_kind t ∷ ks) (kinds_set ss i s d (omega arith) e)

pub length_set : (ss : List Slot) (i : ℕ) (s : Slot) → length (slice_set ss i s) ≡ length ss
length_set [] zero s = refl
length_set [] (suc i) s = refl
length_set (t ∷ ss) zero s = refl
length_set (t ∷ ss) (suc i) s = ap suc (length_set ss i s)

-- one more slot
pub bound_in_more : (s : Slot) (ss us : List Slot) (i : ℕ) → us ≡ ss ++ s ∷ [] → value_term s.value ≡ None → bound_in us i ≡ bound_in ss i
bound_in_more s ss us i e z = ap (λ (vs : List Slot). bound_in vs i) e ∙ bound_in_append ss (s ∷ []) i none
  where
    none : (j : ℕ) → bound_in (s ∷ []) j ≡ None
    none zero = z
    none (suc j) = refl

-- Marks in tables.
pub ground_in_get : (ss : List Slot) (i : ℕ) (d : Slot) → i < length ss → ground_in ss i ≡ is_ground_value (get_or ss i d).value
ground_in_get [] i d l = absurd (omega arith)
ground_in_get (s ∷ ss) zero d l = refl
ground_in_get (s ∷ ss) (suc i) d l = ground_in_get ss i d (omega arith)

pub ground_in_beyond : (ss : List Slot) (i : ℕ) → length ss ≤ i → ground_in ss i ≡ false
ground_in_beyond [] i l = refl
ground_in_beyond (s ∷ ss) zero l = absurd (omega arith)
ground_in_beyond (s ∷ ss) (suc i) l = ground_in_beyond ss i (omega arith)

pub ground_in_set : (ss : List Slot) (i j : ℕ) (s : Slot) → i < length ss → ground_in (slice_set ss i s) j ≡ (if j == i then is_ground_value s.value else ground_in ss j)
ground_in_set [] i j s l = absurd (omega arith)
ground_in_set (t ∷ ss) zero zero s l = refl
ground_in_set (t ∷ ss) zero (suc j) s l = sym (ap (λ (b : Bool). if b then is_ground_value s.value else ground_in ss j) (after_zero j))
ground_in_set (t ∷ ss) (suc i) zero s l = sym (ap (λ (b : Bool). if b then is_ground_value s.value else is_ground_value t.value) (before_suc i))
ground_in_set (t ∷ ss) (suc i) (suc j) s l = ground_in_set ss i j s (omega arith) ∙ ap (λ (b : Bool). if b then is_ground_value s.value else ground_in ss j) (sym (both_suc i j))

-- one more slot that is not marked
pub ground_in_more : (s : Slot) (ss us : List Slot) (i : ℕ) → us ≡ ss ++ s ∷ [] → is_ground_value s.value ≡ false → ground_in us i ≡ ground_in ss i
ground_in_more s ss us i e z = ap (λ (vs : List Slot). ground_in vs i) e ∙ behind ss i
  where
    alone : (j : ℕ) → ground_in (s ∷ []) j ≡ false
    alone zero = z
    alone (suc j) = refl

    behind : (vs : List Slot) (j : ℕ) → ground_in (vs ++ s ∷ []) j ≡ ground_in vs j
    behind [] j = alone j
    behind (v ∷ vs) zero = refl
    behind (v ∷ vs) (suc j) = behind vs j

pub mark_in_take : (ss : List Slot) (n i : ℕ) → ground_in (take n ss) i ≡ true → ground_in ss i ≡ true
mark_in_take [] zero i h = h
mark_in_take [] (suc n) i h = h
mark_in_take (s ∷ ss) zero i h = absurd (true≢false (sym h))
mark_in_take (s ∷ ss) (suc n) zero h = h
mark_in_take (s ∷ ss) (suc n) (suc i) h = mark_in_take ss n i h

marked_is_some : (b : Value) → is_ground_value b ≡ true → is_some (value_term b) ≡ true
marked_is_some Unbound h = absurd (true≢false (sym h))
marked_is_some (Plain m t) h = refl
marked_is_some (Ground m t) h = refl
marked_is_some (Moved c) h = refl

pub marked_is_bound : (ss : List Slot) (i : ℕ) → ground_in ss i ≡ true → is_some (bound_in ss i) ≡ true
marked_is_bound [] i h = absurd (true≢false (sym h))
marked_is_bound (s ∷ ss) zero h = marked_is_some s.value h
marked_is_bound (s ∷ ss) (suc i) h = marked_is_bound ss i h
