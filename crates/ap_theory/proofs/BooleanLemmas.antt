-- Laws of tests.
use Rattle.std.proofs.Common.{◌≡◌, ◌⊎◌, Bool, true, false, ◌&&◌, ◌||◌, refl, sym, ap, ◌∙◌, inl, inr, true≢false}

-- two tests that are true of the same are equal
pub same_test : (x y : Bool) → (x ≡ true → y ≡ true) → (y ≡ true → x ≡ true) → x ≡ y
same_test true true f g = refl
same_test false false f g = refl
same_test true false f g = sym (f refl)
same_test false true f g = g refl

pub and_left : (x y : Bool) → (x && y) ≡ true → x ≡ true
and_left true y h = refl
and_left false y h = h

pub and_right : (x y : Bool) → (x && y) ≡ true → y ≡ true
and_right true y h = h
and_right false y h = absurd (true≢false (sym h))

pub and_both : (x y : Bool) → x ≡ true → y ≡ true → (x && y) ≡ true
and_both x y h k = rw (h, k) refl

pub or_right : (x y : Bool) → x ≡ false → (x || y) ≡ true → y ≡ true
or_right x y e h = rw e at h

pub and_false : (x : Bool) → (x && false) ≡ false
and_false true = refl
and_false false = refl

pub or_cases : (x y : Bool) → (x || y) ≡ true → (x ≡ true) ⊎ (y ≡ true)
or_cases true y h = inl refl
or_cases false y h = inr h

pub or_false : (x y : Bool) → (x || y) ≡ false → (x ≡ false) × (y ≡ false)
or_false true y h = cc
or_false false y h = (refl, h)

pub false_if_not : (x : Bool) → (x ≡ true → ⊥) → x ≡ false
false_if_not true h = absurd (h refl)
false_if_not false h = refl

pub or_swap : (a b c : Bool) → (a || (b || c)) ≡ (b || (a || c))
or_swap true true c = refl
or_swap true false c = refl
or_swap false b c = refl

pub or_twice : (a b : Bool) → (a || b) ≡ (a || (a || b))
or_twice true b = refl
or_twice false b = refl

pub or_and_distribute : (x y z : Bool) → (x ≡ true → z ≡ true) → (x || (y && z)) ≡ ((x || y) && z)
or_and_distribute true y z h = sym (h refl)
or_and_distribute false y z h = refl

pub or_and_absorb : (x y z : Bool) → (x ≡ true → z ≡ false) → (y && z) ≡ ((x || y) && z)
or_and_absorb true y z h = ap (λ v. y && v) (h refl) ∙ and_false y ∙ sym (h refl)
or_and_absorb false y z h = refl

pub or_if_left : (x y : Bool) → x ≡ true → (x || y) ≡ true
or_if_left x y h = ap (λ v. v || y) h

pub or_if_right : (x y : Bool) → y ≡ true → (x || y) ≡ true
or_if_right true y h = refl
or_if_right false y h = h

pub or_assoc : (x y z : Bool) → ((x || y) || z) ≡ (x || (y || z))
or_assoc true y z = refl
or_assoc false y z = refl

pub or_nothing : (x : Bool) → (x || false) ≡ x
or_nothing true = refl
or_nothing false = refl
