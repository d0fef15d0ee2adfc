-- Facts that follow from each other.
use Rattle.std.proofs.Common.{subst, ◌≡◌, Bool, true, ◌&&◌, sym, ◌↔◌}
use Rattle.ap_theory.proofs.BooleanLemmas.{and_both, and_left, and_right, same_test}

pub iff_itself : {A : Type 0} → A ↔ A
iff_itself = ((λ a. a), (λ a. a))

pub iff_sym : {A B : Type 0} → A ↔ B → B ↔ A
iff_sym h = (h.1, h.0)

pub iff_trans : {A B C : Type 0} → A ↔ B → B ↔ C → A ↔ C
iff_trans h k = ((λ a. k.0 (h.0 a)), (λ c. h.1 (k.1 c)))

pub iff_both : {A B C D : Type 0} → A ↔ B → C ↔ D → (A × C) ↔ (B × D)
iff_both h k = ((λ p. (h.0 p.0, k.0 p.1)), (λ p. (h.1 p.0, k.1 p.1)))

-- the second of two facts needs only to follow where the first holds
pub iff_when : {A B C : Type 0} → (A → B ↔ C) → (A × B) ↔ (A × C)
iff_when h = ((λ p. (p.0, (h p.0).0 p.1)), (λ p. (p.0, (h p.0).1 p.1)))

pub iff_nothing : {A : Type 0} → (A → ⊥) → A ↔ ⊥
iff_nothing h = (h, (λ e. absurd e))

pub iff_same : {A : Type 0} (P : A → Type 0) {a b : A} → a ≡ b → P a ↔ P b
iff_same P e = (subst P e, subst P (sym e))

-- tests that are true of the same are equal
pub same_if : {x y : Bool} → (x ≡ true ↔ y ≡ true) → x ≡ y
same_if {x} {y} h = same_test x y h.0 h.1

pub and_iff : (x y : Bool) → (x && y) ≡ true ↔ ((x ≡ true) × (y ≡ true))
and_iff x y = ((λ h. (and_left x y h, and_right x y h)), (λ h. and_both x y h.0 h.1))
