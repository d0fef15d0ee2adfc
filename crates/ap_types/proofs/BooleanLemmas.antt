-- Laws of tests.
use Rattle.std.proofs.Common.{◌≡◌, ◌⊎◌, Bool, true, false, ◌&&◌, ◌||◌, refl, inl, inr}

pub and_left : (x y : Bool) → (x && y) ≡ true → x ≡ true
and_left true y h = refl
and_left false y h = h

pub and_right : (x y : Bool) → (x && y) ≡ true → y ≡ true
and_right true y h = h
and_right false y h = cc

pub and_both : (x y : Bool) → x ≡ true → y ≡ true → (x && y) ≡ true
and_both true y h k = k
and_both false y h k = h

pub or_cases : (x y : Bool) → (x || y) ≡ true → (x ≡ true) ⊎ (y ≡ true)
or_cases true y h = inl refl
or_cases false y h = inr h

pub or_if_left : (x y : Bool) → x ≡ true → (x || y) ≡ true
or_if_left true y h = refl
or_if_left false y h = cc

pub or_if_right : (x y : Bool) → y ≡ true → (x || y) ≡ true
or_if_right true y h = refl
or_if_right false y h = h

pub or_grows : (x y v w : Bool) → (x ≡ true → v ≡ true) → (y ≡ true → w ≡ true) → (x || y) ≡ true → (v || w) ≡ true
or_grows x y v w f g h = elim (or_cases x y h) [ inl e ↦ or_if_left v w (f e) | inr e ↦ or_if_right v w (g e) ]

pub and_grows : (x y v w : Bool) → (x ≡ true → v ≡ true) → (y ≡ true → w ≡ true) → (x && y) ≡ true → (v && w) ≡ true
and_grows x y v w f g h = and_both v w (f (and_left x y h)) (g (and_right x y h))
