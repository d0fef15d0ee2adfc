-- The first element that passes a test, and how many do.
use Rattle.std.proofs.Common.{◌≡◌, ◌+◌, ◌++◌, ◌||◌, ◌&&◌, refl, sym, subst, Bool, true, false, true≢false, cond, List, [], ◌∷◌, Some, None, map}
use Rattle.std.specs.Prelude.{count_by, find, option_map}
use Rattle.std.proofs.lemmas.List.Sums.{sum_by-cons, sum_by_push}
use Rattle.std.specs.List.{list_all}

-- the first element that passes does pass
pub find_holds : {X : Type 0} (p : X → Bool) (xs : List X) (x : X) → find p xs ≡ Some x → p x ≡ true
find_holds p [] x e = absurd (let k : None ≡ Some x = e in cc)
find_holds p (y ∷ ys) x e = go (p y) refl e (find_holds p ys x)
  where
    go : (b : Bool) → p y ≡ b → cond b (Some y) (find p ys) ≡ Some x → (find p ys ≡ Some x → p x ≡ true) → p x ≡ true
    go true is k later = let same : y ≡ x = cc in subst (λ z. p z ≡ true) same is
    go false is k later = later k

-- what all elements pass, the first that passes another test passes
pub all_found : {X : Type 0} (p q : X → Bool) (xs : List X) (x : X) → list_all q xs ≡ true → find p xs ≡ Some x → q x ≡ true
all_found p q [] x all e = absurd (let k : None ≡ Some x = e in cc)
all_found p q (y ∷ ys) x all e = go (p y) (q y) refl refl e all (all_found p q ys x)
  where
    go : (b d : Bool) → p y ≡ b → q y ≡ d → cond b (Some y) (find p ys) ≡ Some x → (d && list_all q ys) ≡ true → (list_all q ys ≡ true → find p ys ≡ Some x → q x ≡ true) → q x ≡ true
    go b false is holds k h later = absurd (true≢false (sym h))
    go true true is holds k h later = let same : y ≡ x = cc in subst (λ z. q z ≡ true) same holds
    go false true is holds k h later = later h k

-- two tests that agree find the same
pub find_same : {X : Type 0} (p q : X → Bool) → ((x : X) → p x ≡ q x) → (xs : List X) → find p xs ≡ find q xs
find_same p q same [] = refl
find_same p q same (x ∷ xs) = rw (same x, find_same p q same xs) refl

-- a test on the images of a list
pub find_image : {X Y : Type 0} (p : Y → Bool) (q : X → Bool) (f : X → Y) → ((x : X) → p (f x) ≡ q x) → (xs : List X) → find p (map f xs) ≡ option_map f (find q xs)
find_image p q f same [] = refl
find_image p q f same (x ∷ xs) = rw (same x) (go (q x) (find_image p q f same xs))
  where
    go : (b : Bool) → find p (map f xs) ≡ option_map f (find q xs) → cond b (Some (f x)) (find p (map f xs)) ≡ option_map f (cond b (Some x) (find q xs))
    go true e = refl
    go false e = e

pub count_push : {X : Type 0} (p : X → Bool) (xs : List X) (x : X) → count_by p (xs ++ x ∷ []) ≡ count_by p xs + cond (p x) 1 0
count_push p xs x = sum_by_push (λ y. cond (p y) 1 0) xs x

pub count_first : {X : Type 0} (p : X → Bool) (x : X) (xs : List X) → count_by p (x ∷ xs) ≡ cond (p x) 1 0 + count_by p xs
count_first p x xs = sum_by-cons (λ y. cond (p y) 1 0) x xs

pub or_false : (b : Bool) → (b || false) ≡ b
or_false true = refl
or_false false = refl
