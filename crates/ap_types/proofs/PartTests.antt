-- Tests of trees whose parts are looked at one after the other, where those that are left stand on a stack.
use Rattle.std.proofs.Common.{◌≡◌, ◌<◌, ◌+◌, ◌∙◌, ℕ, Bool, true, false, ◌&&◌, List, [], ◌∷◌, ◌++◌, Bor, refl, sym, ap, arith}
use Rattle.std.proofs.lemmas.List.{map-append}
use Rattle.ap_types.specs.Loading.{lent}

-- all of them pass
abbrev pub all_pass : {A : Type 0} → (A → Bool) → List A → Bool
all_pass p [] = true
all_pass p (u ∷ us) = p u && all_pass p us

pass_append : {A : Type 0} (p : A → Bool) (us vs : List A) → all_pass p (us ++ vs) ≡ (all_pass p us && all_pass p vs)
pass_append p [] vs = refl
pass_append p (u ∷ us) vs = elim (p u) as (λ b. (b && all_pass p (us ++ vs)) ≡ ((b && all_pass p us) && all_pass p vs)) [ true ↦ pass_append p us vs | false ↦ refl ]

pub own_only : (b : Bool) → b ≡ (b && true)
own_only true = refl
own_only false = refl

pub both_parts : {A : Type 0} (p : A → Bool) (t u : A) → (p t && p u) ≡ all_pass p (t ∷ u ∷ [])
both_parts p t u = elim (p t) as (λ b. (b && p u) ≡ (b && (p u && true))) [ true ↦ own_only (p u) | false ↦ refl ]

pub one_part : {A : Type 0} (p : A → Bool) (t : A) → p t ≡ all_pass p (t ∷ [])
one_part p t = own_only (p t)

-- one passes where it does by itself and its parts do
abbrev pub IsTest : {A : Type 0} → (A → List A) → (A → Bool) → (A → Bool) → Type 0
IsTest {A} parts p own = (t : A) → p t ≡ (own t && all_pass p (parts t))

and_false : (b : Bool) → (b && false) ≡ false
and_false true = refl
and_false false = refl

-- the part in hand, and those that wait
abbrev pub all_left : {A B : Type 0} → (B → A) → (A → Bool) → List (Bor B) → A → Bool
all_left view p ws t = all_pass p (lent view ws) && p t

pub last_lent : {A B : Type 0} (view : B → A) (rs all : List (Bor B)) (r : Bor B) → all ≡ rs ++ r ∷ [] → lent view all ≡ lent view rs ++ view r.now ∷ []
last_lent view rs all r e = ap (lent view) e ∙ map-append (λ s. view s.now) rs (r ∷ [])

module _ {A B : Type 0} (view : B → A) (parts : A → List A) (p own : A → Bool) (test : IsTest parts p own) (ws : List (Bor B)) (t : A) where
  -- the part in hand fails by itself
  pub fails_here : own t ≡ false → all_left view p ws t ≡ false
  fails_here f =
      let here : p t ≡ false = test t ∙ ap (λ b. b && all_pass p (parts t)) f in
      ap (λ b. all_pass p (lent view ws) && b) here ∙ and_false (all_pass p (lent view ws))

  -- its parts wait
  waits_on : (next : List (Bor B)) → lent view next ≡ lent view ws ++ parts t → own t ≡ true → all_pass p (lent view next) ≡ all_left view p ws t
  waits_on next f o =
      let here : p t ≡ all_pass p (parts t) = test t ∙ ap (λ b. b && all_pass p (parts t)) o in
      ap (all_pass p) f ∙ pass_append p (lent view ws) (parts t) ∙ ap (λ b. all_pass p (lent view ws) && b) (sym here)

  -- none waits any more
  pub ends_here : (next : List (Bor B)) → next ≡ [] → lent view next ≡ lent view ws ++ parts t → own t ≡ true → true ≡ all_left view p ws t
  ends_here next e f o = sym (ap (λ rs. all_pass p (lent view rs)) e) ∙ waits_on next f o

  -- the last of those that wait comes next
  pub goes_on : (next rs : List (Bor B)) (r : Bor B) → next ≡ rs ++ r ∷ [] → lent view next ≡ lent view ws ++ parts t → own t ≡ true → all_left view p rs (view r.now) ≡ all_left view p ws t
  goes_on next rs r e f o =
      ap (λ b. all_pass p (lent view rs) && b) (own_only (p (view r.now))) ∙ sym (pass_append p (lent view rs) (view r.now ∷ []))
      ∙ sym (ap (all_pass p) (last_lent view rs next r e)) ∙ waits_on next f o

-- how large trees are together
abbrev pub sum_sizes : {A : Type 0} → (A → ℕ) → List A → ℕ
sum_sizes size [] = 0
sum_sizes size (u ∷ us) = size u + sum_sizes size us

pub sum_append : {A : Type 0} (size : A → ℕ) (us vs : List A) → sum_sizes size (us ++ vs) ≡ sum_sizes size us + sum_sizes size vs
sum_append size [] vs = omega arith
sum_append size (u ∷ us) vs = let h = sum_append size us vs in omega arith

-- less is left
pub fewer_left : {A B : Type 0} (view : B → A) (size : A → ℕ) (ps : List A) (ws next rs : List (Bor B)) (t : A) (r : Bor B) → sum_sizes size ps < size t → next ≡ rs ++ r ∷ [] → lent view next ≡ lent view ws ++ ps
    → sum_sizes size (lent view rs) + size (view r.now) < sum_sizes size (lent view ws) + size t
fewer_left view size ps ws next rs t r l e f =
    let a : sum_sizes size (lent view next) ≡ sum_sizes size (lent view rs ++ view r.now ∷ []) = ap (sum_sizes size) (last_lent view rs next r e) in
    let b = sum_append size (lent view rs) (view r.now ∷ []) in
    let c : sum_sizes size (lent view next) ≡ sum_sizes size (lent view ws ++ ps) = ap (sum_sizes size) f in
    let d = sum_append size (lent view ws) ps in
    omega arith
