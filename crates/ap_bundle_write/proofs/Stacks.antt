-- What is left to write: the parts on a stack, of which the last is written first. And steps of loops that write.
use Rattle.std.proofs.Common.{◌≡◌, ℕ, ◌+◌, ◌<◌, List, [], ◌∷◌, ◌++◌, length, drop, ap, sym, ◌∙◌, append_assoc, arith, length-append, Bor}
use Rattle.std.proofs.lemmas.List.{append-nil, map-append}
use Rattle.std.specs.List.{flat_map}
pub use Rattle.ap_shared.specs.FirstNodes.{seen}

module _ {A B : Type 0} where
  -- the texts of the parts, from the last
  abbrev pub later : (A → List B) → List A → List B
  later f [] = []
  later f (x ∷ xs) = later f xs ++ f x

  pub later_last : (f : A → List B) (xs : List A) (y : A) → later f (xs ++ y ∷ []) ≡ f y ++ later f xs
  later_last f [] y = sym (append-nil (f y))
  later_last f (x ∷ xs) y = ap (λ z. z ++ f x) (later_last f xs y) ∙ append_assoc (f y) (later f xs) (f x)

  -- parts on top of others
  pub later_append : (f : A → List B) (xs ys : List A) → later f (xs ++ ys) ≡ later f ys ++ later f xs
  later_append f [] ys = sym (append-nil (later f ys))
  later_append f (x ∷ xs) ys = ap (λ z. z ++ f x) (later_append f xs ys) ∙ append_assoc (later f ys) (later f xs) (f x)

-- a step of a loop that writes one after another
pub written_on : {A B : Type 0} (f : A → List B) (xs : List A) (x : A) (i : ℕ) (out mid : List B) (all : List B) → i < length xs
    → drop i xs ≡ x ∷ drop (i + 1) xs → mid ≡ out ++ f x → out ++ flat_map f (drop i xs) ≡ all → mid ++ flat_map f (drop (i + 1) xs) ≡ all
written_on f xs x i out mid all h cons wrote before =
    ap (λ z. z ++ flat_map f (drop (i + 1) xs)) wrote ∙ append_assoc out (f x) (flat_map f (drop (i + 1) xs)) ∙ ap (λ z. out ++ flat_map f z) (sym cons) ∙ before

module _ {A N B : Type 0} where
  -- one part on top of a stack
  pub later_one : (f : N → List B) (view : A → N) (qs ps : List (Bor A)) (r : Bor A) → qs ≡ ps ++ r ∷ [] → later f (seen view qs) ≡ f (view r.now) ++ later f (seen view ps)
  later_one f view qs ps r e =
      ap (λ z. later f (seen view z)) e ∙ ap (later f) (map-append (λ (s : Bor A). view s.now) ps (r ∷ [])) ∙ later_last f (seen view ps) (view r.now)

  pub later_two : (f : N → List B) (view : A → N) (qs ms ps : List (Bor A)) (r s : Bor A) → ms ≡ ps ++ r ∷ [] → qs ≡ ms ++ s ∷ [] → later f (seen view qs) ≡ (f (view s.now) ++ f (view r.now)) ++ later f (seen view ps)
  later_two f view qs ms ps r s e d =
      later_one f view qs ms s d ∙ ap (λ z. f (view s.now) ++ z) (later_one f view ms ps r e) ∙ sym (append_assoc (f (view s.now)) (f (view r.now)) (later f (seen view ps)))

  -- what is written of the part on top, and the parts that it leaves on the stack
  pub kept_all : (f : N → List B) (view : A → N) (rs ps qs : List (Bor A)) (r : Bor A) (out more head parts all : List B) → rs ≡ ps ++ r ∷ [] → more ≡ out ++ head
      → later f (seen view qs) ≡ parts ++ later f (seen view ps) → f (view r.now) ≡ head ++ parts → out ++ later f (seen view rs) ≡ all → more ++ later f (seen view qs) ≡ all
  kept_all f view rs ps qs r out more head parts all top wrote left is before =
      ap (λ z. z ++ later f (seen view qs)) wrote ∙ ap (λ z. (out ++ head) ++ z) left ∙ append_assoc out head (parts ++ later f (seen view ps))
      ∙ ap (λ z. out ++ z) (sym (append_assoc head parts (later f (seen view ps))) ∙ ap (λ z. z ++ later f (seen view ps)) (sym is) ∙ sym (later_one f view rs ps r top)) ∙ before

  pub less_left : (f : N → List B) (view : A → N) (rs ps qs : List (Bor A)) (r : Bor A) (head parts : List B) → rs ≡ ps ++ r ∷ []
      → later f (seen view qs) ≡ parts ++ later f (seen view ps) → f (view r.now) ≡ head ++ parts → 0 < length head → length (later f (seen view qs)) < length (later f (seen view rs))
  less_left f view rs ps qs r head parts top left is some =
      let new = ap length left ∙ length-append parts (later f (seen view ps)) in
      let old = ap length (later_one f view rs ps r top) ∙ length-append (f (view r.now)) (later f (seen view ps)) in
      let whole = ap length is ∙ length-append head parts in
      omega (arith, new, old, whole)

-- two writes, one after another
pub both_written : {B : Type 0} (out mid last first second : List B) → mid ≡ out ++ first → last ≡ mid ++ second → last ≡ out ++ (first ++ second)
both_written out mid last first second e d = d ∙ ap (λ z. z ++ second) e ∙ append_assoc out first second
