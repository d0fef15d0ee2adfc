-- Identifiers that are found one after the other.
use Rattle.std.proofs.Common.{◌≡◌, ℕ, Bool, true, false, true≢false, List, [], ◌∷◌, ◌++◌, length, Option, None, Some, refl, sym, ap, ◌∙◌, if◌then◌else◌, codes}
use Rattle.std.specs.Str.{bytes_eq}
use Rattle.std.proofs.lemmas.Slice.Eq.{bytes_eq-Decides}
use Rattle.ap_trees.specs.Terms.{Name, OfWord, OfVar}
use Rattle.ap_scopes.specs.Identifiers.{Found, is_free_identifier, free_place, same_spelling, is_blank_name, free_one, bound_one}
use Rattle.ap_scopes.proofs.Tables.{position-skip, position-hit}

-- what `new` or `exists` brings does not belong to the whole
pub free_place-bound : (found : Found) (n s : Name) → free_place (found ++ bound_one s ∷ []) n ≡ free_place found n
free_place-bound found n s = position-skip (is_free_identifier n) (bound_one s) refl found

pub free_place-other : (found : Found) (n s : Name) → same_spelling n s ≡ false → free_place (found ++ free_one s ∷ []) n ≡ free_place found n
free_place-other found n s e = position-skip (is_free_identifier n) (free_one s) e found

pub free_place-new : (found : Found) (n s : Name) → same_spelling n s ≡ true → free_place found n ≡ None → free_place (found ++ free_one s ∷ []) n ≡ Some (length found)
free_place-new found n s e none = position-hit (is_free_identifier n) (free_one s) e found none

-- words that are equal either way
pub bytes_eq-flip : (v w : List ℕ) (b : Bool) → bytes_eq v w ≡ b → bytes_eq w v ≡ b
bytes_eq-flip v w true e = (bytes_eq-Decides w v).1 (sym ((bytes_eq-Decides v w).0 e))
bytes_eq-flip v w false e = by (bytes_eq w v) refl
  where
    by : (b : Bool) → bytes_eq w v ≡ b → bytes_eq w v ≡ false
    by false h = h
    by true h = absurd (true≢false (sym ((bytes_eq-Decides v w).1 (sym ((bytes_eq-Decides w v).0 h))) ∙ e))

-- the table has a number more
module _ (found : Found) (wrap : List ℕ → Name) (same : (v w : List ℕ) → same_spelling (wrap v) (wrap w) ≡ bytes_eq v w) where
  pub one_more : (word w : List ℕ) (t : Option ℕ) → t ≡ free_place found (wrap w) → free_place found (wrap word) ≡ None
      → (if bytes_eq word w then Some (length found) else t) ≡ free_place (found ++ free_one (wrap word) ∷ []) (wrap w)
  one_more word w t e none = by (bytes_eq word w) refl
    where
      by : (b : Bool) → bytes_eq word w ≡ b → (if b then Some (length found) else t) ≡ free_place (found ++ free_one (wrap word) ∷ []) (wrap w)
      by true h =
          let equal : word ≡ w = (bytes_eq-Decides word w).0 h in
          sym (free_place-new found (wrap w) (wrap word) (same w word ∙ bytes_eq-flip word w true h) (ap (λ v. free_place found (wrap v)) (sym equal) ∙ none))
      by false h = e ∙ sym (free_place-other found (wrap w) (wrap word) (same w word ∙ bytes_eq-flip word w false h))

-- a name is not spelled as a variable, and `_` not as another variable
pub name-blank : (s : Name) (w : List ℕ) → is_blank_name s ≡ true → same_spelling (OfWord w) s ≡ false
name-blank (OfWord v) w h = absurd (true≢false (sym h))
name-blank (OfVar v) w h = refl

pub variable-blank : (s : Name) (w : List ℕ) → is_blank_name s ≡ true → bytes_eq w (codes "_") ≡ false → same_spelling (OfVar w) s ≡ false
variable-blank (OfWord v) w h other = refl
variable-blank (OfVar v) w h other = ap (bytes_eq w) ((bytes_eq-Decides v (codes "_")).0 h) ∙ other

-- what stands in tables, where as many tables are there as before
pub in_tables : (b c : Bool) (p q : Option ℕ) → c ≡ b → q ≡ p → (if b then p else None) ≡ (if c then q else None)
in_tables b c p q e h = ap (λ x. if x then p else None) (sym e) ∙ ap (λ r. if c then r else None) (sym h)

pub no_tables : (b : Bool) (p : Option ℕ) → b ≡ false → (if b then p else None) ≡ None
no_tables b p e = ap (λ x. if x then p else None) e
