-- The names of an answer, one after the other.
use Rattle.std.proofs.Common.{◌≡◌, ◌∙◌, ◌+◌, ℕ, zero, suc, List, [], ◌∷◌, ◌++◌, drop, map, Some, None, refl, sym, ap, arith}
use Rattle.std.specs.Prelude.{slice_get}
use Rattle.ap_defs.specs.declared.terms.Name.{Name}
use Rattle.ap_defs.specs.Occurrences.{names_of_terms, names_then}
use Rattle.ap_defs.specs.Terms.{NominalTerm}
use Rattle.ap_instance.specs.Settled.{sort_of}
use Rattle.ap_answers.specs.Occurring.{more_names}
use Rattle.ap_answers.proofs.OccurrenceLemmas.{more_names_append, names_then_front}

-- one more term, and one more name
pub next_term : (ks keys : List Name) (t : NominalTerm) (ts : List NominalTerm) (whole : List Name) → keys ≡ more_names ks (names_then t [])
    → more_names ks (names_of_terms (t ∷ ts)) ≡ whole → more_names keys (names_of_terms ts) ≡ whole
next_term ks keys t ts whole e h =
    ap (λ l. more_names l (names_of_terms ts)) e ∙ sym (more_names_append ks (names_then t []) (names_of_terms ts))
    ∙ ap (more_names ks) (sym (names_then_front t (names_of_terms ts))) ∙ h

pub next_name : (ks keys : List Name) (a : Name) (as' : List Name) (whole : List Name) → keys ≡ more_names ks (a ∷ []) → more_names ks (a ∷ as') ≡ whole → more_names keys as' ≡ whole
next_name ks keys a as' whole e h = ap (λ l. more_names l as') e ∙ sym (more_names_append ks (a ∷ []) as') ∙ h

-- the name at a place, and those that follow it
pub name_there : (keys : List Name) (place : ℕ) (a : Name) → slice_get keys place ≡ Some a → drop place keys ≡ a ∷ drop (place + 1) keys
name_there [] place a e = cc
name_there (b ∷ keys) zero a e = ap (λ c. c ∷ keys) (some_same b a e)
  where
    some_same : (x y : Name) → Some x ≡ Some y → x ≡ y
    some_same x y k = cc
name_there (b ∷ keys) (suc place) a e =
    let next : suc (place + 1) ≡ suc place + 1 = omega arith in
    name_there keys place a e ∙ ap (λ i. a ∷ drop i (b ∷ keys)) next

-- past the last one
pub name_missing : (keys : List Name) (place : ℕ) → slice_get keys place ≡ None → drop place keys ≡ drop (place + 1) keys
name_missing [] zero e = refl
name_missing [] (suc place) e = let next : suc (suc place) ≡ suc place + 1 = omega arith in ap (λ i. drop i []) next
name_missing (b ∷ keys) zero e = cc
name_missing (b ∷ keys) (suc place) e =
    let next : suc (place + 1) ≡ suc place + 1 = omega arith in
    name_missing keys place e ∙ ap (λ i. drop i (b ∷ keys)) next

sorts_joined : (xs : List ℕ) (n : ℕ) (ys : List ℕ) → (xs ++ n ∷ []) ++ ys ≡ xs ++ n ∷ ys
sorts_joined [] n ys = refl
sorts_joined (x ∷ xs) n ys = ap (λ l. x ∷ l) (sorts_joined xs n ys)

pub next_sort : (ss more : List ℕ) (keys : List Name) (place : ℕ) (a : Name) (whole : List ℕ) → more ≡ ss ++ a.sort ∷ [] → slice_get keys place ≡ Some a
    → ss ++ map sort_of (drop place keys) ≡ whole → more ++ map sort_of (drop (place + 1) keys) ≡ whole
next_sort ss more keys place a whole m e h =
    ap (λ l. l ++ map sort_of (drop (place + 1) keys)) m ∙ sorts_joined ss a.sort (map sort_of (drop (place + 1) keys))
    ∙ ap (λ l. ss ++ map sort_of l) (sym (name_there keys place a e)) ∙ h
