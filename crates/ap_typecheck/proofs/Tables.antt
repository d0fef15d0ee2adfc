-- Tables of words that get one more, and lists of clauses.
use Rattle.std.proofs.Common.{◌≡◌, ℕ, zero, suc, ◌<◌, Bool, true, false, ◌||◌, List, [], ◌∷◌, ◌++◌, map, length, Option, None, Some, refl, sym, ap, subst, ◌∙◌, position, cond, arith, get_or}
use Rattle.std.proofs.Math.ListN.{set}
use Rattle.std.specs.Str.{bytes_eq}
use Rattle.std.specs.List.{list_any}
use Rattle.std.specs.Option.{option_map}
use Rattle.ap_defs.specs.RawTerms.{RawTerm}
use Rattle.ap_defs.specs.Goals.{ClauseOver}
use Rattle.ap_defs.specs.declared.goals.Constructor.{Constructor}
use Rattle.ap_defs.specs.Types.{NominalType, names, base, constructor_of}
use Rattle.ap_types.specs.declared.inhabitants.Inhabitants.{Inhabitants}
use Rattle.ap_types.specs.Tables.{AreInhabitants}
use Rattle.std.proofs.lemmas.List.{map-append}
use Rattle.ap_scopes.specs.Declarations.{Declared, nothing_declared, or_else, place}
use Rattle.ap_scopes.specs.Words.{with_word}
use Rattle.ap_scopes.proofs.Tables.{position-cons}
use Rattle.ap_typecheck.specs.Declaring.{put_clause}

-- what has no place is not there
pub none_any : {A : Type 0} (p : A → Bool) (xs : List A) → position p xs ≡ None → list_any p xs ≡ false
none_any p [] h = refl
none_any p (x ∷ xs) h = by (p x) refl (position p xs) refl (none_any p xs) (sym (position-cons p x xs) ∙ h)
  where
    by : (b : Bool) → p x ≡ b → (r : Option ℕ) → position p xs ≡ r → (position p xs ≡ None → list_any p xs ≡ false) → cond b (Some 0) (option_map suc r) ≡ None → (p x || list_any p xs) ≡ false
    by true e r k rest g = absurd (cc)
    by false e None k rest g = ap (λ b. b || list_any p xs) e ∙ rest k
    by false e (Some i) k rest g = absurd (cc)

-- a new word goes to the end
pub new_word : (w : List ℕ) (ws : List (List ℕ)) → place w ws ≡ None → with_word ws w ≡ ws ++ w ∷ []
new_word w ws h = ap (λ b. cond b ws (ws ++ w ∷ [])) (none_any (bytes_eq w) ws h)

-- what stands for no type is neither a name type nor a data type
pub no_name_type : (a b : Option ℕ) → or_else {A = NominalType} (option_map names a) (option_map base b) ≡ None → a ≡ None
no_name_type None b h = refl
no_name_type (Some i) b h = absurd (cc)

pub no_data_type : (a b : Option ℕ) → or_else {A = NominalType} (option_map names a) (option_map base b) ≡ None → b ≡ None
no_data_type None None h = refl
no_data_type None (Some i) h = absurd (cc)
no_data_type (Some i) b h = absurd (cc)

-- the last clause of a predicate
pub put_is : {A : Type 0} (view : A → List (ClauseOver RawTerm)) (c : ClauseOver RawTerm) (css : List A) (p : ℕ) (old new : A) → p < length css → old ≡ get_or css p old → view new ≡ view old ++ c ∷ []
    → map view (set css p new) ≡ put_clause c p (map view css)
put_is view c [] p old new l e v = absurd (omega arith)
put_is view c (cs ∷ css) zero old new l e v = ap (λ x. x ∷ map view css) (v ∙ ap (λ x. view x ++ c ∷ []) e)
put_is view c (cs ∷ css) (suc p) old new l e v = ap (λ x. view cs ∷ x) (put_is view c css p old new (omega arith) e v)

pub words_append : (cs : List Constructor) (c : Constructor) → map (λ b. b.text) (map constructor_of (cs ++ c ∷ [])) ≡ map (λ b. b.text) (map constructor_of cs) ++ c.text ∷ []
words_append [] c = refl
words_append (b ∷ cs) c = ap (λ ws. b.text ∷ ws) (words_append cs c)

-- one more constructor, of which the inhabited data types are known
pub inhabitants_more : (old new : List Constructor) (c : Constructor) (i : Inhabitants) → new ≡ old ++ c ∷ [] → AreInhabitants (map constructor_of old ++ constructor_of c ∷ []) i → AreInhabitants (map constructor_of new) i
inhabitants_more old new c i e h = subst (λ cs. AreInhabitants cs i) (sym (ap (map constructor_of) e ∙ map-append constructor_of old (c ∷ []))) h

pub no_constructors : (d : Declared) (i : Inhabitants) → d ≡ nothing_declared → AreInhabitants [] i → AreInhabitants d.signature.constructors i
no_constructors d i e h = subst (λ n. AreInhabitants n.signature.constructors i) (sym e) h
