-- Keys that are put on a stack and taken from it, and where they stand last.
use Rattle.std.proofs.Common.{◌≡◌, ◌+◌, ℕ, suc, Bool, true, false, if◌then◌else◌, List, [], ◌∷◌, ◌++◌, length, map, reverse, refl, sym, ap, ap₂, ◌∙◌, arith, append_assoc, append-nil, length-append, subst}
use Rattle.std.proofs.lemmas.List.{map-append, reverse-append, reverse-reverse}
use Rattle.std.specs.BTreeMap.{get}
use Rattle.std.specs.Ordering.{is_eq, nat_cmp, ordering_then}
use Rattle.std.specs.Prelude.{Option, Some, None}
use Rattle.ap_defs.specs.declared.terms.Name.{Name}
use Rattle.ap_defs.specs.declared.terms.Swap.{Swap}
use Rattle.ap_defs.specs.Permutations.{left_name, name_eq, right_name}
use Rattle.ap_theory.proofs.BooleanLemmas.{and_left, and_right}
use Rattle.ap_theory.proofs.TermLemmas.{number_same}
use Rattle.ap_judge.specs.declared.latest.Latest.{Latest}
use Rattle.ap_judge.specs.Indexes.{sought_cmp}
use Rattle.ap_judge.specs.Latest.{IsLatest, Key, befores_from, last_from, last_place, name_key, or_here}
use Rattle.ap_judge.specs.declared.binders.Binders.{Binders}
use Rattle.ap_judge.specs.Binders.{AreBinders, left_key, mean_same, means, right_key}
use Rattle.ap_judge.proofs.IndexLemmas.{at_number, eq_then, sought_eq}

or_last : (b c : Bool) (m n : ℕ) (o : Option ℕ) → or_here (if b then Some m else o) c n ≡ (if b then Some m else or_here o c n)
or_last true c m n o = refl
or_last false c m n o = refl

last_more : {A : Type 0} (test : A → Bool) (n : ℕ) (xs : List A) (x : A) → last_from test n (xs ++ x ∷ []) ≡ (if test x then Some (n + length xs) else last_from test n xs)
last_more test n [] x = ap (λ m. if test x then Some m else None) (omega arith)
last_more test n (y ∷ xs) x =
    ap (λ o. or_here o (test y) n) (last_more test (suc n) xs x)
    ∙ or_last (test x) (test y) (suc n + length xs) n (last_from test (suc n) xs)
    ∙ ap (λ m. if test x then Some m else or_here (last_from test (suc n) xs) (test y) n) (omega arith)

place_more : (ks : List Key) (k q : Key) → last_place (ks ++ k ∷ []) q ≡ (if is_eq (sought_cmp k q) then Some (length ks) else last_place ks q)
place_more ks k q = last_more (λ j. is_eq (sought_cmp j q)) 0 ks k ∙ ap (λ m. if is_eq (sought_cmp k q) then Some m else last_place ks q) (omega arith)

befores_more : (seen ks : List Key) (k : Key) → befores_from seen (ks ++ k ∷ []) ≡ befores_from seen ks ++ last_place (seen ++ ks) k ∷ []
befores_more seen [] k = ap (λ (zs : List Key). last_place zs k ∷ []) (sym (append-nil seen))
befores_more seen (j ∷ ks) k =
    ap (λ zs. last_place seen j ∷ zs) (befores_more (seen ++ j ∷ []) ks k
    ∙ ap (λ (zs : List Key). befores_from (seen ++ j ∷ []) ks ++ last_place zs k ∷ []) (append_assoc seen (j ∷ []) ks))

key_same : (j k : Key) → is_eq (sought_cmp j k) ≡ true → j ≡ k
key_same j k h =
    let all = sym (eq_then (nat_cmp j.0 k.0) (ordering_then (nat_cmp j.1.0 k.1.0) (nat_cmp j.1.1 k.1.1))) ∙ h in
    let inner = sym (eq_then (nat_cmp j.1.0 k.1.0) (nat_cmp j.1.1 k.1.1)) ∙ and_right (is_eq (nat_cmp j.0 k.0)) _ all in
    let first = number_same j.0 k.0 (sym (at_number j.0 k.0) ∙ and_left _ (is_eq (ordering_then (nat_cmp j.1.0 k.1.0) (nat_cmp j.1.1 k.1.1))) all) in
    let second = number_same j.1.0 k.1.0 (sym (at_number j.1.0 k.1.0) ∙ and_left _ (is_eq (nat_cmp j.1.1 k.1.1)) inner) in
    let third = number_same j.1.1 k.1.1 (sym (at_number j.1.1 k.1.1) ∙ and_right (is_eq (nat_cmp j.1.0 k.1.0)) _ inner) in
    ap₂ (λ (m : ℕ) (p : ℕ × ℕ). (m, p)) first (ap₂ (λ (m n : ℕ). (m, n)) second third)

last_apart : {A : Type 0} (xs ys : List A) (x y : A) → xs ++ x ∷ [] ≡ ys ++ y ∷ [] → (x ≡ y) × (xs ≡ ys)
last_apart xs ys x y h =
    let turned : x ∷ reverse xs ≡ y ∷ reverse ys = sym (reverse-append xs (x ∷ [])) ∙ ap reverse h ∙ reverse-append ys (y ∷ []) in
    let one : x ≡ y = cc in
    let rest : reverse xs ≡ reverse ys = cc in
    (one, sym (reverse-reverse xs) ∙ ap reverse rest ∙ reverse-reverse ys)

module _ (keys : List Key) (key : Key) (l m : Latest) where
  pub pushed : (place : ℕ) (b : Option ℕ) → place ≡ length keys → IsLatest keys l → b ≡ get sought_cmp l.places key → m.before.items ≡ l.before.items ++ b ∷ []
      → ((q : Key) → get sought_cmp m.places q ≡ (if is_eq (sought_cmp key q) then Some place else get sought_cmp l.places q)) → IsLatest (keys ++ key ∷ []) m
  pushed place b e is old items put = record {
    places = λ q. put q ∙ ap₂ (λ n o. if is_eq (sought_cmp key q) then Some n else o) e (is.places q) ∙ sym (place_more keys key q);
    before = items ∙ ap₂ (λ zs o. zs ++ o ∷ []) is.before (old ∙ is.places key) ∙ sym (befores_more [] keys key);
  }

  restored : (q : Key) (b v : Bool) (o : Option ℕ) → is_eq (sought_cmp key q) ≡ v → o ≡ last_place keys key
      → (if v then o else (if v then Some (length keys) else last_place keys q)) ≡ last_place keys q
  restored q b true o e h = h ∙ ap (last_place keys) (key_same key q e)
  restored q b false o e h = refl

  pub popped : (b : Option ℕ) → l.before.items ≡ m.before.items ++ b ∷ [] → ((q : Key) → get sought_cmp m.places q ≡ (if is_eq (sought_cmp key q) then b else get sought_cmp l.places q))
      → IsLatest (keys ++ key ∷ []) l → IsLatest keys m
  popped b items put is =
      let two : (b ≡ last_place keys key) × (m.before.items ≡ befores_from [] keys) =
      last_apart m.before.items (befores_from [] keys) b (last_place keys key) (sym items ∙ is.before ∙ befores_more [] keys key) in
      record {
        places = λ q.
            put q ∙ ap (λ o. if is_eq (sought_cmp key q) then b else o) (is.places q ∙ place_more keys key q)
            ∙ restored q true (is_eq (sought_cmp key q)) b refl two.0;
        before = two.1;
      }

  pub none_popped : length l.before.items ≡ 0 → IsLatest (keys ++ key ∷ []) l → IsLatest keys m
  none_popped items is =
      let none : length (befores_from [] keys ++ last_place keys key ∷ []) ≡ 0 = ap length (sym (befores_more [] keys key) ∙ sym is.before) ∙ items in
      absurd (omega (arith, none, length-append (befores_from [] keys) (last_place keys key ∷ [])))

pub no_keys : (l : Latest) → ((k : Key) → get sought_cmp l.places k ≡ None) → l.before.items ≡ [] → IsLatest [] l
no_keys l h k = record { places = h; before = k }

-- names, as they are sought

sought_as : (a b : Name) → is_eq (sought_cmp (name_key b) (name_key a)) ≡ name_eq a b
sought_as a b = sought_eq (record { name = a; var = record { num = 0 } }) (record { name = b; var = record { num = 0 } })

names_last : (f : Swap → Name) (a : Name) (n : ℕ) (ss : List Swap)
    → last_from (λ j. is_eq (sought_cmp j (name_key a))) n (map (λ s. name_key (f s)) ss) ≡ last_from (λ s. name_eq a (f s)) n ss
names_last f a n [] = refl
names_last f a n (s ∷ ss) = ap₂ (λ o b. or_here o b n) (names_last f a (suc n) ss) (sought_as a (f s))

pub mean_found : (ss : List Swap) (a b : Name) (la lb : Option ℕ) → la ≡ last_place (map left_key ss) (name_key a) → lb ≡ last_place (map right_key ss) (name_key b)
    → means la lb (name_eq a b) ≡ mean_same ss a b
mean_found ss a b la lb h k =
    ap₂ (λ o p. means o p (name_eq a b)) (h ∙ names_last left_name a 0 ss) (k ∙ names_last right_name b 0 ss)

module _ (ss : List Swap) (s : Swap) where
  pub pairs_more : (b : Binders) → b.pairs.items ≡ ss ++ s ∷ [] → IsLatest (map left_key ss ++ left_key s ∷ []) b.lefts → IsLatest (map right_key ss ++ right_key s ∷ []) b.rights → AreBinders b
  pairs_more b e l r = record {
    lefts = subst (λ ks. IsLatest ks b.lefts) (sym (ap (map left_key) e ∙ map-append left_key ss (s ∷ []))) l;
    rights = subst (λ ks. IsLatest ks b.rights) (sym (ap (map right_key) e ∙ map-append right_key ss (s ∷ []))) r;
  }

  pub pairs_less : (b : Binders) → AreBinders b → b.pairs.items ≡ ss ++ s ∷ [] → IsLatest (map left_key ss ++ left_key s ∷ []) b.lefts × IsLatest (map right_key ss ++ right_key s ∷ []) b.rights
  pairs_less b is e = (
    subst (λ ks. IsLatest ks b.lefts) (ap (map left_key) e ∙ map-append left_key ss (s ∷ [])) is.lefts,
    subst (λ ks. IsLatest ks b.rights) (ap (map right_key) e ∙ map-append right_key ss (s ∷ [])) is.rights,
  )
