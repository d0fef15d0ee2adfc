-- Lists of words.
use Rattle.std.proofs.Common.{◌≡◌, ◌≤◌, ℕ, suc, Bool, true, false, List, [], ◌∷◌, ◌++◌, length, refl, sym, ap, ◌∙◌, subst, arith, append_assoc, true≢false}
use Rattle.std.proofs.lemmas.List.{append-nil}
use Rattle.std.specs.Prelude.{if◌then◌else◌}
use Rattle.std.specs.Str.{bytes_eq}
use Rattle.std.proofs.lemmas.Slice.Eq.{bytes_eq-Decides}
use Rattle.ap_defs.specs.Printing.{has_word}
use Rattle.ap_spelling.specs.Differing.{AllDiffer}

-- words that are told alike are the same
pub same_word : (w v : List ℕ) → bytes_eq w v ≡ true → w ≡ v
same_word w v = (bytes_eq-Decides w v).0

pub word_alike : (w : List ℕ) → bytes_eq w w ≡ true
word_alike w = (bytes_eq-Decides w w).1 refl

pub has_first : (w : List ℕ) (ws : List (List ℕ)) → has_word w (w ∷ ws) ≡ true
has_first w ws = rw (word_alike w) refl

has_behind_by : (b r : Bool) → r ≡ true → (if b then true else r) ≡ true
has_behind_by true r e = refl
has_behind_by false r e = e

pub has_behind : (w v : List ℕ) (ws : List (List ℕ)) → has_word w ws ≡ true → has_word w (v ∷ ws) ≡ true
has_behind w v ws = has_behind_by (bytes_eq w v) (has_word w ws)

in_front_by : (b r q : Bool) → (r ≡ true → q ≡ true) → (if b then true else r) ≡ true → (if b then true else q) ≡ true
in_front_by true r q more h = refl
in_front_by false r q more h = more h

-- a word among the first, among the last, or among more last ones
pub in_front : (w : List ℕ) (us vs : List (List ℕ)) → has_word w us ≡ true → has_word w (us ++ vs) ≡ true
in_front w [] vs h = cc
in_front w (u ∷ us) vs h = in_front_by (bytes_eq w u) (has_word w us) (has_word w (us ++ vs)) (in_front w us vs) h

pub at_back : (w : List ℕ) (us vs : List (List ℕ)) → has_word w vs ≡ true → has_word w (us ++ vs) ≡ true
at_back w [] vs h = h
at_back w (u ∷ us) vs h = has_behind w u (us ++ vs) (at_back w us vs h)

pub more_at_back : (w : List ℕ) (us vs ws : List (List ℕ)) → (has_word w vs ≡ true → has_word w ws ≡ true) → has_word w (us ++ vs) ≡ true → has_word w (us ++ ws) ≡ true
more_at_back w [] vs ws more h = more h
more_at_back w (u ∷ us) vs ws more h = in_front_by (bytes_eq w u) (has_word w (us ++ vs)) (has_word w (us ++ ws)) (more_at_back w us vs ws more) h

-- words without one of them
abbrev without : List ℕ → List (List ℕ) → List (List ℕ)
without w [] = []
without w (v ∷ vs) = if bytes_eq w v then vs else v ∷ without w vs

one_fewer_by : (b r : Bool) (v : List ℕ) (vs us : List (List ℕ)) → (if b then true else r) ≡ true → (r ≡ true → length vs ≡ suc (length us))
    → length (v ∷ vs) ≡ suc (length (if b then vs else v ∷ us))
one_fewer_by true r v vs us h e = refl
one_fewer_by false r v vs us h e = ap suc (e h)

one_fewer : (w : List ℕ) (vs : List (List ℕ)) → has_word w vs ≡ true → length vs ≡ suc (length (without w vs))
one_fewer w [] h = cc
one_fewer w (v ∷ vs) h = one_fewer_by (bytes_eq w v) (has_word w vs) v vs (without w vs) h (one_fewer w vs)

still_by : (u w v : List ℕ) (vs us : List (List ℕ)) (b c : Bool) → bytes_eq w v ≡ b → bytes_eq u v ≡ c → bytes_eq u w ≡ false
    → (if c then true else has_word u vs) ≡ true → (has_word u vs ≡ true → has_word u us ≡ true) → has_word u (if b then vs else v ∷ us) ≡ true
still_by u w v vs us true true e f d h more = let same : w ≡ v = same_word w v e in cc
still_by u w v vs us true false e f d h more = h
still_by u w v vs us false true e f d h more = rw f refl
still_by u w v vs us false false e f d h more = rw f (more h)

still : (u w : List ℕ) (vs : List (List ℕ)) → bytes_eq u w ≡ false → has_word u vs ≡ true → has_word u (without w vs) ≡ true
still u w [] d h = h
still u w (v ∷ vs) d h = still_by u w v vs (without w vs) (bytes_eq w v) (bytes_eq u v) refl refl d h (still u w vs d)

other_by : (w u : List ℕ) (us : List (List ℕ)) (b : Bool) → bytes_eq w u ≡ b → has_word u us ≡ false → has_word w us ≡ true → b ≡ false
other_by w u us true e h i = let same : w ≡ u = same_word w u e in cc
other_by w u us false e h i = refl

-- a word that stands among others is another than one that doesn't
pub other_word : (w u : List ℕ) (us : List (List ℕ)) → has_word u us ≡ false → has_word w us ≡ true → bytes_eq w u ≡ false
other_word w u us = other_by w u us (bytes_eq w u) refl

-- words that all differ are no more than those among which they stand
pub no_more : (us vs : List (List ℕ)) → AllDiffer us → ((u : List ℕ) → has_word u us ≡ true → has_word u vs ≡ true) → length us ≤ length vs
no_more [] vs d h = omega arith
no_more (u ∷ us) vs d h =
    let fewer = one_fewer u vs (h u (has_first u us)) in
    let rest = no_more us (without u vs) d.1 (λ w i. still w u vs (other_word w u us d.0 i) (h w (has_behind w u us i))) in
    omega (arith, fewer, rest)

-- whether a word is among these is told by what follows from it
pub is_not : (b : Bool) → (b ≡ true → ⊥) → b ≡ false
is_not true h = absurd (h refl)
is_not false h = refl

pub flipped : (v w : List ℕ) → bytes_eq v w ≡ false → bytes_eq w v ≡ false
flipped v w e = is_not (bytes_eq w v) (λ h. let same : w ≡ v = same_word w v h in let there : bytes_eq v w ≡ true = (bytes_eq-Decides v w).1 (sym same) in true≢false (sym there ∙ e))

-- A list of words with one more of them.
pub record IsOneMore (v : List ℕ) (us ws : List (List ℕ)) : Type 0 where
  pub has : (u : List ℕ) → has_word u ws ≡ (if bytes_eq u v then true else has_word u us)
  pub differ : AllDiffer us → has_word v us ≡ false → AllDiffer ws
  pub count : length ws ≡ suc (length us)

swapped_by : (b c r : Bool) → (if b then true else (if c then true else r)) ≡ (if c then true else (if b then true else r))
swapped_by true true r = refl
swapped_by true false r = refl
swapped_by false true r = refl
swapped_by false false r = refl

no_first : (b r : Bool) → (if b then true else r) ≡ false → b ≡ false
no_first true r h = h
no_first false r h = refl

no_other : (b r : Bool) → (if b then true else r) ≡ false → r ≡ false
no_other true r h = cc
no_other false r h = h

put_behind : (x v : List ℕ) (us ws : List (List ℕ)) → IsOneMore v us ws → AllDiffer (x ∷ us) → has_word v (x ∷ us) ≡ false → AllDiffer (x ∷ ws)
put_behind x v us ws more d h =
    let other : bytes_eq x v ≡ false = flipped v x (no_first (bytes_eq v x) (has_word v us) h) in
    let absent : has_word x ws ≡ false = more.has x ∙ ap (λ b. if b then true else has_word x us) other ∙ d.0 in
    (absent, more.differ d.1 (no_other (bytes_eq v x) (has_word v us) h))

pub inserted : (v : List ℕ) (xs ys : List (List ℕ)) → IsOneMore v (xs ++ ys) (xs ++ (v ∷ ys))
inserted v [] ys = record { has = λ u. refl; differ = λ d h. (h, d); count = refl }
inserted v (x ∷ xs) ys =
    let more : IsOneMore v (xs ++ ys) (xs ++ (v ∷ ys)) = inserted v xs ys in
    record {
      has = λ u. ap (λ r. if bytes_eq u x then true else r) (more.has u) ∙ swapped_by (bytes_eq u x) (bytes_eq u v) (has_word u (xs ++ ys));
      differ = put_behind x v (xs ++ ys) (xs ++ (v ∷ ys)) more;
      count = ap suc more.count;
    }

pub more_names : (v : List ℕ) (xs ys : List (List ℕ)) → IsOneMore v (xs ++ ys) ((xs ++ v ∷ []) ++ ys)
more_names v xs ys = subst (λ ws. IsOneMore v (xs ++ ys) ws) (sym (append_assoc xs (v ∷ []) ys)) (inserted v xs ys)

pub more_vars : (v : List ℕ) (xs ys : List (List ℕ)) → IsOneMore v (xs ++ ys) (xs ++ (ys ++ v ∷ []))
more_vars v xs ys =
    let last : IsOneMore v ((xs ++ ys) ++ []) ((xs ++ ys) ++ (v ∷ [])) = inserted v (xs ++ ys) [] in
    let front : IsOneMore v (xs ++ ys) ((xs ++ ys) ++ (v ∷ [])) = subst (λ us. IsOneMore v us ((xs ++ ys) ++ (v ∷ []))) (append-nil (xs ++ ys)) last in
    subst (λ ws. IsOneMore v (xs ++ ys) ws) (append_assoc xs ys (v ∷ [])) front
