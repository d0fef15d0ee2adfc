-- Names and variables that have spellings are told apart where these all differ.
use Rattle.std.proofs.Common.{◌≡◌, ◌+◌, ◌==◌, ℕ, Bool, true, false, ◌&&◌, ◌||◌, List, [], ◌∷◌, ◌++◌, length, refl, sym, ap, ap₂, ◌∙◌, subst, arith, true≢false, length-append}
use Rattle.std.specs.Prelude.{if◌then◌else◌}
use Rattle.std.specs.Str.{bytes_eq}
use Rattle.std.proofs.lemmas.Bool.Decides.{Decides-eqb, nat_tests}
use Rattle.std.proofs.lemmas.Slice.Eq.{bytes_eq-Decides}
use Rattle.std.proofs.lemmas.Bool.{and_parts}
use Rattle.ap_defs.specs.declared.terms.Name.{Name}
use Rattle.ap_defs.specs.declared.terms.Var.{Var}
use Rattle.ap_defs.specs.Freshness.{var_eq}
use Rattle.ap_defs.specs.Permutations.{has_name, name_eq}
use Rattle.ap_defs.specs.Printing.{has_word, name_word, var_word}
use Rattle.ap_defs.specs.Unification.{has_var}
use Rattle.ap_spelling.specs.Differing.{AllDiffer, SpellingsDiffer, TellsApart, spelt_name, spellings, var_text}
use Rattle.ap_spelling.specs.Words as given
use Rattle.ap_spelling.specs.Words.{NominalGiven, NominalSpelt, give, give_each, spelt_with_name, with_var}
use Rattle.ap_spelling.proofs.WordLists.{at_back, has_behind, has_first, in_front}
use Rattle.ap_spelling.proofs.Told.{all_differ}

pub same_name : (a b : Name) → name_eq a b ≡ true → a ≡ b
unfolding name_eq
same_name a b h =
    let e = and_parts (a.sort == b.sort) (a.num == b.num) h in
    ap₂ (λ s n. let c : Name = record { sort = s; num = n } in c) ((Decides-eqb a.sort b.sort).0 e.0) ((Decides-eqb a.num b.num).0 e.1)

pub same_var : (x y : Var) → var_eq x y ≡ true → x ≡ y
same_var x y h = ap (λ n. let z : Var = record { num = n } in z) ((Decides-eqb x.num y.num).0 h)

eqb_flips : (x y : ℕ) → (x == y) ≡ (y == x)
eqb_flips x y = grind (arith, nat_tests)

name_flips : (a b : Name) → name_eq a b ≡ name_eq b a
unfolding name_eq
name_flips a b = ap₂ (λ p q. p && q) (eqb_flips a.sort b.sort) (eqb_flips a.num b.num)

var_flips : (x y : Var) → var_eq x y ≡ var_eq y x
var_flips x y = eqb_flips x.num y.num

name_first : (n a : Name) (ns : List Name) → has_name a (n ∷ ns) ≡ true → (name_eq n a || has_name a ns) ≡ true
name_first n a ns h = ap (λ b. b || has_name a ns) (name_flips n a) ∙ h

var_first : (y x : Var) (ys : List Var) → has_var x (y ∷ ys) ≡ true → (var_eq y x || has_var x ys) ≡ true
var_first y x ys h = ap (λ b. b || has_var x ys) (var_flips y x) ∙ h

-- What has a word has one of the words, and what has the same word is the same; by whether it is the first.
word_there_by : (b h : Bool) (w v : List ℕ) (ws : List (List ℕ)) → (b || h) ≡ true → (h ≡ true → has_word v ws ≡ true) → has_word (if b then w else v) (w ∷ ws) ≡ true
word_there_by true h w v ws i more = has_first w ws
word_there_by false h w v ws i more = has_behind v w ws (more i)

same_by : {A : Type 0} (a b n : A) (p q g h : Bool) (w u v : List ℕ) (ws : List (List ℕ)) → (p ≡ true → a ≡ n) → (q ≡ true → b ≡ n) → has_word w ws ≡ false
    → (p || g) ≡ true → (q || h) ≡ true → (g ≡ true → has_word u ws ≡ true) → (h ≡ true → has_word v ws ≡ true) → (g ≡ true → h ≡ true → u ≡ v → a ≡ b)
    → (if p then w else u) ≡ (if q then w else v) → a ≡ b
same_by a b n true true g h w u v ws e f d i j k l more s = e refl ∙ sym (f refl)
same_by a b n true false g h w u v ws e f d i j k l more s = absurd (true≢false (sym (ap (λ x. has_word x ws) s ∙ l j) ∙ d))
same_by a b n false true g h w u v ws e f d i j k l more s = absurd (true≢false (sym (ap (λ x. has_word x ws) (sym s) ∙ k i) ∙ d))
same_by a b n false false g h w u v ws e f d i j k l more s = more i j s

name_there : (ns : List Name) (ws : List (List ℕ)) (a : Name) → length ns ≡ length ws → has_name a ns ≡ true → has_word (name_word ns ws (λ b. []) a) ws ≡ true
name_there [] ws a e h = absurd (true≢false (sym h))
name_there (n ∷ ns) [] a e h = absurd (omega (arith, e))
name_there (n ∷ ns) (w ∷ ws) a e h =
    word_there_by (name_eq n a) (has_name a ns) w (name_word ns ws (λ b. []) a) ws (name_first n a ns h) (name_there ns ws a (omega (arith, e)))

var_there : (xs : List Var) (ws : List (List ℕ)) (x : Var) → length xs ≡ length ws → has_var x xs ≡ true → has_word (var_word xs ws x) ws ≡ true
var_there [] ws x e h = absurd (true≢false (sym h))
var_there (y ∷ ys) [] x e h = absurd (omega (arith, e))
var_there (y ∷ ys) (w ∷ ws) x e h = word_there_by (var_eq y x) (has_var x ys) w (var_word ys ws x) ws (var_first y x ys h) (var_there ys ws x (omega (arith, e)))

names_apart : (ns : List Name) (ws : List (List ℕ)) (a b : Name) → length ns ≡ length ws → AllDiffer ws → has_name a ns ≡ true → has_name b ns ≡ true
    → name_word ns ws (λ c. []) a ≡ name_word ns ws (λ c. []) b → a ≡ b
names_apart [] ws a b e d h i s = absurd (true≢false (sym h))
names_apart (n ∷ ns) [] a b e d h i s = absurd (omega (arith, e))
names_apart (n ∷ ns) (w ∷ ws) a b e d h i s =
    let fewer : length ns ≡ length ws = omega (arith, e) in
    same_by a b n (name_eq n a) (name_eq n b) (has_name a ns) (has_name b ns) w (name_word ns ws (λ c. []) a) (name_word ns ws (λ c. []) b) ws
    (λ e. sym (same_name n a e)) (λ e. sym (same_name n b e)) d.0 (name_first n a ns h) (name_first n b ns i) (name_there ns ws a fewer) (name_there ns ws b fewer) (names_apart ns ws a b fewer d.1) s

vars_apart : (xs : List Var) (ws : List (List ℕ)) (x y : Var) → length xs ≡ length ws → AllDiffer ws → has_var x xs ≡ true → has_var y xs ≡ true
    → var_word xs ws x ≡ var_word xs ws y → x ≡ y
vars_apart [] ws x y e d h i s = absurd (true≢false (sym h))
vars_apart (z ∷ zs) [] x y e d h i s = absurd (omega (arith, e))
vars_apart (z ∷ zs) (w ∷ ws) x y e d h i s =
    let fewer : length zs ≡ length ws = omega (arith, e) in
    same_by x y z (var_eq z x) (var_eq z y) (has_var x zs) (has_var y zs) w (var_word zs ws x) (var_word zs ws y) ws
    (λ e. sym (same_var z x e)) (λ e. sym (same_var z y e)) d.0 (var_first z x zs h) (var_first z y zs i) (var_there zs ws x fewer) (var_there zs ws y fewer) (vars_apart zs ws x y fewer d.1) s

-- words of a list that all differ
absent_front : (w : List ℕ) (us vs : List (List ℕ)) (q : Bool) → has_word w us ≡ q → has_word w (us ++ vs) ≡ false → q ≡ false
absent_front w us vs true e h = absurd (true≢false (sym (in_front w us vs e) ∙ h))
absent_front w us vs false e h = refl

differ_front : (us vs : List (List ℕ)) → AllDiffer (us ++ vs) → AllDiffer us
differ_front [] vs d = tt
differ_front (u ∷ us) vs d =
    let absent : has_word u us ≡ false = absent_front u us vs (has_word u us) refl d.0 in
    (absent, differ_front us vs d.1)

differ_back : (us vs : List (List ℕ)) → AllDiffer (us ++ vs) → AllDiffer vs
differ_back [] vs d = d
differ_back (u ∷ us) vs d = differ_back us vs d.1

same_here : (w u : List ℕ) (us vs : List (List ℕ)) (b : Bool) → bytes_eq w u ≡ b → has_word u (us ++ vs) ≡ false → (if b then true else has_word w us) ≡ true → has_word w vs ≡ true
    → (has_word w us ≡ true → ⊥) → ⊥
same_here w u us vs true e d h i more =
    let same : w ≡ u = (bytes_eq-Decides w u).0 e in
    true≢false (sym (at_back u us vs (subst (λ x. has_word x vs ≡ true) same i)) ∙ d)
same_here w u us vs false e d h i more = more h

in_one : (w : List ℕ) (us vs : List (List ℕ)) → AllDiffer (us ++ vs) → has_word w us ≡ true → has_word w vs ≡ true → ⊥
in_one w [] vs d h i = true≢false (sym h)
in_one w (u ∷ us) vs d h i = same_here w u us vs (bytes_eq w u) refl d.0 h i (λ j. in_one w us vs d.1 j i)

-- What is spelled has a spelling each.
record AreBeside (s : NominalSpelt) : Type 0 where
  names : length s.names ≡ length s.name_words
  vars : length s.vars ≡ length s.var_words

longer : {A B : Type 0} (as' : List A) (bs : List B) (a : A) (b : B) → length as' ≡ length bs → length (as' ++ a ∷ []) ≡ length (bs ++ b ∷ [])
longer as' bs a b e = length-append as' (a ∷ []) ∙ ap (λ n. n + 1) e ∙ sym (length-append bs (b ∷ []))

name_beside : (words : List (List ℕ)) (a : Name) (w : List ℕ) (s : NominalSpelt) (b : Bool) → AreBeside s → AreBeside (if b then s else spelt_with_name words a w s)
name_beside words a w s true h = h
name_beside words a w s false h = record { names = longer s.names s.name_words a _ h.names; vars = h.vars }

var_beside : (words : List (List ℕ)) (x : Var) (w : List ℕ) (s : NominalSpelt) (b : Bool) → AreBeside s → AreBeside (if b then s else with_var words x w s)
var_beside words x w s true h = h
var_beside words x w s false h = record { names = h.names; vars = longer s.vars s.var_words x _ h.vars }

beside_more : (words : List (List ℕ)) (g : NominalGiven) (s : NominalSpelt) → AreBeside s → AreBeside (give words g s)
beside_more words (given.name a w) s = name_beside words a w s (has_name a s.names)
beside_more words (given.var x w) s = var_beside words x w s (has_var x s.vars)

all_beside : (words : List (List ℕ)) (gs : List NominalGiven) (s : NominalSpelt) → AreBeside s → AreBeside (give_each words gs s)
all_beside words [] s h = h
all_beside words (g ∷ gs) s h = all_beside words gs (give words g s) (beside_more words g s h)

told_apart : (s : NominalSpelt) → AreBeside s → AllDiffer (spellings s) → TellsApart (spelt_name s) (var_text s) s.names s.vars
told_apart s h d = record {
  two_names = λ a b. names_apart s.names s.name_words a b h.names (differ_front s.name_words s.var_words d);
  two_vars = λ x y. vars_apart s.vars s.var_words x y h.vars (differ_back s.name_words s.var_words d);
  name_and_var = λ a x i j e. in_one (spelt_name s a) s.name_words s.var_words d (name_there s.names s.name_words a h.names i)
      (subst (λ w. has_word w s.var_words ≡ true) (sym e) (var_there s.vars s.var_words x h.vars j));
}

pub spellings_differ : SpellingsDiffer
spellings_differ words gs s h small =
    let beside : AreBeside s = record { names = h.names; vars = h.vars } in
    told_apart (give_each words gs s) (all_beside words gs s beside) (all_differ words gs s h small)
