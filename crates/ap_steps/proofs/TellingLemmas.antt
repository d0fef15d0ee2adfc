-- How a derivation is spelled tells its names and variables apart.
use Rattle.std.proofs.Common.{◌≡◌, ◌<◌, ◌+◌, ◌*◌, ◌^◌, ℕ, zero, suc, Bool, true, false, cond, ◌||◌, List, [], ◌∷◌, ◌++◌, map, length, nat_lt, refl, sym, ap, ◌∙◌, arith, true≢false}
use Rattle.std.specs.Prelude.{if◌then◌else◌, codes, position, is_some, Option, Some, None}
use Rattle.std.specs.List.{position_or_len}
use Rattle.std.specs.Str.{bytes_eq}
use Rattle.std.proofs.lemmas.Bool.Decides.{nat_tests}
use Rattle.ap_defs.specs.declared.terms.Name.{Name}
use Rattle.ap_defs.specs.declared.terms.Var.{Var}
use Rattle.ap_defs.specs.Freshness.{var_eq}
use Rattle.ap_defs.specs.Goals.{NominalProgram}
use Rattle.ap_defs.specs.Lines.{name_texts, var_texts}
use Rattle.ap_defs.specs.Permutations.{has_name, name_eq}
use Rattle.ap_defs.specs.Printing.{first_vars, name_word, var_word}
use Rattle.ap_defs.specs.Renaming.{local_names}
use Rattle.ap_defs.specs.Types.{NominalLocal}
use Rattle.ap_defs.specs.Unification.{has_var}
use Rattle.ap_answers.specs.Occurring.{more_names}
use Rattle.ap_answers.specs.Spelled.{text_at}
use Rattle.ap_answers.proofs.ConditionLemmas.{name_flips, var_flips}
use Rattle.ap_spelling.specs.Differing.{IsBeginning, TellsApart, gives_name, gives_var, spelt_name, var_text}
use Rattle.ap_spelling.specs.Words as given
use Rattle.ap_spelling.specs.Words.{NominalGiven, NominalSpelt, Numbered, give_each, kept_words, numbered_next}
use Rattle.ap_spelling.proofs.Given.{given_names, given_vars, or_right}
use Rattle.ap_spelling.proofs.Telling.{spellings_differ}
use Rattle.ap_steps.specs.Givens.{givens, names_given}
use Rattle.ap_steps.specs.Names.{names_in, vars_of_proof}
use Rattle.ap_steps.specs.Spelling.{all_givens, bare_names, bare_vars, first_numbered, first_spelt, spelt, text_of_constructor}
use Rattle.ap_steps.specs.Telling.{DerivationsAreToldApart}

-- the word at the place of a name or a variable
later : (b : Bool) (w : List ℕ) (ws : List (List ℕ)) (n : ℕ) → text_at (w ∷ ws) (cond b (Some (1 + n)) None) ≡ text_at ws (cond b (Some n) None)
later true w ws n = let one : 1 + n ≡ suc n = omega arith in rw one refl
later false w ws n = refl

starts : (n : ℕ) → nat_lt 0 (suc n) ≡ true
starts n = grind (arith, nat_tests)

text_first : {A : Type 0} (p : A → Bool) (x : A) (xs : List A) (w : List ℕ) (ws : List (List ℕ)) (b : Bool) → p x ≡ b
    → text_at (w ∷ ws) (position p (x ∷ xs)) ≡ (if b then w else text_at ws (position p xs))
text_first p x xs w ws true e = rw (e, starts (length xs)) refl
text_first p x xs w ws false e =
    let lower : nat_lt (1 + position_or_len p xs) (suc (length xs)) ≡ nat_lt (position_or_len p xs) (length xs) = grind (arith, nat_tests) in
    rw (e, lower) (later (nat_lt (position_or_len p xs) (length xs)) w ws (position_or_len p xs))

nothing_at : (i : Option ℕ) → text_at [] i ≡ []
nothing_at None = refl
nothing_at (Some i) = refl

names_spelled : (bs : List Name) (vs : List (List ℕ)) (a : Name) → text_at vs (position (name_eq a) bs) ≡ name_word bs vs (λ b. []) a
names_spelled [] vs a = refl
names_spelled (b ∷ bs) [] a = nothing_at (position (name_eq a) (b ∷ bs))
names_spelled (b ∷ bs) (v ∷ vs) a =
    text_first (name_eq a) b bs v vs (name_eq b a) (name_flips a b) ∙ ap (λ r. if name_eq b a then v else r) (names_spelled bs vs a)

vars_spelled : (ys : List Var) (vs : List (List ℕ)) (x : Var) → text_at vs (position (var_eq x) ys) ≡ var_word ys vs x
vars_spelled [] vs x = refl
vars_spelled (y ∷ ys) [] x = nothing_at (position (var_eq x) (y ∷ ys))
vars_spelled (y ∷ ys) (v ∷ vs) x =
    text_first (var_eq x) y ys v vs (var_eq y x) (var_flips x y) ∙ ap (λ r. if var_eq y x then v else r) (vars_spelled ys vs x)

-- what is given among others
name_behind : (a : Name) (xs ys : List NominalGiven) → gives_name a ys ≡ true → gives_name a (xs ++ ys) ≡ true
name_behind a [] ys h = h
name_behind a (given.name b w ∷ xs) ys h = or_right (name_eq a b) (gives_name a (xs ++ ys)) (name_behind a xs ys h)
name_behind a (given.var y w ∷ xs) ys h = name_behind a xs ys h

var_behind : (x : Var) (xs ys : List NominalGiven) → gives_var x ys ≡ true → gives_var x (xs ++ ys) ≡ true
var_behind x [] ys h = h
var_behind x (given.name b w ∷ xs) ys h = var_behind x xs ys h
var_behind x (given.var y w ∷ xs) ys h = or_right (var_eq x y) (gives_var x (xs ++ ys)) (var_behind x xs ys h)

or_by : (b c d : Bool) → (c ≡ true → d ≡ true) → (b || c) ≡ true → (b || d) ≡ true
or_by true c d more h = refl
or_by false c d more h = more h

bare_name : (a : Name) (as' : List Name) (ys : List NominalGiven) → has_name a as' ≡ true → gives_name a (bare_names as' ++ ys) ≡ true
bare_name a [] ys h = absurd (true≢false (sym h))
bare_name a (b ∷ bs) ys h = or_by (name_eq a b) (has_name a bs) (gives_name a (bare_names bs ++ ys)) (bare_name a bs ys) h

bare_var : (x : Var) (xs : List Var) → has_var x xs ≡ true → gives_var x (bare_vars xs) ≡ true
bare_var x [] h = absurd (true≢false (sym h))
bare_var x (y ∷ ys) h = or_by (var_eq x y) (has_var x ys) (gives_var x (bare_vars ys)) (bare_var x ys) h

-- words that are kept have the number 0
zero_by : (o : Option ℕ) (b : Bool) (n : ℕ) → (o ≡ Some n → n ≡ 0) → (if b then Some 0 else o) ≡ Some n → n ≡ 0
zero_by o true n old h = let same : Some 0 ≡ Some n = h in cc
zero_by o false n old h = old h

kept_zero : (ws : List (List ℕ)) (last : Numbered) → ((w : List ℕ) (n : ℕ) → last w ≡ Some n → n ≡ 0) → (w : List ℕ) (n : ℕ) → kept_words ws last w ≡ Some n → n ≡ 0
kept_zero [] last h = h
kept_zero (v ∷ ws) last h = kept_zero ws (numbered_next v 0 last) (λ w n. zero_by (last w) (bytes_eq v w) n (h w n))

none_yet : (w : List ℕ) (n : ℕ) → None ≡ Some n → n ≡ 0
none_yet w n h = absurd (true≢false (sym (ap is_some h)))

first_zero : (p : NominalProgram) (locals : List NominalLocal) (w : List ℕ) (n : ℕ) → first_numbered p locals w ≡ Some n → n ≡ 0
first_zero p locals =
    let vars : Numbered = kept_words (var_texts locals) (λ w. None) in
    let constructors : Numbered = kept_words (map text_of_constructor p.signature.constructors) vars in
    kept_zero (codes "_" ∷ []) constructors (kept_zero (map text_of_constructor p.signature.constructors) vars (kept_zero (var_texts locals) (λ w. None) none_yet))

begins : (p : NominalProgram) (locals : List NominalLocal) → IsBeginning p.words (first_spelt p locals)
begins p locals = record {
  names = refl;
  vars = refl;
  differ = tt;
  of_text = λ w h. absurd (true≢false (sym h));
  left = λ w h. absurd (true≢false (sym h));
  unnumbered = first_zero p locals;
}

room : (n m : ℕ) → 2 * n + m + 2 < 2 ^ 64 → 2 * n + (0 + m) + 2 < 2 ^ 64
room n m h = omega (arith, h)

pub told_apart : DerivationsAreToldApart
told_apart p q a d small =
    let gs = all_givens p q a d in
    let s = spelt p q a d in
    let own = names_given (local_names zero q.locals) (name_texts q.locals) in
    let others = givens p.clauses q.locals d q.goal in
    let names = more_names (local_names zero q.locals) (names_in a d) in
    let vars = first_vars [] (vars_of_proof a d) in
    let told : TellsApart (spelt_name s) (var_text s) s.names s.vars = spellings_differ p.words gs (first_spelt p q.locals) (begins p q.locals) (room (length p.words) (length gs) small) in
    let name_there : (b : Name) → has_name b names ≡ true → has_name b s.names ≡ true = λ b h.
    given_names p.words gs (first_spelt p q.locals) b (name_behind b own (others ++ (bare_names names ++ bare_vars vars)) (name_behind b others (bare_names names ++ bare_vars vars) (bare_name b names (bare_vars vars) h))) in
    let var_there : (x : Var) → has_var x vars ≡ true → has_var x s.vars ≡ true = λ x h.
    given_vars p.words gs (first_spelt p q.locals) x
    (var_behind x own (others ++ (bare_names names ++ bare_vars vars)) (var_behind x others (bare_names names ++ bare_vars vars) (var_behind x (bare_names names) (bare_vars vars) (bare_var x vars h)))) in
    let name_is : (b : Name) → text_at s.name_words (position (name_eq b) s.names) ≡ spelt_name s b = names_spelled s.names s.name_words in
    let var_is : (x : Var) → text_at s.var_words (position (var_eq x) s.vars) ≡ var_text s x = vars_spelled s.vars s.var_words in
    record {
      two_names = λ b c h i e. told.two_names b c (name_there b h) (name_there c i) (sym (name_is b) ∙ e ∙ name_is c);
      two_vars = λ x y h i e. told.two_vars x y (var_there x h) (var_there y i) (sym (var_is x) ∙ e ∙ var_is y);
      name_and_var = λ b x h i e. told.name_and_var b x (name_there b h) (var_there x i) (sym (name_is b) ∙ e ∙ var_is x);
    }
