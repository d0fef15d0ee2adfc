-- The spelling of a table, and the spelling of an answer.
use Rattle.std.proofs.Common.{◌≡◌, ℕ, zero, suc, ◌+◌, ◌-◌, Bool, true, false, cond, List, [], ◌∷◌, ◌++◌, length, nat_lt, get_or, refl, sym, ap, ap₂, ◌∙◌, arith, length-append, ◌<◌}
use Rattle.std.specs.Prelude.{if◌then◌else◌, position, Option, Some, None, codes, slice_get, unwrap_or}
use Rattle.std.specs.Option.{option_map}
use Rattle.std.specs.Fmt.{decimal}
use Rattle.std.proofs.lemmas.Option.{slice_get-map}
use Rattle.std.specs.List.{position_or_len}
use Rattle.std.proofs.lemmas.Bool.Decides.{nat_tests}
use mathlib.Core.Path.{fun_ext}
use Rattle.ap_defs.specs.declared.terms.Name.{Name}
use Rattle.ap_defs.specs.declared.terms.Var.{Var}
use Rattle.ap_defs.specs.Permutations.{name_eq}
use Rattle.ap_defs.specs.Freshness.{var_eq}
use Rattle.ap_defs.specs.Types as types
use Rattle.ap_defs.specs.Types.{NominalKind, NominalLocal}
use Rattle.ap_defs.specs.Goals.{NominalProgram}
use Rattle.ap_defs.specs.Renaming.{local_names, name_unless}
use Rattle.ap_defs.specs.Printing.{Spelling, name_word, var_word, new_words}
use Rattle.ap_defs.specs.Lines.{NominalShown, spelling_for, name_texts, text_of_name}
use Rattle.ap_answers.specs.Spelled.{text_at}
use Rattle.ap_answers.specs.Words.{numbered_words}
use Rattle.ap_answers.proofs.ConditionLemmas.{name_flips, var_flips}

-- the text at the first place, or at a later one
later : (b : Bool) (w : List ℕ) (ws : List (List ℕ)) (n : ℕ) → text_at (w ∷ ws) (cond b (Some (1 + n)) None) ≡ text_at ws (cond b (Some n) None)
later true w ws n = let one : 1 + n ≡ suc n = omega arith in rw one refl
later false w ws n = refl

starts : (n : ℕ) → nat_lt 0 (suc n) ≡ true
starts n = grind (arith, nat_tests)

text_first : {A : Type 0} (p : A → Bool) (x : A) (xs : List A) (w : List ℕ) (ws : List (List ℕ)) (b : Bool) → p x ≡ b
    → text_at (w ∷ ws) (position p (x ∷ xs)) ≡ (if b then w else text_at ws (position p xs))
text_first p x xs w ws true e = rw (e, starts (length xs)) refl
text_first p x xs w ws false e =
    let lower : nat_lt (1 + position_or_len p xs) (suc (length xs)) ≡ nat_lt (position_or_len p xs) (length xs) = grind (arith, nat_tests) in
    rw (e, lower) (later (nat_lt (position_or_len p xs) (length xs)) w ws (position_or_len p xs))

nothing_at : (i : Option ℕ) → text_at [] i ≡ []
nothing_at None = refl
nothing_at (Some i) = refl

names_spelled : (bs : List Name) (vs : List (List ℕ)) (a : Name) → text_at vs (position (name_eq a) bs) ≡ name_word bs vs (λ b. []) a
names_spelled [] vs a = refl
names_spelled (b ∷ bs) [] a = nothing_at (position (name_eq a) (b ∷ bs))
names_spelled (b ∷ bs) (v ∷ vs) a =
    text_first (name_eq a) b bs v vs (name_eq b a) (name_flips a b) ∙ ap (λ r. if name_eq b a then v else r) (names_spelled bs vs a)

all_names_spelled : (as' bs : List Name) (ws vs : List (List ℕ)) (a : Name) → length as' ≡ length ws
    → text_at (ws ++ vs) (position (name_eq a) (as' ++ bs)) ≡ name_word as' ws (name_word bs vs (λ b. [])) a
all_names_spelled [] bs [] vs a e = names_spelled bs vs a
all_names_spelled [] bs (w ∷ ws) vs a e = cc
all_names_spelled (b ∷ as') bs [] vs a e = cc
all_names_spelled (b ∷ as') bs (w ∷ ws) vs a e =
    let shorter : length as' ≡ length ws = cc in
    text_first (name_eq a) b (as' ++ bs) w (ws ++ vs) (name_eq b a) (name_flips a b) ∙ ap (λ r. if name_eq b a then w else r) (all_names_spelled as' bs ws vs a shorter)

vars_spelled : (ys : List Var) (vs : List (List ℕ)) (x : Var) → text_at vs (position (var_eq x) ys) ≡ var_word ys vs x
vars_spelled [] vs x = refl
vars_spelled (y ∷ ys) [] x = nothing_at (position (var_eq x) (y ∷ ys))
vars_spelled (y ∷ ys) (v ∷ vs) x =
    text_first (var_eq x) y ys v vs (var_eq y x) (var_flips x y) ∙ ap (λ r. if var_eq y x then v else r) (vars_spelled ys vs x)

-- as many names as texts
text_more : (b : Bool) (k : NominalKind) (n : ℕ) (w : List ℕ) (as' : List Name) (ws : List (List ℕ)) → length as' ≡ length ws → length (name_unless b k n as') ≡ length (text_of_name b k w ws)
text_more true k n w as' ws e = e
text_more false (types.name s) n w as' ws e = ap suc e
text_more false (types.var t) n w as' ws e = e

pub as_many_texts : (n : ℕ) (ls : List NominalLocal) → length (local_names n ls) ≡ length (name_texts ls)
as_many_texts n [] = refl
as_many_texts n (l ∷ ls) = text_more l.bound l.kind n l.text (local_names (suc n) ls) (name_texts ls) (as_many_texts (suc n) ls)

-- a table with these texts spells as the answer is spelled
pub spells : (program : NominalProgram) (locals : List NominalLocal) (s : NominalShown) (keys : List Name) (vars : List Var) (texts made var_texts : List (List ℕ))
    → keys ≡ local_names zero locals ++ s.names → vars ≡ s.vars → texts ≡ name_texts locals ++ made
    → made ≡ new_words (codes "n") program.words (length keys - length (name_texts locals)) → var_texts ≡ new_words (codes "_") program.words (length vars)
    → (let by : Spelling = record { names = λ a. text_at texts (position (name_eq a) keys); vars = λ x. text_at var_texts (position (var_eq x) vars); constructors = program.signature.constructors } in by) ≡ spelling_for program locals s
spells program locals s keys vars texts made var_texts k v t m w =
    let others : length keys - length (name_texts locals) ≡ length s.names = rw (k, length-append (local_names zero locals) s.names) (omega (arith, as_many_texts zero locals)) in
    ap₂ (λ names vars'. let by : Spelling = record { names = names; vars = vars'; constructors = program.signature.constructors } in by)
    (fun_ext (λ a. rw (t, m, others, k) (all_names_spelled (local_names zero locals) s.names (name_texts locals) (new_words (codes "n") program.words (length s.names)) a (as_many_texts zero locals))))
    (fun_ext (λ x. rw (w, v) (vars_spelled s.vars (new_words (codes "_") program.words (length s.vars)) x)))

-- the text at a place of numbered_words words
pub numbered_there : (letter numbers : List ℕ) (i number : ℕ) → slice_get numbers i ≡ Some number → text_at (numbered_words letter numbers) (Some i) ≡ letter ++ decimal number
numbered_there letter numbers i number e =
    let f : ℕ → List ℕ = λ k. letter ++ decimal k in
    ap (λ (o : Option (List ℕ)). unwrap_or o []) (slice_get-map f numbers i ∙ ap (option_map f) e)

pub numbered_past : (letter numbers : List ℕ) (i : ℕ) → slice_get numbers i ≡ None → text_at (numbered_words letter numbers) (Some i) ≡ []
numbered_past letter numbers i e =
    let f : ℕ → List ℕ = λ k. letter ++ decimal k in
    ap (λ (o : Option (List ℕ)). unwrap_or o []) (slice_get-map f numbers i ∙ ap (option_map f) e)

-- a text at a place of some, or of those behind them
pub text_there : (ws vs : List (List ℕ)) (i : ℕ) (w : List ℕ) → i < length ws → w ≡ get_or ws i w → text_at (ws ++ vs) (Some i) ≡ w
text_there [] vs i w l e = absurd (omega arith)
text_there (v ∷ ws) vs zero w l e = sym e
text_there (v ∷ ws) vs (suc i) w l e = text_there ws vs i w (omega arith) e

pub text_behind : (ws vs : List (List ℕ)) (i k : ℕ) → i ≡ length ws + k → text_at (ws ++ vs) (Some i) ≡ text_at vs (Some k)
text_behind [] vs i k e = let same : i ≡ k = omega arith in ap (λ n. text_at vs (Some n)) same
text_behind (w ∷ ws) vs zero k e = absurd (omega arith)
text_behind (w ∷ ws) vs (suc i) k e = text_behind ws vs i k (omega arith)
