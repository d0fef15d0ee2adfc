-- What is in the grammar of goals is read.
use Rattle.std.proofs.Common.{◌≡◌, ◌≢◌, ℕ, zero, suc, ◌≤◌, false, List, [], ◌∷◌, length, None, Some, refl, ◌∙◌, arith}
use Rattle.std.proofs.lemmas.Bool.{false_from_ne_true}
use Rattle.std.proofs.lemmas.Slice.Eq.{bytes_eq-Decides}
use Rattle.std.specs.Str.{bytes_eq}
use Rattle.ap_trees.specs.Readers.{SymbolReader, separated, after_comma, after_lambda, after_open}
use Rattle.ap_trees.specs.Symbols.{Sym, Var, Ident, New, Exists, Open, Close, Comma, Semicolon, Equal, Fresh}
use Rattle.ap_trees.specs.Terms.{Term, Word, Apply, argument_terms}
use Rattle.ap_trees.specs.TermGrammar.{IsTerm, AreTerms, under, an_ident, a_var, a_word, applied, a_variable, the_unit, grouped, the_nil, listed, swapping}
use Rattle.ap_trees.specs.Goals.{Goal, Atom, Equation, Freshness, Both, Either, Some_variable, New_name, joined_goals}
use Rattle.ap_trees.proofs.TypeLaws.{read_sole, read_several}
use Rattle.ap_trees.proofs.TermLaws.{Ends, term_only, terms_only, closes}
use Rattle.ap_syntax.specs.Marks.{after_semicolon, after_equal, after_fresh, after_new, after_exists, read_bound, opened_ident, opened_variable, blank}
use Rattle.ap_syntax.specs.Matching.{begins_term, after_group}
use Rattle.ap_syntax.specs.GoalGrammar.{IsAtom, bare, with_arguments, IsGoal, disjunction, AreConjs, last_conj, next_conj, IsConj, conjunction, AreSimples, last_simple, next_simple, IsSimple, new_name, some_variable, in_parentheses, equation, freshness, an_atom}
use Rattle.ap_syntax.specs.GoalReader.{terms_inside, atom_arguments, read_atom, right_side, atom_goal, read_flat, goal_inside, new_goal, exists_goal, read_simple, read_conj, read_disj, read_goal, all_goal, first_term}
use Rattle.ap_syntax.proofs.GoalLaws.{goal_shrinks, conjs_shrink, conj_shrinks, simples_shrink, simple_shrinks}

-- a simple goal may end before these symbols
pub record Stops (rest : List Sym) : Type 0 where
  pub ends : Ends rest
  pub equal : after_equal rest ≡ None
  pub fresh : after_fresh rest ≡ None

-- a goal may end before these symbols
pub record Closes (rest : List Sym) : Type 0 where
  pub stops : Stops rest
  pub comma : after_comma rest ≡ None
  pub semicolon : after_semicolon rest ≡ None

ends_of : {rest : List Sym} → after_lambda rest ≡ None → after_open rest ≡ None → Ends rest
ends_of lambda bracket = record { lambda = lambda; bracket = bracket }

pub at_close : {rest : List Sym} → Closes (Close ∷ rest)
at_close = record { stops = record { ends = ends_of refl refl; equal = refl; fresh = refl }; comma = refl; semicolon = refl }

pub at_last : Closes []
at_last = record { stops = record { ends = ends_of refl refl; equal = refl; fresh = refl }; comma = refl; semicolon = refl }

at_comma : {rest : List Sym} → Stops (Comma ∷ rest)
at_comma = record { ends = ends_of refl refl; equal = refl; fresh = refl }

at_semicolon : {rest : List Sym} → Stops (Semicolon ∷ rest)
at_semicolon = record { ends = ends_of refl refl; equal = refl; fresh = refl }

-- atoms
terms_inside_only : {ts rest : List Sym} {args : List Term} → AreTerms ts args (Close ∷ rest) → terms_inside ts ≡ Some (args, rest)
unfolding terms_inside
terms_inside_only {ts = ts} h = rw (terms_only h (length ts) (length ts) (omega arith) (omega arith) closes refl) refl

pub atom_only : {ts rest : List Sym} {w : List ℕ} {args : List Term} → IsAtom ts w args rest → Ends rest → read_atom ts ≡ Some ((w, args), rest)
unfolding read_atom atom_arguments
atom_only bare ends = rw ends.bracket refl
atom_only (with_arguments h) ends = rw (terms_inside_only h) refl

atom_is_term : {ts rest : List Sym} {w : List ℕ} {args : List Term} → IsAtom ts w args rest → (t : Term) × IsTerm ts t rest
atom_is_term (bare {w = w}) = (Word w, a_word)
atom_is_term (with_arguments {w = w} {args = args} h) = (Apply w (argument_terms args), applied args h)

atom_no_group : {ts rest : List Sym} {w : List ℕ} {args : List Term} → IsAtom ts w args rest → after_group ts ≡ None
unfolding after_group
atom_no_group bare = refl
atom_no_group (with_arguments h) = refl

-- no term begins with `new` or `exists`
pub record Plain (ts : List Sym) : Type 0 where
  pub new : after_new ts ≡ None
  pub exists : after_exists ts ≡ None

term_plain : {ts rest : List Sym} {t : Term} → IsTerm ts t rest → Plain ts
term_plain (under an_ident h) = record { new = refl; exists = refl }
term_plain (under a_var h) = record { new = refl; exists = refl }
term_plain a_word = record { new = refl; exists = refl }
term_plain (applied parts h) = record { new = refl; exists = refl }
term_plain a_variable = record { new = refl; exists = refl }
term_plain the_unit = record { new = refl; exists = refl }
term_plain (grouped parts h) = record { new = refl; exists = refl }
term_plain the_nil = record { new = refl; exists = refl }
term_plain (listed parts end h g) = record { new = refl; exists = refl }
term_plain (swapping i j h) = record { new = refl; exists = refl }

-- one step of reading for each form
first_only : {ts rest : List Sym} {t : Term} → IsTerm ts t rest → Ends rest → first_term ts ≡ Some (t, rest)
first_only {ts = ts} h ends = term_only h (length ts) (omega arith) ends

read_equation : (ts us rest : List Sym) (t u : Term) → first_term ts ≡ Some (t, Equal ∷ us) → first_term us ≡ Some (u, rest) → read_flat ts ≡ Some (Equation t u, rest)
unfolding read_flat right_side
read_equation ts us rest t u first second = rw first (rw second refl)

read_freshness : (ts us rest : List Sym) (t u : Term) → first_term ts ≡ Some (t, Fresh ∷ us) → first_term us ≡ Some (u, rest) → read_flat ts ≡ Some (Freshness t u, rest)
unfolding read_flat right_side
read_freshness ts us rest t u first second = rw first (rw second refl)

read_an_atom : (ts rest : List Sym) (t : Term) (w : List ℕ) (args : List Term) → first_term ts ≡ Some (t, rest) → Stops rest → read_atom ts ≡ Some ((w, args), rest) → read_flat ts ≡ Some (Atom w args, rest)
unfolding read_flat atom_goal
read_an_atom ts rest t w args first stops got = rw first (rw (stops.equal, stops.fresh) (rw got refl))

simple_flat : (read : SymbolReader Goal) (ts : List Sym) → Plain ts → after_group ts ≡ None → read_simple read ts ≡ read_flat ts
unfolding read_simple
simple_flat read ts plain group = rw (plain.new, plain.exists, group) refl

read_new : (read : SymbolReader Goal) (w : List ℕ) (ts rest : List Sym) (g : Goal) → read ts ≡ Some (g, Close ∷ rest) → read_simple read (New ∷ Ident w ∷ Open ∷ ts) ≡ Some (New_name w g, rest)
unfolding read_simple new_goal opened_ident goal_inside
read_new read w ts rest g got = rw got refl

bound_only : (w : List ℕ) (ts : List Sym) → w ≢ blank → read_bound (Var w ∷ ts) ≡ Some (w, ts)
unfolding read_bound
bound_only w ts other =
    let differs : bytes_eq w blank ≡ false = false_from_ne_true (bytes_eq w blank) (λ same. other ((bytes_eq-Decides w blank).0 same)) in
    rw differs refl

read_exists : (read : SymbolReader Goal) (w : List ℕ) (ts rest : List Sym) (g : Goal) → w ≢ blank → read ts ≡ Some (g, Close ∷ rest) → read_simple read (Exists ∷ Var w ∷ Open ∷ ts) ≡ Some (Some_variable w g, rest)
unfolding read_simple exists_goal opened_variable goal_inside
read_exists read w ts rest g other got = rw (bound_only w (Open ∷ ts) other) (rw got refl)

group_only : (ts : List Sym) → begins_term ts ≡ false → after_group (Open ∷ ts) ≡ Some ts
unfolding after_group
group_only ts begins = rw begins refl

read_group : (read : SymbolReader Goal) (ts rest : List Sym) (g : Goal) → begins_term ts ≡ false → read ts ≡ Some (g, Close ∷ rest) → read_simple read (Open ∷ ts) ≡ Some (g, rest)
unfolding read_simple goal_inside
read_group read ts rest g begins got = rw (group_only ts begins) (rw got refl)

read_conjunction : (read : SymbolReader Goal) (ts rest : List Sym) (first : Goal) (others : List Goal) → separated after_comma (read_simple read) (length ts) ts ≡ Some (first ∷ others, rest)
    → read_conj read ts ≡ Some (joined_goals Both first others, rest)
unfolding read_conj
read_conjunction read ts rest first others got = rw got refl

read_disjunction : (n : ℕ) (ts rest : List Sym) (first : Goal) (others : List Goal) → separated after_semicolon (read_conj (read_goal n)) (length ts) ts ≡ Some (first ∷ others, rest)
    → read_goal (suc n) ts ≡ Some (joined_goals Either first others, rest)
unfolding read_goal read_disj
read_disjunction n ts rest first others got = rw got refl

-- What is in the grammar is read, where nothing follows that would go on.
mutual
  pub goal_only : {ts rest : List Sym} {g : Goal} → IsGoal ts g rest → (n : ℕ) → length ts ≤ n → Closes rest → read_goal n ts ≡ Some (g, rest)
  goal_only h zero fits end = absurd (omega (arith, goal_shrinks h))
  goal_only (disjunction {ts = ts} first others h) (suc n) fits end = read_disjunction n ts _ first others (conjs_only h n (length ts) fits (omega arith) end)

  conjs_only : {ts rest : List Sym} {gs : List Goal} → AreConjs ts gs rest → (n k : ℕ) → length ts ≤ suc n → length ts ≤ k → Closes rest
      → separated after_semicolon (read_conj (read_goal n)) k ts ≡ Some (gs, rest)
  conjs_only h n zero fits few end = absurd (omega (arith, conjs_shrink h))
  conjs_only (last_conj h) n (suc k) fits few end = read_sole after_semicolon (read_conj (read_goal n)) k _ _ _ (conj_only h n fits end.stops end.comma) end.semicolon
  conjs_only (next_conj h g) n (suc k) fits few end =
      read_several after_semicolon (read_conj (read_goal n)) k _ _ _ _ _ _ (conj_only h n fits at_semicolon refl) refl (conjs_only g n k (omega (arith, conj_shrinks h)) (omega (arith, conj_shrinks h)) end)

  conj_only : {ts rest : List Sym} {g : Goal} → IsConj ts g rest → (n : ℕ) → length ts ≤ suc n → Stops rest → after_comma rest ≡ None → read_conj (read_goal n) ts ≡ Some (g, rest)
  conj_only (conjunction {ts = ts} first others h) n fits stops comma = read_conjunction (read_goal n) ts _ first others (simples_only h n (length ts) fits (omega arith) stops comma)

  simples_only : {ts rest : List Sym} {gs : List Goal} → AreSimples ts gs rest → (n k : ℕ) → length ts ≤ suc n → length ts ≤ k → Stops rest → after_comma rest ≡ None
      → separated after_comma (read_simple (read_goal n)) k ts ≡ Some (gs, rest)
  simples_only h n zero fits few stops comma = absurd (omega (arith, simples_shrink h))
  simples_only (last_simple h) n (suc k) fits few stops comma = read_sole after_comma (read_simple (read_goal n)) k _ _ _ (simple_only h n fits stops) comma
  simples_only (next_simple h g) n (suc k) fits few stops comma =
      read_several after_comma (read_simple (read_goal n)) k _ _ _ _ _ _ (simple_only h n fits at_comma) refl
      (simples_only g n k (omega (arith, simple_shrinks h)) (omega (arith, simple_shrinks h)) stops comma)

  simple_only : {ts rest : List Sym} {g : Goal} → IsSimple ts g rest → (n : ℕ) → length ts ≤ suc n → Stops rest → read_simple (read_goal n) ts ≡ Some (g, rest)
  simple_only (new_name h) n fits stops = read_new (read_goal n) _ _ _ _ (goal_only h n (omega arith) at_close)
  simple_only (some_variable other h) n fits stops = read_exists (read_goal n) _ _ _ _ other (goal_only h n (omega arith) at_close)
  simple_only (in_parentheses begins h) n fits stops = read_group (read_goal n) _ _ _ begins (goal_only h n (omega arith) at_close)
  simple_only (equation group h g) n fits stops =
      simple_flat (read_goal n) _ (term_plain h) group ∙ read_equation _ _ _ _ _ (first_only h (ends_of refl refl)) (first_only g stops.ends)
  simple_only (freshness group h g) n fits stops =
      simple_flat (read_goal n) _ (term_plain h) group ∙ read_freshness _ _ _ _ _ (first_only h (ends_of refl refl)) (first_only g stops.ends)
  simple_only (an_atom h) n fits stops =
      let whole = atom_is_term h in
      simple_flat (read_goal n) _ (term_plain whole.1) (atom_no_group h) ∙ read_an_atom _ _ whole.0 _ _ (first_only whole.1 stops.ends) stops (atom_only h stops.ends)

pub all_goal_only : (ts : List Sym) (g : Goal) → IsGoal ts g [] → all_goal ts ≡ Some g
unfolding all_goal
all_goal_only ts g h = rw (goal_only h (length ts) (omega arith) at_last) refl
