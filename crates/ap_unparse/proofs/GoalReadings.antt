-- A goal that is written is in the grammar.
use Rattle.std.proofs.Common.{◌≡◌, ◌≢◌, ℕ, false, List, [], ◌∷◌, ◌++◌, refl, sym, ap, ◌∙◌, subst, append_assoc, append-nil}
use Rattle.ap_trees.specs.Symbols.{Sym}
use Rattle.ap_trees.specs.Terms.{Term}
use Rattle.ap_trees.specs.TermGrammar.{AreTerms, only_one, and_more}
use Rattle.ap_trees.specs.Goals.{Goal, Atom, Equation, Freshness, Both, Either, Some_variable, New_name, joined_goals}
use Rattle.ap_syntax.specs.Marks.{blank}
use Rattle.ap_syntax.specs.Matching.{begins_relation}
use Rattle.ap_syntax.specs.GoalGrammar.{IsAtom, bare, with_arguments, IsGoal, disjunction, AreConjs, last_conj, next_conj, IsConj, conjunction, AreSimples, last_simple, next_simple, IsSimple, new_name, some_variable, in_parentheses, equation, freshness, an_atom}
use Rattle.ap_unparse.specs.declared.side.Side.{Side}
use Rattle.ap_unparse.specs.declared.side.Side.TheVariants.{Alone, OnLeft, BehindComma}
use Rattle.ap_unparse.specs.Written.{Written, ident, comma, semicolon, space, round_open, round_close, fresh_word, equal, symbols_of}
use Rattle.ap_unparse.specs.WrittenTerms.{written_term}
use Rattle.ap_unparse.specs.WrittenGoals.{further_terms, arguments_of, written_goal_at, written_goal}
use Rattle.ap_unparse.specs.Worded.{IsWordedGoal}
use Rattle.ap_unparse.proofs.TermReadings as readings
use Rattle.ap_unparse.proofs.MatchedBrackets.{goal_matched, group_begins, no_group}

-- the parts of a conjunction, and of a disjunction
abbrev pub conj_parts : Goal → List Goal
conj_parts (Both g h) = g ∷ conj_parts h
conj_parts g = g ∷ []

abbrev pub disj_parts : Goal → List Goal
disj_parts (Either g h) = g ∷ disj_parts h
disj_parts g = g ∷ []

conj_whole : (g h : Goal) → joined_goals Both g (conj_parts h) ≡ Both g h
conj_whole g (Atom w ts) = refl
conj_whole g (Equation t u) = refl
conj_whole g (Freshness t u) = refl
conj_whole g (Both a b) = ap (λ k. Both g k) (conj_whole a b)
conj_whole g (Either a b) = refl
conj_whole g (Some_variable w a) = refl
conj_whole g (New_name w a) = refl

disj_whole : (g h : Goal) → joined_goals Either g (disj_parts h) ≡ Either g h
disj_whole g (Atom w ts) = refl
disj_whole g (Equation t u) = refl
disj_whole g (Freshness t u) = refl
disj_whole g (Both a b) = refl
disj_whole g (Either a b) = ap (λ k. Either g k) (disj_whole a b)
disj_whole g (Some_variable w a) = refl
disj_whole g (New_name w a) = refl

-- neither `=` nor `#` comes first
abbrev pub NoRelation : List Written → Type 0
NoRelation ws = begins_relation (symbols_of ws) ≡ false

abbrev pub IsSimpleAt : Side → Goal → Type 0
IsSimpleAt side g = (ws : List Written) → NoRelation ws → IsSimple (symbols_of (written_goal_at side g ++ ws)) g (symbols_of ws)

-- Before what begins with neither `=` nor `#` it is a spelling of the goal: as a simple goal, as the end of a conjunction, and as the end of a disjunction.
pub record Spells (g : Goal) : Type 0 where
  pub simple : IsSimpleAt OnLeft g
  pub simples : (ws : List Written) → NoRelation ws → AreSimples (symbols_of (written_goal_at BehindComma g ++ ws)) (conj_parts g) (symbols_of ws)
  pub conjs : (ws : List Written) → NoRelation ws → AreConjs (symbols_of (written_goal_at Alone g ++ ws)) (disj_parts g) (symbols_of ws)

goal_of_conjs : (g : Goal) (ts rest : List Sym) → AreConjs ts (disj_parts g) rest → IsGoal ts g rest
goal_of_conjs (Atom w ts') ts rest h = disjunction (Atom w ts') [] h
goal_of_conjs (Equation t u) ts rest h = disjunction (Equation t u) [] h
goal_of_conjs (Freshness t u) ts rest h = disjunction (Freshness t u) [] h
goal_of_conjs (Both a b) ts rest h = disjunction (Both a b) [] h
goal_of_conjs (Either a b) ts rest h = subst (λ g. IsGoal ts g rest) (disj_whole a b) (disjunction a (disj_parts b) h)
goal_of_conjs (Some_variable w a) ts rest h = disjunction (Some_variable w a) [] h
goal_of_conjs (New_name w a) ts rest h = disjunction (New_name w a) [] h

conj_of_simple : {ts rest : List Sym} (g : Goal) → IsSimple ts g rest → IsConj ts g rest
conj_of_simple g h = conjunction g [] (last_simple h)

-- a goal that is simple and written in one way
one_way : (g : Goal) → IsSimpleAt OnLeft g → written_goal_at BehindComma g ≡ written_goal_at OnLeft g → written_goal_at Alone g ≡ written_goal_at OnLeft g → conj_parts g ≡ g ∷ [] → disj_parts g ≡ g ∷ [] → Spells g
one_way g simple comma alone conj disj = record {
  simple = simple;
  simples = λ ws h.
      subst (λ vs. AreSimples (symbols_of (vs ++ ws)) (conj_parts g) (symbols_of ws)) (sym comma)
      (subst (λ gs. AreSimples (symbols_of (written_goal_at OnLeft g ++ ws)) gs (symbols_of ws)) (sym conj) (last_simple (simple ws h)));
  conjs = λ ws h.
      subst (λ vs. AreConjs (symbols_of (vs ++ ws)) (disj_parts g) (symbols_of ws)) (sym alone)
      (subst (λ gs. AreConjs (symbols_of (written_goal_at OnLeft g ++ ws)) gs (symbols_of ws)) (sym disj) (last_conj (conj_of_simple g (simple ws h))));
}

further_read : (t : Term) (ts : List Term) (ws : List Written) → AreTerms (symbols_of (written_term t ++ (further_terms ts ++ (round_close ∷ ws)))) (t ∷ ts) (symbols_of (round_close ∷ ws))
further_read t [] ws = only_one ((readings.spells t).alone (round_close ∷ ws))
further_read t (u ∷ ts) ws =
    let same : further_terms (u ∷ ts) ++ round_close ∷ ws ≡ comma ∷ (written_term u ++ (further_terms ts ++ round_close ∷ ws)) = ap (λ (vs : List Written). comma ∷ vs) (append_assoc (written_term u) (further_terms ts) (round_close ∷ ws)) in
    subst (λ vs. AreTerms (symbols_of (written_term t ++ vs)) (t ∷ u ∷ ts) (symbols_of (round_close ∷ ws))) (sym same)
    (and_more ((readings.spells t).alone (comma ∷ (written_term u ++ (further_terms ts ++ round_close ∷ ws)))) (further_read u ts ws))

atom_read : (w : List ℕ) (ts : List Term) (ws : List Written) → IsAtom (symbols_of ((ident w ∷ arguments_of ts) ++ ws)) w ts (symbols_of ws)
atom_read w [] ws = bare
atom_read w (t ∷ ts) ws =
    let same : (written_term t ++ (further_terms ts ++ round_close ∷ [])) ++ ws ≡ written_term t ++ (further_terms ts ++ round_close ∷ ws) =
    append_assoc (written_term t) (further_terms ts ++ round_close ∷ []) ws ∙ ap (λ vs. written_term t ++ vs) (append_assoc (further_terms ts) (round_close ∷ []) ws)
    in
    subst (λ vs. IsAtom (symbols_of (ident w ∷ round_open ∷ vs)) w (t ∷ ts) (symbols_of ws)) (sym same) (with_arguments (further_read t ts ws))

atom_simple : (w : List ℕ) (ts : List Term) → IsSimpleAt OnLeft (Atom w ts)
atom_simple w ts ws h = an_atom (atom_read w ts ws)

equation_simple : (t u : Term) → IsSimpleAt OnLeft (Equation t u)
equation_simple t u ws h =
    let behind = space ∷ equal ∷ space ∷ (written_term u ++ ws) in
    subst (λ vs. IsSimple (symbols_of vs) (Equation t u) (symbols_of ws)) (sym (append_assoc (written_term t) (space ∷ equal ∷ space ∷ written_term u) ws))
    (equation (no_group t behind refl) ((readings.spells t).alone behind) ((readings.spells u).alone ws))

freshness_simple : (t u : Term) → IsSimpleAt OnLeft (Freshness t u)
freshness_simple t u ws h =
    let behind = space ∷ fresh_word ∷ space ∷ (written_term u ++ ws) in
    subst (λ vs. IsSimple (symbols_of vs) (Freshness t u) (symbols_of ws)) (sym (append_assoc (written_term t) (space ∷ fresh_word ∷ space ∷ written_term u) ws))
    (freshness (no_group t behind refl) ((readings.spells t).alone behind) ((readings.spells u).alone ws))

-- inside parentheses
inside : (g : Goal) → Spells g → (ws : List Written) → IsGoal (symbols_of ((written_goal_at Alone g ++ round_close ∷ []) ++ ws)) g (symbols_of (round_close ∷ ws))
inside g s ws =
    subst (λ vs. IsGoal (symbols_of vs) g (symbols_of (round_close ∷ ws))) (sym (append_assoc (written_goal_at Alone g) (round_close ∷ []) ws))
    (goal_of_conjs g (symbols_of (written_goal_at Alone g ++ round_close ∷ ws)) (symbols_of (round_close ∷ ws)) (s.conjs (round_close ∷ ws) refl))

some_simple : (w : List ℕ) (g : Goal) → w ≢ blank → Spells g → IsSimpleAt OnLeft (Some_variable w g)
some_simple w g named s ws h = some_variable named (inside g s ws)

new_simple : (w : List ℕ) (g : Goal) → Spells g → IsSimpleAt OnLeft (New_name w g)
new_simple w g s ws h = new_name (inside g s ws)

-- a goal that is alone, in parentheses
grouped : (g : Goal) (vs ws : List Written) → vs ≡ written_goal_at Alone g → NoRelation ws → ((us : List Written) → NoRelation us → AreConjs (symbols_of (written_goal_at Alone g ++ us)) (disj_parts g) (symbols_of us))
    → IsSimple (symbols_of ((round_open ∷ (vs ++ round_close ∷ [])) ++ ws)) g (symbols_of ws)
grouped g vs ws e h conjs =
    let begins = group_begins (written_goal_at Alone g) ws (goal_matched Alone g) ∙ h in
    subst (λ us. IsSimple (symbols_of ((round_open ∷ (us ++ round_close ∷ [])) ++ ws)) g (symbols_of ws)) (sym e)
    (subst (λ us. IsSimple (symbols_of (round_open ∷ us)) g (symbols_of ws)) (sym (append_assoc (written_goal_at Alone g) (round_close ∷ []) ws))
    (in_parentheses begins (goal_of_conjs g (symbols_of (written_goal_at Alone g ++ round_close ∷ ws)) (symbols_of (round_close ∷ ws)) (conjs (round_close ∷ ws) refl))))

both_simples : (g h : Goal) → Spells g → Spells h → (ws : List Written) → NoRelation ws → AreSimples (symbols_of (written_goal_at BehindComma (Both g h) ++ ws)) (g ∷ conj_parts h) (symbols_of ws)
both_simples g h first second ws n =
    subst (λ vs. AreSimples (symbols_of vs) (g ∷ conj_parts h) (symbols_of ws)) (sym (append_assoc (written_goal_at OnLeft g) (comma ∷ space ∷ written_goal_at BehindComma h) ws))
    (next_simple (first.simple (comma ∷ space ∷ (written_goal_at BehindComma h ++ ws)) refl) (second.simples ws n))

both_conjs : (g h : Goal) → Spells g → Spells h → (ws : List Written) → NoRelation ws → AreConjs (symbols_of (written_goal_at Alone (Both g h) ++ ws)) (Both g h ∷ []) (symbols_of ws)
both_conjs g h first second ws n =
    last_conj (subst (λ k. IsConj (symbols_of (written_goal_at Alone (Both g h) ++ ws)) k (symbols_of ws)) (conj_whole g h) (conjunction g (conj_parts h) (both_simples g h first second ws n)))

either_conjs : (g h : Goal) → Spells g → Spells h → (ws : List Written) → NoRelation ws → AreConjs (symbols_of (written_goal_at Alone (Either g h) ++ ws)) (g ∷ disj_parts h) (symbols_of ws)
either_conjs g h first second ws n =
    subst (λ vs. AreConjs (symbols_of vs) (g ∷ disj_parts h) (symbols_of ws)) (sym (append_assoc (written_goal_at OnLeft g) (space ∷ semicolon ∷ space ∷ written_goal_at Alone h) ws))
    (next_conj (conj_of_simple g (first.simple (space ∷ semicolon ∷ space ∷ (written_goal_at Alone h ++ ws)) refl)) (second.conjs ws n))

both_spells : (g h : Goal) → Spells g → Spells h → Spells (Both g h)
both_spells g h first second = record {
  simple = λ ws n. grouped (Both g h) (written_goal_at Alone (Both g h)) ws refl n (both_conjs g h first second);
  simples = both_simples g h first second;
  conjs = both_conjs g h first second;
}

either_spells : (g h : Goal) → Spells g → Spells h → Spells (Either g h)
either_spells g h first second = record {
  simple = λ ws n. grouped (Either g h) (written_goal_at Alone (Either g h)) ws refl n (either_conjs g h first second);
  simples = λ ws n. last_simple (grouped (Either g h) (written_goal_at Alone (Either g h)) ws refl n (either_conjs g h first second));
  conjs = either_conjs g h first second;
}

pub spells : (g : Goal) → IsWordedGoal g → Spells g
spells (Atom w ts) h = one_way (Atom w ts) (atom_simple w ts) refl refl refl refl
spells (Equation t u) h = one_way (Equation t u) (equation_simple t u) refl refl refl refl
spells (Freshness t u) h = one_way (Freshness t u) (freshness_simple t u) refl refl refl refl
spells (Both g k) h = both_spells g k (spells g h.0) (spells k h.1)
spells (Either g k) h = either_spells g k (spells g h.0) (spells k h.1)
spells (Some_variable w g) h = one_way (Some_variable w g) (some_simple w g h.1 (spells g h.2)) refl refl refl refl
spells (New_name w g) h = one_way (New_name w g) (new_simple w g (spells g h.1)) refl refl refl refl

pub goal_is_read : (g : Goal) → IsWordedGoal g → IsGoal (symbols_of (written_goal g)) g []
goal_is_read g h =
    subst (λ vs. IsGoal (symbols_of vs) g []) (append-nil (written_goal g)) (goal_of_conjs g (symbols_of (written_goal g ++ [])) [] ((spells g h).conjs [] refl))
