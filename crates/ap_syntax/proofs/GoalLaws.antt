-- What is read is in the grammar of goals, and what is in it is read.
use Rattle.std.proofs.Common.{◌≡◌, ◌≢◌, ℕ, zero, suc, ◌<◌, Bool, true, false, List, [], ◌∷◌, length, Option, None, Some, IfSome, refl, sym, ap, ◌∙◌, arith, subst, if◌then◌else◌}
use Rattle.std.proofs.lemmas.Slice.Eq.{bytes_eq-Decides}
use Rattle.std.proofs.lemmas.Bool.Decides.{not_from_Decides}
use Rattle.std.specs.Str.{bytes_eq}
use Rattle.ap_trees.specs.Readers.{SymbolReader, ◌>>=◌, with_before, further, separated, after_comma, after_close, at_end, after_open}
use Rattle.ap_trees.specs.Symbols.{Sym, Var, Ident, New, Exists, Open, Close, Comma, Semicolon, Equal, Fresh, syms, sym as symbol}
use Rattle.ap_trees.specs.Terms.{Term}
use Rattle.ap_trees.specs.TermReader.{read_term}
use Rattle.ap_trees.specs.TermGrammar.{IsTerm, AreTerms}
use Rattle.ap_trees.specs.Goals.{Goal, Equation, Freshness, Both, Either, Some_variable, New_name}
use Rattle.std.proofs.lemmas.List.{length-map}
use Rattle.ap_trees.specs.declared.symbols.Symbol.{Symbol}
use Rattle.ap_trees.proofs.Lists.{some_is}
use Rattle.ap_trees.proofs.TypeLaws.{bind_if, close_is}
use Rattle.ap_trees.proofs.TermLaws.{term_sound, terms_sound, term_shrinks, terms_shrink, open_is, if_also}
use Rattle.ap_syntax.specs.Marks.{after_semicolon, after_equal, after_fresh, read_ident, read_bound, opened_ident, opened_variable, unless_blank, blank}
use Rattle.ap_syntax.specs.Matching.{begins_term, after_group, unless_term}
use Rattle.ap_syntax.specs.declared.joining.Join.{Join}
use Rattle.ap_syntax.specs.declared.joining.Join.TheVariants as joins
use Rattle.ap_syntax.specs.Joins.{read_part}
use Rattle.ap_syntax.specs.GoalGrammar.{IsAtom, bare, with_arguments, IsGoal, disjunction, AreConjs, last_conj, next_conj, IsConj, conjunction, AreSimples, last_simple, next_simple, IsSimple, new_name, some_variable, in_parentheses, equation, freshness, an_atom}
use Rattle.ap_syntax.specs.GoalReader.{terms_inside, atom_arguments, read_atom, right_side, atom_goal, relation_or_atom, read_flat, simple_by, goal_inside, new_goal, exists_goal, read_simple, joined_by, read_conj, read_disj, read_goal, all_goal, first_term}

terms_inside_sound : (ts : List Sym) → IfSome (terms_inside ts) (λ x. AreTerms ts x.0 (Close ∷ x.1))
unfolding terms_inside
terms_inside_sound ts =
    bind_if (separated after_comma (read_term (length ts)) (length ts) ts) _ _ _ (terms_sound (read_term (length ts)) (term_sound (length ts)) (length ts) ts)
    (λ parts h. bind_if (after_close parts.1) _ _ _ (close_is parts.1) (λ rest e. subst (AreTerms ts parts.0) e h))

pub ident_is : (ts : List Sym) → IfSome (read_ident ts) (λ x. ts ≡ Ident x.0 ∷ x.1)
ident_is (Ident w ∷ us) = refl
ident_is ts = tt

arguments_sound : (w : List ℕ) (ts : List Sym) → IfSome (atom_arguments ts) (λ x. IsAtom (Ident w ∷ ts) w x.0 x.1)
unfolding atom_arguments
arguments_sound w (Open ∷ us) = if_also (terms_inside us) _ _ (terms_inside_sound us) (λ x h. with_arguments h)
arguments_sound w ts = bare

pub atom_sound : (ts : List Sym) → IfSome (read_atom ts) (λ x. IsAtom ts x.0.0 x.0.1 x.1)
unfolding read_atom
atom_sound ts =
    bind_if (read_ident ts) _ _ _ (ident_is ts)
    (λ word e. bind_if (atom_arguments word.1) _ _ _ (arguments_sound word.0 word.1) (λ args h. subst (λ us. IsAtom us word.0 args.0 args.1) (sym e) h))

right_sound : (relation : Term → Term → Goal) (left : Term) (ts : List Sym) (P : Goal → List Sym → Type 0) → ((u : Term) (rest : List Sym) → IsTerm ts u rest → P (relation left u) rest)
    → IfSome (right_side relation left ts) (λ x. P x.0 x.1)
unfolding right_side
right_sound relation left ts P gives = bind_if (first_term ts) _ _ _ (term_sound (length ts) ts) (λ right h. gives right.0 right.1 h)

atom_goal_sound : (ts : List Sym) → IfSome (atom_goal ts) (λ x. IsSimple ts x.0 x.1)
unfolding atom_goal
atom_goal_sound ts = bind_if (read_atom ts) _ _ _ (atom_sound ts) (λ x h. an_atom h)

relation_sound : (ts : List Sym) → after_group ts ≡ None → (t : Term) (rest : List Sym) → IsTerm ts t rest → IfSome (relation_or_atom ts t (after_equal rest) (after_fresh rest)) (λ x. IsSimple ts x.0 x.1)
relation_sound ts none t (Equal ∷ us) h = right_sound Equation t us (IsSimple ts) (λ u rest g. equation none h g)
relation_sound ts none t (Fresh ∷ us) h = right_sound Freshness t us (IsSimple ts) (λ u rest g. freshness none h g)
relation_sound ts none t rest h = atom_goal_sound ts

flat_sound : (ts : List Sym) → after_group ts ≡ None → IfSome (read_flat ts) (λ x. IsSimple ts x.0 x.1)
unfolding read_flat
flat_sound ts none = bind_if (first_term ts) _ _ _ (term_sound (length ts) ts) (λ left h. relation_sound ts none left.0 left.1 h)

-- a reader whose readings are goals
abbrev pub Sound : SymbolReader Goal → Type 0
Sound read = (ts : List Sym) → IfSome (read ts) (λ x. IsGoal ts x.0 x.1)

inside_sound : (read : SymbolReader Goal) → Sound read → (ts : List Sym) → IfSome (goal_inside read ts) (λ x. IsGoal ts x.0 (Close ∷ x.1))
unfolding goal_inside
inside_sound read sound ts = bind_if (read ts) _ _ _ (sound ts) (λ goal h. bind_if (after_close goal.1) _ _ _ (close_is goal.1) (λ rest e. subst (IsGoal ts goal.0) e h))

opened_ident_is : (ts : List Sym) → IfSome (opened_ident ts) (λ x. ts ≡ Ident x.0 ∷ Open ∷ x.1)
unfolding opened_ident
opened_ident_is ts = bind_if (read_ident ts) _ _ _ (ident_is ts) (λ word e. bind_if (after_open word.1) _ _ _ (open_is word.1) (λ us o. e ∙ ap (λ vs. Ident word.0 ∷ vs) o))

new_sound : (read : SymbolReader Goal) → Sound read → (ts : List Sym) → IfSome (new_goal read ts) (λ x. IsSimple (New ∷ ts) x.0 x.1)
unfolding new_goal
new_sound read sound ts =
    bind_if (opened_ident ts) _ _ _ (opened_ident_is ts)
    (λ word e. bind_if (goal_inside read word.1) _ _ _ (inside_sound read sound word.1)
    (λ goal h. subst (λ vs. IsSimple (New ∷ vs) (New_name word.0 goal.0) goal.1) (sym e) (new_name h)))

unless_by : (w : List ℕ) (ts us : List Sym) (b : Bool) → bytes_eq w blank ≡ b → us ≡ Var w ∷ ts → IfSome {T = List ℕ × List Sym} (if b then None else Some (w, ts)) (λ x. (x.0 ≢ blank) × (us ≡ Var x.0 ∷ x.1))
unless_by w ts us true is e = tt
unless_by w ts us false is e = (not_from_Decides (bytes_eq w blank) (bytes_eq-Decides w blank) is, e)

unless_is : (w : List ℕ) (ts us : List Sym) → us ≡ Var w ∷ ts → IfSome (unless_blank w ts) (λ x. (x.0 ≢ blank) × (us ≡ Var x.0 ∷ x.1))
unless_is w ts us e = unless_by w ts us (bytes_eq w blank) refl e

bound_is : (ts : List Sym) → IfSome (read_bound ts) (λ x. (x.0 ≢ blank) × (ts ≡ Var x.0 ∷ x.1))
unfolding read_bound
bound_is (Var w ∷ us) = unless_is w us (Var w ∷ us) refl
bound_is ts = tt

opened_variable_is : (ts : List Sym) → IfSome (opened_variable ts) (λ x. (x.0 ≢ blank) × (ts ≡ Var x.0 ∷ Open ∷ x.1))
unfolding opened_variable
opened_variable_is ts =
    bind_if (read_bound ts) _ _ _ (bound_is ts)
    (λ word e. bind_if (after_open word.1) _ _ _ (open_is word.1) (λ us o. (e.0, e.1 ∙ ap (λ vs. Var word.0 ∷ vs) o)))

exists_sound : (read : SymbolReader Goal) → Sound read → (ts : List Sym) → IfSome (exists_goal read ts) (λ x. IsSimple (Exists ∷ ts) x.0 x.1)
unfolding exists_goal
exists_sound read sound ts =
    bind_if (opened_variable ts) _ _ _ (opened_variable_is ts)
    (λ word e. bind_if (goal_inside read word.1) _ _ _ (inside_sound read sound word.1)
    (λ goal h. subst (λ vs. IsSimple (Exists ∷ vs) (Some_variable word.0 goal.0) goal.1) (sym e.1) (some_variable e.0 h)))

unless_term_is : (ts us : List Sym) (b : Bool) → begins_term us ≡ b → ts ≡ Open ∷ us → IfSome (unless_term us b) (λ vs. (begins_term vs ≡ false) × (ts ≡ Open ∷ vs))
unless_term_is ts us true b e = tt
unless_term_is ts us false b e = (b, e)

group_is : (ts : List Sym) → IfSome (after_group ts) (λ us. (begins_term us ≡ false) × (ts ≡ Open ∷ us))
unfolding after_group
group_is ts = bind_if (after_open ts) _ _ _ (open_is ts) (λ us o. unless_term_is ts us (begins_term us) refl o)

group_sound : (read : SymbolReader Goal) → Sound read → (ts : List Sym) (group : Option (List Sym)) → after_group ts ≡ group → IfSome (simple_by read ts None None group) (λ x. IsSimple ts x.0 x.1)
group_sound read sound ts None e = flat_sound ts e
group_sound read sound ts (Some us) e =
    let is : (begins_term us ≡ false) × (ts ≡ Open ∷ us) = subst (λ o. IfSome o (λ us. (begins_term us ≡ false) × (ts ≡ Open ∷ us))) e (group_is ts) in
    if_also (goal_inside read us) _ _ (inside_sound read sound us) (λ x h. subst (λ vs. IsSimple vs x.0 x.1) (sym is.1) (in_parentheses is.0 h))

simple_sound : (read : SymbolReader Goal) → Sound read → (ts : List Sym) → IfSome (read_simple read ts) (λ x. IsSimple ts x.0 x.1)
unfolding read_simple
simple_sound read sound (New ∷ us) = new_sound read sound us
simple_sound read sound (Exists ∷ us) = exists_sound read sound us
simple_sound read sound ts = group_sound read sound ts (after_group ts) refl

further_simples : (others : SymbolReader (List Goal)) → ((us : List Sym) → IfSome (others us) (λ y. AreSimples us y.0 y.1)) → (ts : List Sym) (x : Goal) (after : List Sym) → IsSimple ts x after
    → IfSome (with_before (x ∷ []) (further after_comma others after)) (λ y. AreSimples ts y.0 y.1)
further_simples others sound ts x (Comma ∷ us) h = bind_if (others us) _ _ _ (sound us) (λ y g. next_simple h g)
further_simples others sound ts x after h = last_simple h

simples_sound : (read : SymbolReader Goal) → Sound read → (k : ℕ) (ts : List Sym) → IfSome (separated after_comma (read_simple read) k ts) (λ x. AreSimples ts x.0 x.1)
unfolding separated
simples_sound read sound zero ts = tt
simples_sound read sound (suc k) ts =
    bind_if (read_simple read ts) _ _ _ (simple_sound read sound ts) (λ first h. further_simples (separated after_comma (read_simple read) k) (simples_sound read sound k) ts first.0 first.1 h)

conj_of : (ts : List Sym) (gs : List Goal) (rest : List Sym) → AreSimples ts gs rest → IfSome {T = Goal × List Sym} (joined_by Both gs >>= (λ whole. Some (whole, rest))) (λ x. IsConj ts x.0 x.1)
conj_of ts [] rest h = tt
conj_of ts (g ∷ gs) rest h = conjunction g gs h

conj_sound : (read : SymbolReader Goal) → Sound read → (ts : List Sym) → IfSome (read_conj read ts) (λ x. IsConj ts x.0 x.1)
unfolding read_conj
conj_sound read sound ts = bind_if (separated after_comma (read_simple read) (length ts) ts) _ _ _ (simples_sound read sound (length ts) ts) (λ parts h. conj_of ts parts.0 parts.1 h)

further_conjs : (others : SymbolReader (List Goal)) → ((us : List Sym) → IfSome (others us) (λ y. AreConjs us y.0 y.1)) → (ts : List Sym) (x : Goal) (after : List Sym) → IsConj ts x after
    → IfSome (with_before (x ∷ []) (further after_semicolon others after)) (λ y. AreConjs ts y.0 y.1)
further_conjs others sound ts x (Semicolon ∷ us) h = bind_if (others us) _ _ _ (sound us) (λ y g. next_conj h g)
further_conjs others sound ts x after h = last_conj h

conjs_sound : (read : SymbolReader Goal) → Sound read → (k : ℕ) (ts : List Sym) → IfSome (separated after_semicolon (read_conj read) k ts) (λ x. AreConjs ts x.0 x.1)
unfolding separated
conjs_sound read sound zero ts = tt
conjs_sound read sound (suc k) ts =
    bind_if (read_conj read ts) _ _ _ (conj_sound read sound ts) (λ first h. further_conjs (separated after_semicolon (read_conj read) k) (conjs_sound read sound k) ts first.0 first.1 h)

disj_of : (ts : List Sym) (gs : List Goal) (rest : List Sym) → AreConjs ts gs rest → IfSome {T = Goal × List Sym} (joined_by Either gs >>= (λ whole. Some (whole, rest))) (λ x. IsGoal ts x.0 x.1)
disj_of ts [] rest h = tt
disj_of ts (g ∷ gs) rest h = disjunction g gs h

disj_sound : (read : SymbolReader Goal) → Sound read → (ts : List Sym) → IfSome (read_disj read ts) (λ x. IsGoal ts x.0 x.1)
unfolding read_disj
disj_sound read sound ts = bind_if (separated after_semicolon (read_conj read) (length ts) ts) _ _ _ (conjs_sound read sound (length ts) ts) (λ parts h. disj_of ts parts.0 parts.1 h)

-- What is read is in the grammar.
pub goal_sound : (n : ℕ) → Sound (read_goal n)
unfolding read_goal
goal_sound zero ts = tt
goal_sound (suc n) ts = disj_sound (read_goal n) (goal_sound n) ts

at_end_sound : {ts : List Sym} {g : Goal} (rest : List Sym) → IsGoal ts g rest → IfSome (at_end g rest) (λ g. IsGoal ts g [])
at_end_sound [] h = h
at_end_sound (t ∷ rest) h = tt

pub all_goal_sound : (ts : List Sym) → IfSome (all_goal ts) (λ g. IsGoal ts g [])
unfolding all_goal
all_goal_sound ts = bind_if (read_goal (length ts) ts) _ _ _ (goal_sound (length ts) ts) (λ x h. at_end_sound x.1 h)

pub atom_shrinks : {ts rest : List Sym} {w : List ℕ} {args : List Term} → IsAtom ts w args rest → length rest < length ts
atom_shrinks bare = omega arith
atom_shrinks (with_arguments h) = omega (arith, terms_shrink h)

mutual
  pub goal_shrinks : {ts rest : List Sym} {g : Goal} → IsGoal ts g rest → length rest < length ts
  goal_shrinks (disjunction first others h) = conjs_shrink h

  pub conjs_shrink : {ts rest : List Sym} {gs : List Goal} → AreConjs ts gs rest → length rest < length ts
  conjs_shrink (last_conj h) = conj_shrinks h
  conjs_shrink (next_conj h g) = omega (arith, conj_shrinks h, conjs_shrink g)

  pub conj_shrinks : {ts rest : List Sym} {g : Goal} → IsConj ts g rest → length rest < length ts
  conj_shrinks (conjunction first others h) = simples_shrink h

  pub simples_shrink : {ts rest : List Sym} {gs : List Goal} → AreSimples ts gs rest → length rest < length ts
  simples_shrink (last_simple h) = simple_shrinks h
  simples_shrink (next_simple h g) = omega (arith, simple_shrinks h, simples_shrink g)

  pub simple_shrinks : {ts rest : List Sym} {g : Goal} → IsSimple ts g rest → length rest < length ts
  simple_shrinks (new_name h) = omega (arith, goal_shrinks h)
  simple_shrinks (some_variable other h) = omega (arith, goal_shrinks h)
  simple_shrinks (in_parentheses begins h) = omega (arith, goal_shrinks h)
  simple_shrinks (equation group h g) = omega (arith, term_shrinks h, term_shrinks g)
  simple_shrinks (freshness group h g) = omega (arith, term_shrinks h, term_shrinks g)
  simple_shrinks (an_atom h) = atom_shrinks h

-- What follows what is read is shorter.
pub atom_shorter : (ts us : List Symbol) (x : List ℕ × List Term) → read_atom (syms ts) ≡ Some (x, syms us) → length us < length ts
atom_shorter ts us x got =
    let h : IsAtom (syms ts) x.0 x.1 (syms us) = some_is (read_atom (syms ts)) (x, syms us) (λ y. IsAtom (syms ts) y.0.0 y.0.1 y.1) got (atom_sound (syms ts)) in
    omega (arith, atom_shrinks h, length-map ts symbol, length-map us symbol)

pub goal_shorter : (n : ℕ) (ts us : List Symbol) (g : Goal) → read_goal n (syms ts) ≡ Some (g, syms us) → length us < length ts
goal_shorter n ts us g got =
    let h : IsGoal (syms ts) g (syms us) = some_is (read_goal n (syms ts)) (g, syms us) (λ y. IsGoal (syms ts) y.0 y.1) got (goal_sound n (syms ts)) in
    omega (arith, goal_shrinks h, length-map ts symbol, length-map us symbol)

pub part_shorter : (join : Join) (n : ℕ) (ts us : List Symbol) (g : Goal) → read_part join (read_goal n) (syms ts) ≡ Some (g, syms us) → length us < length ts
part_shorter joins.Both n ts us g got =
    let h : IsSimple (syms ts) g (syms us) = some_is (read_simple (read_goal n) (syms ts)) (g, syms us) (λ y. IsSimple (syms ts) y.0 y.1) got (simple_sound (read_goal n) (goal_sound n) (syms ts)) in
    omega (arith, simple_shrinks h, length-map ts symbol, length-map us symbol)
part_shorter joins.Either n ts us g got =
    let h : IsConj (syms ts) g (syms us) = some_is (read_conj (read_goal n) (syms ts)) (g, syms us) (λ y. IsConj (syms ts) y.0 y.1) got (conj_sound (read_goal n) (goal_sound n) (syms ts)) in
    omega (arith, conj_shrinks h, length-map ts symbol, length-map us symbol)
