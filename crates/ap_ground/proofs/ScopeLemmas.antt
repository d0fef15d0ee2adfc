-- What is free in a typed item is one of its free identifiers.
use Rattle.std.proofs.Common.{subst, ◌≡◌, ◌≢◌, ◌⊎◌, ◌+◌, ℕ, zero, suc, Bool, true, false, ◌||◌, not, List, [], ◌∷◌, ◌++◌, refl, sym, ap, ap₂, ◌∙◌, inl, inr, true≢false, arith}
use Rattle.std.specs.Prelude.{if◌then◌else◌, ◌==◌, Option, Some, None}
use Rattle.std.proofs.lemmas.Bool.Decides.{eqb_tells}
use Rattle.ap_defs.specs.Answers.{kind_at}
use Rattle.ap_defs.specs.Goals.{NominalGoal, NominalClause, Clauses, clauses_of, succeed, atom, equal, fresh, both, either, exists, new}
use Rattle.ap_defs.specs.GroundProofs.{clause_at}
use Rattle.ap_defs.specs.Occurrences.{free_names, names_of_terms, names_then, without_name}
use Rattle.ap_defs.specs.Permutations.{has_name, left_name, name_eq, names_of, right_name}
use Rattle.ap_defs.specs.Printing.{constructor_in}
use Rattle.ap_defs.specs.Renaming.{local_names, name_unless}
use Rattle.ap_defs.specs.Resolution.{kinds_of}
use Rattle.ap_defs.specs.Terms.{NominalTerm, abs, app, name, pair, susp, unit}
use Rattle.ap_defs.specs.Types as types
use Rattle.ap_defs.specs.Types.{NominalConstructor, NominalKind, NominalLocal, NominalSignature, NominalType}
use Rattle.ap_defs.specs.Typing.{IsApplication, Want, arguments, more, nothing, one}
use Rattle.ap_defs.specs.declared.terms.Name.{Name}
use Rattle.ap_defs.specs.declared.terms.Swap.{Swap}
use Rattle.ap_program.specs.RawTyping.{AreSwapsOf, HasTermType, IsNameOf, IsTypedTerm}
use Rattle.ap_program.specs.Typed.{AreArguments, AreTypedClauses, AreTypedFrom, HaveTypes, IsScoped, IsTypedClause, IsTypedGoal, is_marked, predicate_at, stands_free, stands_in_some, stands_in_swaps, stands_in_term, term_form}
use Rattle.ap_theory.proofs.BooleanLemmas.{and_both, false_if_not, or_cases, or_if_left, or_if_right}
use Rattle.ap_theory.proofs.DisagreementLemmas.{has_front, has_name-append}
use Rattle.ap_theory.proofs.PermutationLemmas.{name_eq_same, same_name_parts}
use Rattle.ap_theory.proofs.TermLemmas.{same_number}

module _ (cs : List NominalConstructor) (preds : List (List NominalType)) (kinds : List NominalKind) (a : Name) where
  -- the name is an identifier of its sort
  abbrev IsOwn : Type 0
  IsOwn = IsNameOf kinds a a.sort

  own : (b : Name) (s : ℕ) → a ≡ b → IsNameOf kinds b s → IsOwn
  own b s e h = (refl, ap (λ (c : Name). kind_at kinds c.num) e ∙ h.1 ∙ ap (λ n. Some (types.name n)) (sym h.0 ∙ ap (λ (c : Name). c.sort) (sym e)))

  -- It stands in the term as an identifier, or it is among the names that follow.
  abbrev StandsOr : Bool → List Name → Type 0
  StandsOr b as' = (IsOwn × (b ≡ true)) ⊎ (has_name a as' ≡ true)

  stands_name : (b : Name) (s : ℕ) (as' : List Name) → IsNameOf kinds b s → has_name a (b ∷ as') ≡ true → StandsOr (a.num == b.num) as'
  stands_name b s as' h k = elim (or_cases (name_eq a b) (has_name a as') k) [
    | inl e ↦ let i : a ≡ b = name_eq_same a b e in inl (own b s i h, same_number a.num b.num (ap (λ (c : Name). c.num) i))
    | inr e ↦ inr e
  ]

  -- where the first test is true, or what follows has the second one true
  stands_then : (b c : Bool) (as' bs : List Name) → StandsOr b as' → (has_name a as' ≡ true → StandsOr c bs) → StandsOr (b || c) bs
  stands_then b c as' bs (inl h) k = inl (h.0, or_if_left b c h.1)
  stands_then b c as' bs (inr h) k = elim (k h) [ inl l ↦ inl (l.0, or_if_right b c l.1) | inr l ↦ inr l ]

  stands_swaps : (p : List Swap) (as' : List Name) → AreSwapsOf kinds p → has_name a (names_of p ++ as') ≡ true → StandsOr (stands_in_swaps a.num p) as'
  stands_swaps [] as' h k = inr k
  stands_swaps (s ∷ p) as' h k =
      stands_then ((a.num == s.left) || (a.num == s.right)) (stands_in_swaps a.num p) (names_of p ++ as') as'
      (stands_then (a.num == s.left) (a.num == s.right) (right_name s ∷ names_of p ++ as') (names_of p ++ as')
      (stands_name (left_name s) s.sort (right_name s ∷ names_of p ++ as') h.0 k) (stands_name (right_name s) s.sort (names_of p ++ as') h.1))
      (stands_swaps p as' h.2)

  abbrev Stands : NominalTerm → Type 0
  Stands t = (w : Want) (as' : List Name) → IsTypedTerm cs kinds t w → has_name a (names_then t as') ≡ true → StandsOr (stands_in_term a.num t) as'

  stands_application : (t : NominalTerm) → Stands t → (o : Option NominalConstructor) (d : ℕ) (as' : List Name)
      → IsApplication (IsTypedTerm cs kinds t) o d → has_name a (names_then t as') ≡ true → StandsOr (stands_in_term a.num t) as'
  stands_application t i None d as' h k = absurd h
  stands_application t i (Some c) d as' h k = i (arguments c.args) as' h.1 k

  pub stands_term : (t : NominalTerm) (w : Want) (as' : List Name) → IsTypedTerm cs kinds t w → has_name a (names_then t as') ≡ true → StandsOr (stands_in_term a.num t) as'
  stands_term unit w as' h k = inr k
  stands_term (name b) (one (types.names s)) as' h k = stands_name b s as' h k
  stands_term (pair t u) (one (types.pair b c)) as' h k =
      stands_then (stands_in_term a.num t) (stands_in_term a.num u) (names_then u as') as' (stands_term t (one b) (names_then u as') h.0 k) (stands_term u (one c) as' h.1)
  stands_term (pair t u) (more b w) as' h k =
      stands_then (stands_in_term a.num t) (stands_in_term a.num u) (names_then u as') as' (stands_term t (one b) (names_then u as') h.0 k) (stands_term u w as' h.1)
  stands_term (app zero t) (one (types.list b)) as' h k = stands_term t nothing as' h k
  stands_term (app (suc zero) t) (one (types.list b)) as' h k = stands_term t (more b (one (types.list b))) as' h k
  stands_term (app f t) (one (types.base d)) as' h k = stands_application t (stands_term t) (constructor_in cs f) d as' h k
  stands_term (abs b t) (one (types.abs s c)) as' h k =
      stands_then (a.num == b.num) (stands_in_term a.num t) (names_then t as') as' (stands_name b s (names_then t as') h.0 k) (stands_term t (one c) as' h.1)
  stands_term (susp p x) (one b) as' h k = elim (stands_swaps p as' h.0 k) [ inl l ↦ inl (l.0, or_if_left (stands_in_swaps a.num p) (a.num == x.num) l.1) | inr l ↦ inr l ]
  stands_term _ _ as' h k = absurd h

  -- where nothing follows
  stands_alone : (b : Bool) → StandsOr b [] → IsOwn × (b ≡ true)
  stands_alone b (inl h) = h
  stands_alone b (inr h) = absurd (true≢false (sym h))

  stands_terms : (ts : List NominalTerm) (as' : List NominalType) → HaveTypes (HasTermType cs kinds) ts as' → has_name a (names_of_terms ts) ≡ true
      → StandsOr (stands_in_some stands_in_term a.num ts) []
  stands_terms [] [] h k = inr k
  stands_terms (t ∷ ts) (b ∷ bs) h k =
      stands_then (stands_in_term a.num t) (stands_in_some stands_in_term a.num ts) (names_of_terms ts) [] (stands_term t (one b) (names_of_terms ts) h.0 k) (stands_terms ts bs h.1)
  stands_terms _ _ h k = absurd h

  pub stands_arguments : (ts : List NominalTerm) (o : Option (List NominalType)) → AreArguments (HasTermType cs kinds) ts o → has_name a (names_of_terms ts) ≡ true
      → IsOwn × (stands_in_some stands_in_term a.num ts ≡ true)
  stands_arguments ts None h k = absurd h
  stands_arguments ts (Some as') h k = stands_alone (stands_in_some stands_in_term a.num ts) (stands_terms ts as' h k)

  stands_two : (t u : NominalTerm) (b c : NominalType) → HasTermType cs kinds t b → HasTermType cs kinds u c → has_name a (names_then t (names_then u [])) ≡ true
      → IsOwn × ((stands_in_term a.num t || stands_in_term a.num u) ≡ true)
  stands_two t u b c h i k =
      stands_alone (stands_in_term a.num t || stands_in_term a.num u)
      (stands_then (stands_in_term a.num t) (stands_in_term a.num u) (names_then u []) [] (stands_term t (one b) (names_then u []) h k) (stands_term u (one c) [] i))

  -- what is left without a name was there, and is another one
  without_apart : (b : Name) (bs : List Name) → has_name a (without_name b bs) ≡ true → (has_name a bs ≡ true) × (a ≢ b)
  without_apart b [] h = cc
  without_apart b (c ∷ bs) h =
      elim (name_eq b c) as (λ v. name_eq b c ≡ v → has_name a (if v then without_name b bs else (c ∷ without_name b bs)) ≡ true → ((name_eq a c || has_name a bs) ≡ true) × (a ≢ b)) [
        | true ↦ λ e k. let l = without_apart b bs k in (or_if_right (name_eq a c) (has_name a bs) l.0, l.1)
        | false ↦ λ e k. elim (or_cases (name_eq a c) (has_name a (without_name b bs)) k) [
          | inl i ↦ (or_if_left (name_eq a c) (has_name a bs) i, λ j. true≢false (sym i ∙ ap (λ x. name_eq x c) j ∙ e))
          | inr i ↦ let l = without_apart b bs i in (or_if_right (name_eq a c) (has_name a bs) l.0, l.1)
        ]
      ] refl h

  other_number : (m : ℕ) → (a.num ≡ m → ⊥) → not (a.num == m) ≡ true
  other_number m h = elim (eqb_tells a.num m) [ inl w ↦ absurd (h w.1) | inr w ↦ ap not w.0 ]

  kinds_same : (j k : NominalKind) → Some j ≡ Some k → j ≡ k
  kinds_same j k h = cc

  name_of_kind : (s r : ℕ) → types.name s ≡ types.name r → s ≡ r
  name_of_kind s r h = cc

  not_variable : (m : ℕ) (t : NominalType) → IsOwn → kind_at kinds m ≡ Some (types.var t) → a.num ≡ m → ⊥
  not_variable m t h k e =
      let l : Some (types.name a.sort) ≡ Some (types.var t) = sym h.1 ∙ ap (kind_at kinds) e ∙ k in
      cc

  not_brought : (b : Name) → IsOwn → IsNameOf kinds b b.sort → a ≢ b → a.num ≡ b.num → ⊥
  not_brought b h k n e =
      let l : Some (types.name a.sort) ≡ Some (types.name b.sort) = sym h.1 ∙ ap (kind_at kinds) e ∙ k.1 in
      n (same_name_parts a b (name_of_kind a.sort b.sort (kinds_same (types.name a.sort) (types.name b.sort) l)) e)

  pub stands_goal : (g : NominalGoal) → IsTypedGoal (HasTermType cs kinds) preds kinds g → has_name a (free_names g) ≡ true
      → IsOwn × (stands_free stands_in_term a.num g ≡ true)
  stands_goal succeed h k = cc
  stands_goal (atom p ts) h k = stands_arguments ts (predicate_at preds p) h k
  stands_goal (equal t u) h k = stands_two t u h.0 h.0 h.1 h.2 k
  stands_goal (fresh t u) h k = stands_two t u (types.names h.0.0) h.1.0 h.0.1 h.1.1 k
  stands_goal (both f g) h k = elim (or_cases (has_name a (free_names f)) (has_name a (free_names g)) (sym (has_name-append a (free_names f) (free_names g)) ∙ k)) [
    | inl l ↦ let i = stands_goal f h.0 l in (i.0, or_if_left (stands_free stands_in_term a.num f) (stands_free stands_in_term a.num g) i.1)
    | inr l ↦ let i = stands_goal g h.1 l in (i.0, or_if_right (stands_free stands_in_term a.num f) (stands_free stands_in_term a.num g) i.1)
  ]
  stands_goal (either f g) h k = elim (or_cases (has_name a (free_names f)) (has_name a (free_names g)) (sym (has_name-append a (free_names f) (free_names g)) ∙ k)) [
    | inl l ↦ let i = stands_goal f h.0 l in (i.0, or_if_left (stands_free stands_in_term a.num f) (stands_free stands_in_term a.num g) i.1)
    | inr l ↦ let i = stands_goal g h.1 l in (i.0, or_if_right (stands_free stands_in_term a.num f) (stands_free stands_in_term a.num g) i.1)
  ]
  stands_goal (exists x g) h k =
      let i = stands_goal g h.1 k in
      (i.0, and_both (not (a.num == x.num)) (stands_free stands_in_term a.num g) (other_number x.num (not_variable x.num h.0.0 i.0 h.0.1)) i.1)
  stands_goal (new b g) h k =
      let l = without_apart b (free_names g) k in
      let i = stands_goal g h.1 l.0 in
      (i.0, and_both (not (a.num == b.num)) (stands_free stands_in_term a.num g) (other_number b.num (not_brought b i.0 h.0 l.1)) i.1)

-- An identifier of kind name that isn't marked as bound is a free name.
unmarked_here : (s n : ℕ) (as' : List Name) (b : Bool) (k : NominalKind) → b ≡ false → k ≡ types.name s
    → has_name (record { sort = s; num = n }) (name_unless b k n as') ≡ true
unmarked_here s n as' b k e f =
    let a : Name = record { sort = s; num = n } in
    ap₂ (λ x y. has_name a (name_unless x y n as')) e f ∙ has_front a as'

unmarked_later : (a : Name) (n : ℕ) (as' : List Name) (b : Bool) (k : NominalKind) → has_name a as' ≡ true → has_name a (name_unless b k n as') ≡ true
unmarked_later a n as' false (types.name s) h = or_if_right _ (has_name a as') h
unmarked_later a n as' false (types.var t) h = h
unmarked_later a n as' true k h = h

unmarked_local : (locals : List NominalLocal) (n m s : ℕ) → kind_at (kinds_of locals) m ≡ Some (types.name s) → is_marked locals m ≡ false
    → has_name (record { sort = s; num = n + m }) (local_names n locals) ≡ true
unmarked_local [] n m s h k = cc
unmarked_local (l ∷ ls) n zero s h k =
    let i : n + 0 ≡ n = omega arith in
    let j : l.kind ≡ types.name s = cc in
    ap (λ m. has_name (record { sort = s; num = m }) (local_names n (l ∷ ls))) i ∙ unmarked_here s n (local_names (suc n) ls) l.bound l.kind k j
unmarked_local (l ∷ ls) n (suc m) s h k =
    let i : n + suc m ≡ suc n + m = omega arith in
    ap (λ m. has_name (record { sort = s; num = m }) (local_names n (l ∷ ls))) i
    ∙ unmarked_later (record { sort = s; num = suc n + m }) n (local_names (suc n) ls) l.bound l.kind (unmarked_local ls (suc n) m s h k)

module _ (sig : NominalSignature) (locals : List NominalLocal) (args : List NominalTerm) (goal : NominalGoal) (scoped : IsScoped stands_in_term locals args goal) where
  abbrev IsLocal : Name → Type 0
  IsLocal a = has_name a (local_names 0 locals) ≡ true

  own_local : (a : Name) → IsNameOf (kinds_of locals) a a.sort → is_marked locals a.num ≡ false → IsLocal a
  own_local a h k =
      let i : 0 + a.num ≡ a.num = omega arith in
      sym (ap (λ n. has_name (record { sort = a.sort; num = n }) (local_names 0 locals)) i) ∙ unmarked_local locals 0 a.num a.sort h.1 k

  pub arguments_local : (p : ℕ) → AreArguments (HasTermType sig.constructors (kinds_of locals)) args (predicate_at sig.predicates p)
      → (a : Name) → has_name a (names_of_terms args) ≡ true → IsLocal a
  arguments_local p h a k =
      let i = stands_arguments sig.constructors sig.predicates (kinds_of locals) a args (predicate_at sig.predicates p) h k in
      own_local a i.0 (false_if_not (is_marked locals a.num) (λ m. true≢false (sym i.1 ∙ (scoped.inside a.num m).0)))

  pub goal_local : IsTypedGoal (HasTermType sig.constructors (kinds_of locals)) sig.predicates (kinds_of locals) goal
      → (a : Name) → has_name a (free_names goal) ≡ true → IsLocal a
  goal_local h a k =
      let i = stands_goal sig.constructors sig.predicates (kinds_of locals) a goal h k in
      own_local a i.0 (false_if_not (is_marked locals a.num) (λ m. true≢false (sym i.1 ∙ (scoped.inside a.num m).1)))

-- A clause of a typed program is typed.
clause_typed : (sig : NominalSignature) (p : ℕ) (cs : List NominalClause) (k : ℕ) (c : NominalClause) → AreTypedClauses term_form sig p cs → clause_at cs k ≡ Some c → IsTypedClause term_form sig p c
clause_typed sig p [] k c h e = cc
clause_typed sig p (b ∷ cs) zero c h e = cc
clause_typed sig p (b ∷ cs) (suc zero) c h e = let i : b ≡ c = cc in subst (λ (x : NominalClause). IsTypedClause term_form sig p x) i h.0
clause_typed sig p (b ∷ cs) (suc (suc k)) c h e = clause_typed sig p cs (suc k) c h.1 e

pub program_clause_typed : (sig : NominalSignature) (n : ℕ) (css : Clauses) (q k : ℕ) (c : NominalClause) → AreTypedFrom term_form sig n css → clause_at (clauses_of css q) k ≡ Some c
    → (p : ℕ) × IsTypedClause term_form sig p c
program_clause_typed sig n [] q k c h e = cc
program_clause_typed sig n (cs ∷ css) zero k c h e = (n, clause_typed sig n cs k c h.0 e)
program_clause_typed sig n (cs ∷ css) (suc q) k c h e = program_clause_typed sig (suc n) css q k c h.1 e
