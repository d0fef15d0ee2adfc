-- The answer of a state that was found: its variables, their types, and the terms that stand for the variables of the state.
use Rattle.std.proofs.Common.{subst, ◌≡◌, ◌<◌, ◌≤◌, ℕ, zero, suc, Bool, true, false, ◌||◌, not, List, [], ◌∷◌, map, refl, sym, ap, ap₂, ◌∙◌, inl, inr, true≢false, arith}
use Rattle.std.proofs.lemmas.Bool.Decides.{nat_tests}
use Rattle.std.specs.Prelude.{if◌then◌else◌, nat_lt, Option, Some, None}
use Rattle.std.specs.List.{list_all}
use Rattle.ap_defs.specs.declared.terms.Cond.{Cond}
use Rattle.ap_defs.specs.declared.terms.Var.{Var}
use Rattle.ap_defs.specs.Answers.{add_var, ascending_vars, closed_term, kind_at, typed_vars, with_type}
use Rattle.ap_defs.specs.Canonical.{canonical_term}
use Rattle.ap_defs.specs.Freshness.{Conds, cond_eq, has_cond, var_eq}
use Rattle.ap_defs.specs.Permutations.{name_eq}
use Rattle.ap_defs.specs.Printing.{constructor_in}
use Rattle.ap_defs.specs.Resolution.{State}
use Rattle.ap_defs.specs.SameTerm.{SameTerm}
use Rattle.ap_defs.specs.Substitution.{Binding, bound_term, moved, occurs, under, ◌:=◌}
use Rattle.ap_defs.specs.Terms.{NominalTerm, abs, act_term, app, name, pair, susp, unit}
use Rattle.ap_defs.specs.Types as types
use Rattle.ap_defs.specs.Types.{NominalConstructor, NominalKind, NominalType}
use Rattle.ap_defs.specs.Typing.{IsApplication, IsTyped, VarTypes, Want, arguments, more, nothing, one}
use Rattle.ap_defs.specs.Unification.{has_var, vars_then}
use Rattle.ap_program.specs.RawTyping.{IsTypedTerm, IsVarOf}
use Rattle.ap_search.specs.FitStates.{IsFitState}
use Rattle.ap_search.specs.TypedStates.{AreTypedConds}
use Rattle.ap_theory.specs.Contexts.{Equal, Fresh, listed_context}
use Rattle.ap_theory.specs.Substitutions.{Agrees, Meets, Substitution, applied, bound_or_itself, substitution_of}
use Rattle.ap_theory.specs.Variables.{BindsOnce, BindsUnbound, EachCond, IsUnbound, is_bound}
use Rattle.ap_theory.proofs.BooleanLemmas.{and_both, or_cases, or_false, or_if_left, or_if_right}
use Rattle.ap_theory.proofs.EqualityLemmas.{Equal_sym, Equal_trans, Fresh_same, same_are_Equal}
use Rattle.ap_theory.proofs.IdempotenceLemmas.{bound_term_unbound, under_unbound}
use Rattle.ap_theory.proofs.PermutationLemmas.{name_eq_itself}
use Rattle.ap_theory.proofs.SameTermLemmas.{canonical_term_same, same_sym}
use Rattle.ap_theory.proofs.SubstitutionLemmas.{applied_congruent, under_applied}
use Rattle.ap_theory.proofs.TermLemmas.{act_term_none, same_var, var_same}
use Rattle.ap_ground.proofs.ListLemmas.{has_vars_then}
use Rattle.ap_checks.specs.Checks.{each_once}
use Rattle.ap_checks.specs.TypeTests.{type_beside}
use Rattle.ap_checks.proofs.OpenBackwardLemmas.{SolvesOpen}
use Rattle.ap_checks.proofs.ShownCheckedLemmas.{beside_among}

-- What stands for each variable.
abbrev pub closing_terms : State → Substitution
closing_terms s x = closed_term s (susp [] x)

moved_same : (x : Var) (o : Option NominalTerm) → SameTerm (canonical_term (moved [] x o)) (bound_or_itself x o)
moved_same x None = canonical_term_same (susp [] x)
moved_same x (Some u) = subst (λ v. SameTerm (canonical_term (act_term [] u)) v) (act_term_none u) (canonical_term_same (act_term [] u))

module _ (s : State) where
  abbrev bs : List Binding
  bs = s.bindings

  abbrev ds : Conds
  ds = s.conditions

  abbrev t : Substitution
  t = closing_terms s

  closing_under : (u : NominalTerm) → Equal (listed_context ds) (applied t u) (under bs u)
  closing_under u =
      subst (Equal (listed_context ds) (applied t u)) (sym (under_applied bs u))
      (applied_congruent (listed_context ds) t (substitution_of bs) u (λ x o. same_are_Equal (listed_context ds) (t x) (substitution_of bs x) (moved_same x (bound_term bs x))))

  closing_agrees : (cs : List Binding) → ((y : Var) → is_bound y cs ≡ true → bound_term bs y ≡ bound_term cs y) → BindsUnbound bs cs → BindsOnce cs → Agrees (listed_context ds) t cs
  closing_agrees [] m h o = tt
  closing_agrees ((x := u) ∷ cs) m h o =
      let itself = same_var x x refl in
      let bound : bound_term bs x ≡ Some u = m x (or_if_left (var_eq x x) (is_bound x cs) itself) ∙ ap (λ (b : Bool). if b then Some u else bound_term cs x) itself in
      let left : Equal (listed_context ds) (t x) u = subst (Equal (listed_context ds) (t x)) (ap (bound_or_itself x) bound) (same_are_Equal (listed_context ds) (t x) (substitution_of bs x) (moved_same x (bound_term bs x))) in
      let right : Equal (listed_context ds) (applied t u) u = subst (Equal (listed_context ds) (applied t u)) (under_unbound bs u h.0) (closing_under u) in
      (Equal_trans (listed_context ds) (t x) u (applied t u) left (Equal_sym (listed_context ds) (applied t u) u right), closing_agrees cs (λ y b. m y (or_if_right (var_eq y x) (is_bound y cs) b) ∙ further y b) h.1 o.1)
    where
      further : (y : Var) → is_bound y cs ≡ true → (if var_eq y x then Some u else bound_term cs y) ≡ bound_term cs y
      further y b =
          elim (var_eq y x) as (λ v. var_eq y x ≡ v → (if v then Some u else bound_term cs y) ≡ bound_term cs y) [
            | true ↦ λ e. absurd (true≢false (sym b ∙ ap (λ z. is_bound z cs) (var_same y x e) ∙ o.0))
            | false ↦ λ e. refl
          ] refl

  cond_itself : (c : Cond) (cs : Conds) → has_cond c (c ∷ cs) ≡ true
  cond_itself c cs = or_if_left (cond_eq c c) (has_cond c cs) (and_both (var_eq c.var c.var) (name_eq c.name c.name) (same_var c.var c.var refl) (name_eq_itself c.name))

  closing_meets : (cs : Conds) → ((c : Cond) → has_cond c cs ≡ true → has_cond c ds ≡ true) → EachCond (IsUnbound bs) cs → Meets (listed_context ds) t cs
  closing_meets [] h u = tt
  closing_meets (c ∷ cs) h u =
      let own : SameTerm (t c.var) (susp [] c.var) = subst (λ o. SameTerm (t c.var) (bound_or_itself c.var o)) (bound_term_unbound bs c.var u.0) (moved_same c.var (bound_term bs c.var)) in
      let there : Fresh (listed_context ds) c.name (susp [] c.var) = h c (cond_itself c cs) in
      (Fresh_same (listed_context ds) c.name (same_sym own) there, closing_meets cs (λ b k. h b (or_if_right (cond_eq b c) (has_cond b cs) k)) u.1)

  pub closing_open : IsFitState s → SolvesOpen s.conditions (closing_terms s) s
  closing_open fit = record {
    agreeing = closing_agrees s.bindings (λ y b. refl) fit.idempotent.0 fit.idempotent.1;
    meeting = closing_meets s.conditions (λ c k. k) fit.unbound;
  }

-- The types of an answer's variables.
pub beside_typed : (kinds : List NominalKind) (xs : List Var) (y : Var) (b : NominalType) → has_var y xs ≡ true → IsVarOf kinds y b → type_beside (typed_vars kinds xs) y ≡ Some b
beside_typed kinds [] y b h k = absurd (true≢false (sym h))
beside_typed kinds (x ∷ xs) y b h k =
    elim (or_cases (var_eq y x) (has_var y xs) h) [
      | inl i ↦
          let same : x ≡ y = sym (var_same y x i) in
          let of : kind_at kinds x.num ≡ Some (types.var b) = ap (λ (z : Var). kind_at kinds z.num) same ∙ k in
          ap (λ o. type_beside (with_type x o (typed_vars kinds xs)) y) of ∙ ap (λ (c : Bool). if c then Some b else type_beside (typed_vars kinds xs) y) (same_var x y same)
      | inr i ↦ further (kind_at kinds x.num) refl (beside_typed kinds xs y b i k)
    ]
  where
    further : (o : Option NominalKind) → kind_at kinds x.num ≡ o → type_beside (typed_vars kinds xs) y ≡ Some b → type_beside (with_type x o (typed_vars kinds xs)) y ≡ Some b
    further None e h = h
    further (Some (types.name s)) e h = h
    further (Some (types.var a)) e h =
        elim (var_eq x y) as (λ v. var_eq x y ≡ v → (if v then Some a else type_beside (typed_vars kinds xs) y) ≡ Some b) [
          | true ↦ λ i.
              let of : kind_at kinds y.num ≡ Some (types.var a) = ap (λ (z : Var). kind_at kinds z.num) (sym (var_same x y i)) ∙ e in
              let same : a ≡ b = cc in
              ap Some same
          | false ↦ λ i. h
        ] refl

occurs_among : (x : Var) (u : NominalTerm) (xs : List Var) → occurs x u ≡ true → has_var x (vars_then u xs) ≡ true
occurs_among x unit xs h = absurd (true≢false (sym h))
occurs_among x (name a) xs h = absurd (true≢false (sym h))
occurs_among x (pair u v) xs h =
    elim (or_cases (occurs x u) (occurs x v) h) [
      | inl i ↦ occurs_among x u (vars_then v xs) i
      | inr i ↦ has_vars_then x u (vars_then v xs) ∙ or_if_right (has_var x (vars_then u [])) (has_var x (vars_then v xs)) (occurs_among x v xs i)
    ]
occurs_among x (app f u) xs h = occurs_among x u xs h
occurs_among x (abs a u) xs h = occurs_among x u xs h
occurs_among x (susp p y) xs h = or_if_left (var_eq x y) (has_var x xs) h

module _ (cs : List NominalConstructor) (kinds : List NominalKind) (vars : VarTypes) where
  -- the variables of the term have their types
  abbrev AreTypedIn : NominalTerm → Type 0
  AreTypedIn u = (y : Var) (b : NominalType) → occurs y u ≡ true → IsVarOf kinds y b → vars y ≡ Some b

  application_closed : (u : NominalTerm) → ((w : Want) → IsTypedTerm cs kinds u w → IsTyped cs vars (canonical_term u) w) → (o : Option NominalConstructor) (d : ℕ)
      → IsApplication (IsTypedTerm cs kinds u) o d → IsApplication (IsTyped cs vars (canonical_term u)) o d
  application_closed u inner None d h = absurd h
  application_closed u inner (Some c) d h = (h.0, inner (arguments c.args) h.1)

  pub typed_canonical : (u : NominalTerm) (w : Want) → AreTypedIn u → IsTypedTerm cs kinds u w → IsTyped cs vars (canonical_term u) w
  typed_canonical unit nothing k h = tt
  typed_canonical unit (one types.unit) k h = tt
  typed_canonical (name a) (one (types.names s)) k h = h.0
  typed_canonical (pair u v) (one (types.pair a b)) k h =
      (typed_canonical u (one a) (λ y c o. k y c (or_if_left (occurs y u) (occurs y v) o)) h.0, typed_canonical v (one b) (λ y c o. k y c (or_if_right (occurs y u) (occurs y v) o)) h.1)
  typed_canonical (pair u v) (more a w) k h =
      (typed_canonical u (one a) (λ y c o. k y c (or_if_left (occurs y u) (occurs y v) o)) h.0, typed_canonical v w (λ y c o. k y c (or_if_right (occurs y u) (occurs y v) o)) h.1)
  typed_canonical (app zero u) (one (types.list a)) k h = typed_canonical u nothing k h
  typed_canonical (app (suc zero) u) (one (types.list a)) k h = typed_canonical u (more a (one (types.list a))) k h
  typed_canonical (app f u) (one (types.base d)) k h = application_closed u (λ w. typed_canonical u w k) (constructor_in cs f) d h
  typed_canonical (abs a u) (one (types.abs s b)) k h = (h.0.0, typed_canonical u (one b) k h.1)
  typed_canonical (susp p x) (one a) k h = k x a (same_var x x refl) h.1
  typed_canonical _ _ k h = absurd h

pub occurs_in : (x : Var) (u : NominalTerm) → occurs x u ≡ true → has_var x (vars_then u []) ≡ true
occurs_in x u h = occurs_among x u [] h

-- No variable stands twice among them.
abbrev Rises : ℕ → List Var → Type 0
Rises n [] = Unit {0}
Rises n (x ∷ xs) = (n ≤ x.num) × Rises (suc x.num) xs

equal_numbers : (x y : Var) → var_eq x y ≡ false → nat_lt x.num y.num ≡ false → suc y.num ≤ x.num
equal_numbers x y h k = grind (arith, nat_tests)

less_number : (x y : Var) → nat_lt x.num y.num ≡ true → suc x.num ≤ y.num
less_number x y h = grind (arith, nat_tests)

rises_added : (n : ℕ) (x : Var) (ys : List Var) → n ≤ x.num → Rises n ys → Rises n (add_var x ys)
rises_added n x [] h k = (h, tt)
rises_added n x (y ∷ ys) h k =
    elim (var_eq x y) as (λ v. var_eq x y ≡ v → Rises n (if v then (y ∷ ys) else (if nat_lt x.num y.num then (x ∷ y ∷ ys) else (y ∷ add_var x ys)))) [
      | true ↦ λ e. k
      | false ↦ λ e. elim (nat_lt x.num y.num) as (λ v. nat_lt x.num y.num ≡ v → Rises n (if v then (x ∷ y ∷ ys) else (y ∷ add_var x ys))) [
        | true ↦ λ i. (h, (less_number x y i, k.1))
        | false ↦ λ i. (k.0, rises_added (suc y.num) x ys (equal_numbers x y e i) k.1)
      ] refl
    ] refl

rises_ascending : (xs : List Var) → Rises 0 (ascending_vars xs)
rises_ascending [] = tt
rises_ascending (x ∷ xs) = let low : 0 ≤ x.num = omega arith in rises_added 0 x (ascending_vars xs) low (rises_ascending xs)

lower_differs : (x y : Var) (n : ℕ) → x.num < n → n ≤ y.num → var_eq x y ≡ false
lower_differs x y n h k = grind (arith, nat_tests)

lower_absent : (n : ℕ) (x : Var) (ys : List Var) → x.num < n → Rises n ys → has_var x ys ≡ false
lower_absent n x [] h k = refl
lower_absent n x (y ∷ ys) h k =
    let low = k.0 in
    let next : x.num < suc y.num = omega arith in
    ap₂ ◌||◌ (lower_differs x y n h low) (lower_absent (suc y.num) x ys next k.1)

typed_absent : (kinds : List NominalKind) (x : Var) (ys : List Var) → has_var x ys ≡ false → has_var x (map (λ v. v.0) (typed_vars kinds ys)) ≡ false
typed_absent kinds x [] h = refl
typed_absent kinds x (y ∷ ys) h = let parts = or_false (var_eq x y) (has_var x ys) h in first (kind_at kinds y.num) parts.0 (typed_absent kinds x ys parts.1)
  where
    first : (o : Option NominalKind) → var_eq x y ≡ false → has_var x (map (λ v. v.0) (typed_vars kinds ys)) ≡ false → has_var x (map (λ v. v.0) (with_type y o (typed_vars kinds ys))) ≡ false
    first None e k = k
    first (Some (types.name s)) e k = k
    first (Some (types.var a)) e k = ap₂ ◌||◌ e k

once_typed : (kinds : List NominalKind) (n : ℕ) (ys : List Var) → Rises n ys → each_once (typed_vars kinds ys) ≡ true
once_typed kinds n [] h = refl
once_typed kinds n (y ∷ ys) h = first (kind_at kinds y.num) (once_typed kinds (suc y.num) ys h.1)
  where
    low : y.num < suc y.num
    low = omega arith

    first : (o : Option NominalKind) → each_once (typed_vars kinds ys) ≡ true → each_once (with_type y o (typed_vars kinds ys)) ≡ true
    first None k = k
    first (Some (types.name s)) k = k
    first (Some (types.var a)) k =
        and_both (not (has_var y (map (λ v. v.0) (typed_vars kinds ys)))) (each_once (typed_vars kinds ys))
        (ap not (typed_absent kinds y ys (lower_absent (suc y.num) y ys low h.1))) k

pub answer_once : (kinds : List NominalKind) (xs : List Var) → each_once (typed_vars kinds (ascending_vars xs)) ≡ true
answer_once kinds xs = once_typed kinds 0 (ascending_vars xs) (rises_ascending xs)

-- conditions are on typed variables
pub conds_typed : (kinds : List NominalKind) (xs : List Var) (ds : Conds) → AreTypedConds kinds ds → ((y : Var) → has_var y (map (λ c. c.var) ds) ≡ true → has_var y xs ≡ true)
    → list_all (λ c. has_var c.var (map (λ v. v.0) (typed_vars kinds xs))) ds ≡ true
conds_typed kinds xs [] h k = refl
conds_typed kinds xs (c ∷ ds) h k =
    let of = h.0.1 in
    and_both (has_var c.var (map (λ v. v.0) (typed_vars kinds xs))) (list_all (λ d. has_var d.var (map (λ v. v.0) (typed_vars kinds xs))) ds)
    (beside_among (typed_vars kinds xs) c.var of.0 (beside_typed kinds xs c.var of.0 (k c.var (or_if_left (var_eq c.var c.var) (has_var c.var (map (λ d. d.var) ds)) (same_var c.var c.var refl))) of.1))
    (conds_typed kinds xs ds h.1 (λ y m. k y (or_if_right (var_eq y c.var) (has_var y (map (λ d. d.var) ds)) m)))
