-- What the test of a head tells.
use Rattle.std.proofs.Common.{◌≡◌, ◌↔◌, ℕ, Bool, true, IsTrue, List, [], ◌∷◌, refl, sym, ap, ◌∙◌, subst, inl, inr, true≢false}
use Rattle.std.specs.Prelude.{not, Option, Some, None}
use Rattle.ap_defs.specs.declared.terms.Name.{Name}
use Rattle.ap_defs.specs.declared.terms.Var.{Var}
use Rattle.ap_defs.specs.Permutations.{name_eq, act_name, inverse}
use Rattle.ap_defs.specs.Terms.{NominalTerm, unit, name, pair, app, abs, susp}
use Rattle.ap_defs.specs.Types as types
use Rattle.ap_defs.specs.Types.{NominalKind, NominalLocal, NominalConstructor}
use Rattle.ap_defs.specs.Goals.{NominalGoal}
use Rattle.ap_defs.specs.Answers.{kind_at}
use Rattle.ap_defs.specs.Resolution.{kinds_of}
use Rattle.ap_types.specs.declared.holding.Holding.{Holding}
use Rattle.ap_types.specs.Rounds.{IsLeastSet, marked}
use Rattle.ap_types.specs.Holding.{holds_if, some_holds}
use Rattle.ap_types.specs.Tables.{IsHoldingTable}
use Rattle.ap_types.proofs.QuestionLemmas.{holds_least}
use Rattle.ap_theory.specs.Contexts.{Context, Fresh}
use Rattle.ap_theory.proofs.BooleanLemmas.{and_left, and_right, and_both, or_right, or_cases, or_if_left, or_if_right, false_if_not}
use Rattle.ap_theory.proofs.PermutationLemmas.{act_sort, name_decided, name_eq_itself, not_name}
use Rattle.ap_program.specs.NameRestriction.{CannotHold, known_in, FreshForEach, IsFreshForHead}
use Rattle.ap_facts.specs.declared.facts.Fact.{Fact}
use Rattle.ap_facts.specs.Facts.{facts_of, HasSame}
use Rattle.ap_restrict.specs.Heads.{bars, is_known, fresh_by, fresh_by_each, clause_of_head}
use Rattle.ap_facts.proofs.FactLemmas.{facts_stated}

-- a test that is true of just what is known of names of one sort
record Tells (known : Context) (test : Name → Var → Bool) (sort : ℕ) : Type 0 where
  to : (b : Name) (x : Var) → b.sort ≡ sort → test b x ≡ true → known b x
  from : (b : Name) (x : Var) → b.sort ≡ sort → known b x → test b x ≡ true

by_Fresh : (known : Context) (test : Name → Var → Bool) (a : Name) → Tells known test a.sort → (t : NominalTerm) → fresh_by test a t ≡ true → Fresh known a t
by_Fresh known test a w unit h = tt
by_Fresh known test a w (name b) h = λ e. true≢false (sym h ∙ ap not (ap (λ x. name_eq x b) e ∙ name_eq_itself b))
by_Fresh known test a w (pair t u) h = (by_Fresh known test a w t (and_left _ (fresh_by test a u) h), by_Fresh known test a w u (and_right (fresh_by test a t) _ h))
by_Fresh known test a w (app f t) h = by_Fresh known test a w t h
by_Fresh known test a w (abs b t) h =
    elim (name_decided a b) [
      | inl e ↦ inl e
      | inr n ↦ inr (by_Fresh known test a w t (or_right (name_eq a b) (fresh_by test a t) (not_name a b n) h))
    ]
by_Fresh known test a w (susp p x) h = w.to (act_name (inverse p) a) x (act_sort (inverse p) a) h

Fresh_by : (known : Context) (test : Name → Var → Bool) (a : Name) → Tells known test a.sort → (t : NominalTerm) → Fresh known a t → fresh_by test a t ≡ true
Fresh_by known test a w unit h = refl
Fresh_by known test a w (name b) h = ap not (not_name a b h)
Fresh_by known test a w (pair t u) h = and_both _ _ (Fresh_by known test a w t h.0) (Fresh_by known test a w u h.1)
Fresh_by known test a w (app f t) h = Fresh_by known test a w t h
Fresh_by known test a w (abs b t) (inl e) = or_if_left (name_eq a b) (fresh_by test a t) (ap (name_eq a) (sym e) ∙ name_eq_itself a)
Fresh_by known test a w (abs b t) (inr h) = or_if_right (name_eq a b) (fresh_by test a t) (Fresh_by known test a w t h)
Fresh_by known test a w (susp p x) h = w.from (act_name (inverse p) a) x (act_sort (inverse p) a) h

by_each : (known : Context) (test : Name → Var → Bool) (a : Name) → Tells known test a.sort → (ts : List NominalTerm) → fresh_by_each test a ts ≡ true → FreshForEach known a ts
by_each known test a w [] h = tt
by_each known test a w (t ∷ ts) h = (by_Fresh known test a w t (and_left _ (fresh_by_each test a ts) h), by_each known test a w ts (and_right (fresh_by test a t) _ h))

each_by : (known : Context) (test : Name → Var → Bool) (a : Name) → Tells known test a.sort → (ts : List NominalTerm) → FreshForEach known a ts → fresh_by_each test a ts ≡ true
each_by known test a w [] h = refl
each_by known test a w (t ∷ ts) h = and_both _ _ (Fresh_by known test a w t h.0) (each_by known test a w ts h.1)

-- a variable is barred where its type can't hold the sort
bars_to : (cs : List NominalConstructor) (kinds : List NominalKind) (sort : ℕ) (found : ℕ → Bool) (x : Var) (k : Option NominalKind)
    → IsLeastSet (some_holds sort) cs found → kind_at kinds x.num ≡ k → bars sort found k ≡ true → CannotHold cs kinds sort x
bars_to cs kinds sort found x None l e h = absurd (true≢false (sym h))
bars_to cs kinds sort found x (Some (types.name s)) l e h = absurd (true≢false (sym h))
bars_to cs kinds sort found x (Some (types.var t)) l e h = (t, e, λ m. true≢false (sym h ∙ ap not ((holds_least cs sort found l t).1 m)))

bars_from : (cs : List NominalConstructor) (kinds : List NominalKind) (sort : ℕ) (found : ℕ → Bool) (x : Var)
    → IsLeastSet (some_holds sort) cs found → CannotHold cs kinds sort x → bars sort found (kind_at kinds x.num) ≡ true
bars_from cs kinds sort found x l h =
    ap (bars sort found) h.1 ∙ ap not (false_if_not (holds_if sort found h.0) (λ e. h.2 ((holds_least cs sort found l h.0).0 e)))

module _ (cs : List NominalConstructor) (args : List NominalTerm) (body : NominalGoal) (locals : List NominalLocal) (a : Name) (keys : List Fact) (found : ℕ → Bool)
    (same : HasSame keys (facts_of body)) (least : IsLeastSet (some_holds a.sort) cs found) where
  abbrev test : Name → Var → Bool
  test = is_known keys a.sort found (kinds_of locals) a

  abbrev stands : Name → Var → Fact
  stands b x = record { left = a; name = b; var = x }

  tells : Tells (known_in cs (clause_of_head args body locals) a) test a.sort
  tells = record {
    to = λ b x e h. elim (or_cases _ (bars a.sort found (kind_at (kinds_of locals) x.num)) h) [
      | inl k ↦ inl (sym (facts_stated a b x body) ∙ sym (same (stands b x)) ∙ k)
      | inr k ↦ inr (subst (λ s. CannotHold cs (kinds_of locals) s x) (sym e) (bars_to cs (kinds_of locals) a.sort found x _ least refl k))
    ];
    from = λ b x e h. elim h [
      | inl k ↦ or_if_left _ (bars a.sort found (kind_at (kinds_of locals) x.num)) (same (stands b x) ∙ facts_stated a b x body ∙ k)
      | inr k ↦ or_if_right _ _ (bars_from cs (kinds_of locals) a.sort found x least (subst (λ s. CannotHold cs (kinds_of locals) s x) e k))
    ];
  }

  tested : (fresh_by_each test a args ≡ true) ↔ IsFreshForHead cs (clause_of_head args body locals) a
  tested = (by_each _ test a tells args, each_by _ test a tells args)

pub head_test : (cs : List NominalConstructor) (args : List NominalTerm) (body : NominalGoal) (locals : List NominalLocal) (a : Name) (keys : List Fact) (table : Holding) (b : Bool)
    → HasSame keys (facts_of body) → IsHoldingTable cs a.sort table
    → b ≡ fresh_by_each (is_known keys table.sort (marked table.table.items) (kinds_of locals) a) a args
    → IsTrue b ↔ IsFreshForHead cs (clause_of_head args body locals) a
head_test cs args body locals a keys table b same t e =
    let iff = tested cs args body locals a keys (marked table.table.items) same t.1 in
    let is : b ≡ fresh_by_each (is_known keys a.sort (marked table.table.items) (kinds_of locals) a) a args =
    e ∙ ap (λ s. fresh_by_each (is_known keys s (marked table.table.items) (kinds_of locals) a) a args) t.0 in
    ((λ h. iff.0 (sym is ∙ h)), (λ h. is ∙ iff.1 h))
