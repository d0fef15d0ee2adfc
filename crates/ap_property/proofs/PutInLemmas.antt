-- The conclusion with terms put in is typed.
use Rattle.std.proofs.Common.{◌≡◌, ◌∙◌, ℕ, zero, suc, true, false, ◌||◌, List, [], ◌∷◌, ◌++◌, map, Option, Some, None, refl, sym, ap, ap₂, subst, inl, inr, arith}
use Rattle.std.specs.Prelude.{◌==◌}
use Rattle.std.proofs.lemmas.Bool.Decides.{eqb_tells}
use Rattle.ap_defs.specs.declared.terms.Var.{Var}
use Rattle.ap_defs.specs.Answers.{kind_at}
use Rattle.ap_defs.specs.Goals as goals
use Rattle.ap_defs.specs.Goals.{NominalGoal, NominalQuery}
use Rattle.ap_defs.specs.GroundProofs.{AreOfTypes, HasTypeOf}
use Rattle.ap_defs.specs.Printing.{constructor_in}
use Rattle.ap_defs.specs.Renaming.{local_vars}
use Rattle.ap_defs.specs.Resolution.{kinds_of}
use Rattle.ap_defs.specs.Terms.{GroundTerm, NominalTerm, abs, app, name, pair, susp, unit}
use Rattle.ap_defs.specs.Types as types
use Rattle.ap_defs.specs.Types.{NominalConstructor, NominalKind, NominalLocal, NominalSignature, NominalType}
use Rattle.ap_defs.specs.Typing.{IsApplication, IsTyped, Want, arguments, embedded, more, nothing, one}
use Rattle.ap_program.specs.RawTyping.{HasTermType, IsNameOf, IsTypedTerm}
use Rattle.ap_program.specs.Typed.{AreArguments, HaveTypes, AreMarked, EachOnce, IsTypedGoal, IsTypedQuery, brought, is_marked, stands_free, stands_in_term, term_form}
use Rattle.ap_search.proofs.TypingLemmas.{kind_at_front, typed_front}
use Rattle.ap_picks.specs.StatementsOnPicks.{EachName}
use Rattle.ap_property.specs.Fitting.{FitsLocals, HaveKnownNames, IsKnown}
use Rattle.ap_property.specs.Properties.{conclusion, conclusion_query}
use Rattle.ap_property.specs.PutIn.{query_put_in, with_terms}
use Rattle.ap_property.specs.Stated.{Instance}
use Rattle.ap_property.proofs.LocalLemmas.{AreUnmarked, all_marked_with, inhabited_with, kinds_with, known_name, known_unmarked, local_vars_unmarked, marked_without, with_names}

-- Goals typed by more kinds.
module _ (cs : List NominalConstructor) (preds : List (List NominalType)) (ks ls : List NominalKind) where
  types_front : (ts : List NominalTerm) (as' : List NominalType) → HaveTypes (HasTermType cs ks) ts as' → HaveTypes (HasTermType cs (ks ++ ls)) ts as'
  types_front [] [] h = tt
  types_front (t ∷ ts) (a ∷ as') h = (typed_front cs ks ls t (one a) h.0, types_front ts as' h.1)
  types_front [] (a ∷ as') h = absurd h
  types_front (t ∷ ts) [] h = absurd h

  arguments_front : (ts : List NominalTerm) (o : Option (List NominalType)) → AreArguments (HasTermType cs ks) ts o → AreArguments (HasTermType cs (ks ++ ls)) ts o
  arguments_front ts None h = h
  arguments_front ts (Some as') h = types_front ts as' h

  goal_front : (g : NominalGoal) → IsTypedGoal (HasTermType cs ks) preds ks g → IsTypedGoal (HasTermType cs (ks ++ ls)) preds (ks ++ ls) g
  goal_front goals.succeed h = h
  goal_front (goals.atom p ts) h = arguments_front ts _ h
  goal_front (goals.equal t u) (a, h, k) = (a, typed_front cs ks ls t (one a) h, typed_front cs ks ls u (one a) k)
  goal_front (goals.fresh t u) ((s, h), (a, k)) = ((s, typed_front cs ks ls t (one (types.names s)) h), (a, typed_front cs ks ls u (one a) k))
  goal_front (goals.both g h) k = (goal_front g k.0, goal_front h k.1)
  goal_front (goals.either g h) k = (goal_front g k.0, goal_front h k.1)
  goal_front (goals.exists x g) k = ((k.0.0, kind_at_front ks ls x.num (types.var k.0.0) k.0.1), goal_front g k.1)
  goal_front (goals.new a g) k = ((k.0.0, kind_at_front ks ls a.num (types.name a.sort) k.0.1), goal_front g k.1)

-- Ground terms with known names.
module _ (cs : List NominalConstructor) (locals : List NominalLocal) (sorts : List ℕ) where
  abbrev kinds : List NominalKind
  kinds = kinds_of (with_names locals sorts)

  abbrev Known : GroundTerm → Type 0
  Known = EachName (IsKnown locals sorts)

  application_known : (g : GroundTerm) → ((w : Want) → IsTyped cs (λ x. None) (embedded g) w → IsTypedTerm cs kinds (embedded g) w) → (o : Option NominalConstructor) (d : ℕ)
      → IsApplication (IsTyped cs (λ x. None) (embedded g)) o d → IsApplication (IsTypedTerm cs kinds (embedded g)) o d
  application_known g k None d h = absurd h
  application_known g k (Some c) d h = (h.0, k (arguments c.args) h.1)

  known_typed : (g : GroundTerm) → Known g → (w : Want) → IsTyped cs (λ x. None) (embedded g) w → IsTypedTerm cs kinds (embedded g) w
  known_typed unit n nothing h = tt
  known_typed unit n (one types.unit) h = tt
  known_typed (name a) n (one (types.names s)) h = subst (IsNameOf kinds a) h (known_name locals sorts a n)
  known_typed (pair t u) n (one (types.pair a b)) h = (known_typed t n.0 (one a) h.0, known_typed u n.1 (one b) h.1)
  known_typed (pair t u) n (more a w) h = (known_typed t n.0 (one a) h.0, known_typed u n.1 w h.1)
  known_typed (app zero t) n (one (types.list a)) h = known_typed t n nothing h
  known_typed (app (suc zero) t) n (one (types.list a)) h = known_typed t n (more a (one (types.list a))) h
  known_typed (app f t) n (one (types.base d)) h = application_known t (known_typed t n) (constructor_in cs f) d h
  known_typed (abs a t) n (one (types.abs s b)) h = (subst (IsNameOf kinds a) h.0 (known_name locals sorts a n.0), known_typed t n.1 (one b) h.1)
  known_typed _ n _ h = absurd h

  -- what is marked is none of their names
  marked_differs : (n m : ℕ) → is_marked locals n ≡ true → is_marked locals m ≡ false → (n == m) ≡ false
  marked_differs n m h k = elim (eqb_tells n m) [
    | inl w ↦ let no : true ≡ false = sym h ∙ ap (is_marked locals) w.1 ∙ k in cc
    | inr w ↦ w.0
  ]

  known_apart : (n : ℕ) → is_marked locals n ≡ true → (g : GroundTerm) → Known g → stands_in_term n (embedded g) ≡ false
  known_apart n h unit k = refl
  known_apart n h (name a) k = marked_differs n a.num h (known_unmarked locals sorts a k)
  known_apart n h (pair t u) k = ap₂ ◌||◌ (known_apart n h t k.0) (known_apart n h u k.1)
  known_apart n h (app f t) k = known_apart n h t k
  known_apart n h (abs a t) k = ap₂ ◌||◌ (marked_differs n a.num h (known_unmarked locals sorts a k.0)) (known_apart n h t k.1)

  -- The equations.
  module _ (preds : List (List NominalType)) (goal : NominalGoal) where
    equation_typed : (x : Var) (g : GroundTerm) (o : Option NominalKind) → kind_at (kinds_of locals) x.num ≡ o → HasTypeOf cs o g → Known g
        → (a : NominalType) × HasTermType cs kinds (susp [] x) a × HasTermType cs kinds (embedded g) a
    equation_typed x g None e h k = absurd h
    equation_typed x g (Some (types.name s)) e h k = absurd h
    equation_typed x g (Some (types.var t)) e h k =
        (t, (tt, ap (λ ks. kind_at ks x.num) (kinds_with locals sorts) ∙ kind_at_front (kinds_of locals) (map types.name sorts) x.num (types.var t) e), known_typed g k (one t) h)

    equations_typed : (xs : List Var) (gs : List GroundTerm) → AreOfTypes cs (kinds_of locals) xs gs → HaveKnownNames locals sorts gs
        → IsTypedGoal (HasTermType cs kinds) preds kinds goal → IsTypedGoal (HasTermType cs kinds) preds kinds (with_terms xs gs goal)
    equations_typed [] [] h n i = i
    equations_typed (x ∷ xs) (g ∷ gs) h n i = (equation_typed x g (kind_at (kinds_of locals) x.num) refl h.0 n.0, equations_typed xs gs h.1 n.1 i)
    equations_typed [] (g ∷ gs) h n i = absurd h
    equations_typed (x ∷ xs) [] h n i = absurd h

    equations_brought : (xs : List Var) (gs : List GroundTerm) → brought (with_terms xs gs goal) ≡ brought goal
    equations_brought (x ∷ xs) (g ∷ gs) = equations_brought xs gs
    equations_brought [] gs = refl
    equations_brought (x ∷ xs) [] = refl

    equations_free : (n : ℕ) → is_marked locals n ≡ true → (xs : List Var) (gs : List GroundTerm) → AreUnmarked 0 locals xs → HaveKnownNames locals sorts gs
        → stands_free stands_in_term n goal ≡ false → stands_free stands_in_term n (with_terms xs gs goal) ≡ false
    equations_free n h (x ∷ xs) (g ∷ gs) u k e =
        let m : x.num ≡ u.0.0 = let i = u.0.1 in omega (arith, i) in
        let here : (n == x.num) ≡ false = marked_differs n x.num h (ap (is_marked locals) m ∙ u.0.2) in
        ap₂ ◌||◌ (ap₂ ◌||◌ here (known_apart n h g k.0)) (equations_free n h xs gs u.1 k.1 e)
    equations_free n h [] gs u k e = e
    equations_free n h (x ∷ xs) [] u k e = e

-- the query with terms that fit it put in
pub put_in_typed : (sig : NominalSignature) (q : NominalQuery) (i : Instance) → IsTypedQuery term_form sig (conclusion_query q) → FitsLocals sig.constructors q.locals i
    → IsTypedQuery term_form sig (query_put_in q i)
put_in_typed sig q i h f =
    let cs = sig.constructors in
    let xs = local_vars 0 q.locals in
    let goal = conclusion q.goal in
    let front = subst (λ (ks : List NominalKind). IsTypedGoal (HasTermType cs ks) sig.predicates ks goal) (sym (kinds_with q.locals i.sorts))
    (goal_front cs sig.predicates (kinds_of q.locals) (map types.name i.sorts) goal h.0) in
    let b = equations_brought cs q.locals i.sorts sig.predicates goal xs i.terms in (
      equations_typed cs q.locals i.sorts sig.predicates goal xs i.terms f.types f.names front,
      inhabited_with cs q.locals i.sorts h.1,
      record {
        marked = subst (λ ns. AreMarked (with_names q.locals i.sorts) ns) (sym b) (all_marked_with q.locals i.sorts (brought goal) h.2.marked);
        once = subst EachOnce (sym b) h.2.once;
        inside = λ n m.
            let old = marked_without q.locals i.sorts n m in
            (refl, equations_free cs q.locals i.sorts sig.predicates goal n old xs i.terms (local_vars_unmarked 0 q.locals) f.names (h.2.inside n old).1);
      },
    )
