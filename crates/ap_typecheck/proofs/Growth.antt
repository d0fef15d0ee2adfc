-- What is typed stays so when more is declared.
use Rattle.std.proofs.Common.{◌≡◌, ℕ, zero, suc, Bool, true, ◌&&◌, ◌==◌, List, [], ◌∷◌, ◌++◌, Option, None, Some, refl, sym, subst}
use Rattle.ap_defs.specs.RawTerms as raw
use Rattle.ap_defs.specs.RawTerms.{RawTerm}
use Rattle.ap_defs.specs.Types as types
use Rattle.ap_defs.specs.Types.{NominalType, NominalKind, NominalConstructor, NominalSignature}
use Rattle.ap_defs.specs.Goals.{GoalOver, succeed, atom, equal, fresh, both, either, exists, new, ClauseOver, QueryOver}
use Rattle.ap_defs.specs.Typing.{Want, nothing, one, more, arguments, IsApplication}
use Rattle.ap_defs.specs.Printing.{constructor_in}
use Rattle.ap_types.specs.Rounds.{reached, some_passes}
use Rattle.ap_types.specs.Inhabited.{all_inhabited}
use Rattle.ap_types.proofs.BooleanLemmas.{or_grows, and_grows}
use Rattle.ap_types.proofs.QuestionLemmas.{inhabited_grows, all_inhabited_grows}
use Rattle.ap_defs.specs.Resolution.{kinds_of}
use Rattle.ap_program.specs.RawTyping.{IsTypedRaw, HasRawType}
use Rattle.ap_program.specs.Typed.{HaveTypes, predicate_at, AreArguments, IsTypedGoal, AreInhabited, IsTypedClause, IsTypedQuery, AreTypedClauses, AreTypedFrom, AreTypedQueries, raw_form}

pub constructor_grows : (cs ds : List NominalConstructor) (f : ℕ) (c : NominalConstructor) → constructor_in cs f ≡ Some c → constructor_in (cs ++ ds) f ≡ Some c
constructor_grows [] ds f c e = absurd (cc)
constructor_grows (b ∷ cs) ds zero c e = absurd (cc)
constructor_grows (b ∷ cs) ds (suc zero) c e = absurd (cc)
constructor_grows (b ∷ cs) ds (suc (suc zero)) c e = e
constructor_grows (b ∷ cs) ds (suc (suc (suc f))) c e = constructor_grows cs ds (suc (suc f)) c e

application_grows : (P Q : Want → Type 0) → ((w : Want) → P w → Q w) → (a b : Option NominalConstructor) (d : ℕ) → ((c : NominalConstructor) → a ≡ Some c → b ≡ Some c) → IsApplication P a d → IsApplication Q b d
application_grows P Q on None b d g h = absurd h
application_grows P Q on (Some c) b d g h = subst (λ o. IsApplication Q o d) (sym (g c refl)) (h.0, on (arguments c.args) h.1)

pub raw_grows : (cs ds : List NominalConstructor) (ks : List NominalKind) (t : RawTerm) (w : Want) → IsTypedRaw cs ks t w → IsTypedRaw (cs ++ ds) ks t w
raw_grows cs ds ks raw.unit nothing h = h
raw_grows cs ds ks raw.unit (one types.unit) h = h
raw_grows cs ds ks (raw.name a) (one (types.names s)) h = h
raw_grows cs ds ks (raw.var x) (one t) h = h
raw_grows cs ds ks (raw.pair t u) (one (types.pair a b)) h = (raw_grows cs ds ks t (one a) h.0, raw_grows cs ds ks u (one b) h.1)
raw_grows cs ds ks (raw.pair t u) (more a w) h = (raw_grows cs ds ks t (one a) h.0, raw_grows cs ds ks u w h.1)
raw_grows cs ds ks (raw.app zero t) (one (types.list a)) h = raw_grows cs ds ks t nothing h
raw_grows cs ds ks (raw.app (suc zero) t) (one (types.list a)) h = raw_grows cs ds ks t (more a (one (types.list a))) h
raw_grows cs ds ks (raw.app zero t) (one (types.base d)) h = application_grows (IsTypedRaw cs ks t) (IsTypedRaw (cs ++ ds) ks t) (λ w. raw_grows cs ds ks t w) _ _ d (constructor_grows cs ds 0) h
raw_grows cs ds ks (raw.app (suc zero) t) (one (types.base d)) h = application_grows (IsTypedRaw cs ks t) (IsTypedRaw (cs ++ ds) ks t) (λ w. raw_grows cs ds ks t w) _ _ d (constructor_grows cs ds 1) h
raw_grows cs ds ks (raw.app (suc (suc f)) t) (one (types.base d)) h = application_grows (IsTypedRaw cs ks t) (IsTypedRaw (cs ++ ds) ks t) (λ w. raw_grows cs ds ks t w) _ _ d (constructor_grows cs ds (suc (suc f))) h
raw_grows cs ds ks (raw.abs i t) (one (types.abs s b)) h = (h.0, raw_grows cs ds ks t (one b) h.1)
raw_grows cs ds ks (raw.swapped i j t) (one a) h = (h.0, raw_grows cs ds ks t (one a) h.1)
raw_grows cs ds ks t w h = absurd h

predicate_grows : (ps qs : List (List NominalType)) (p : ℕ) (as' : List NominalType) → predicate_at ps p ≡ Some as' → predicate_at (ps ++ qs) p ≡ Some as'
predicate_grows [] qs p as' e = absurd (cc)
predicate_grows (a ∷ ps) qs zero as' e = e
predicate_grows (a ∷ ps) qs (suc p) as' e = predicate_grows ps qs p as' e

module _ (cs ds : List NominalConstructor) (ps qs : List (List NominalType)) (ks : List NominalKind) where
  have_grows : (ts : List RawTerm) (as' : List NominalType) → HaveTypes (HasRawType cs ks) ts as' → HaveTypes (HasRawType (cs ++ ds) ks) ts as'
  have_grows [] [] h = h
  have_grows (t ∷ ts) (a ∷ as') h = (raw_grows cs ds ks t (one a) h.0, have_grows ts as' h.1)
  have_grows [] (a ∷ as') h = h
  have_grows (t ∷ ts) [] h = h

  pub arguments_grow : (ts : List RawTerm) (p : ℕ) → AreArguments (HasRawType cs ks) ts (predicate_at ps p) → AreArguments (HasRawType (cs ++ ds) ks) ts (predicate_at (ps ++ qs) p)
  arguments_grow ts p h = by (predicate_at ps p) refl h
    where
      by : (o : Option (List NominalType)) → predicate_at ps p ≡ o → AreArguments (HasRawType cs ks) ts o → AreArguments (HasRawType (cs ++ ds) ks) ts (predicate_at (ps ++ qs) p)
      by None e g = absurd g
      by (Some as') e g = subst (AreArguments (HasRawType (cs ++ ds) ks) ts) (sym (predicate_grows ps qs p as' e)) (have_grows ts as' g)

  pub goal_grows : (g : GoalOver RawTerm) → IsTypedGoal (HasRawType cs ks) ps ks g → IsTypedGoal (HasRawType (cs ++ ds) ks) (ps ++ qs) ks g
  goal_grows succeed h = h
  goal_grows (atom p ts) h = arguments_grow ts p h
  goal_grows (equal t u) h = (h.0, raw_grows cs ds ks t (one h.0) h.1, raw_grows cs ds ks u (one h.0) h.2)
  goal_grows (fresh t u) h = ((h.0.0, raw_grows cs ds ks t (one (types.names h.0.0)) h.0.1), (h.1.0, raw_grows cs ds ks u (one h.1.0) h.1.1))
  goal_grows (both g k) h = (goal_grows g h.0, goal_grows k h.1)
  goal_grows (either g k) h = (goal_grows g h.0, goal_grows k h.1)
  goal_grows (exists x g) h = (h.0, goal_grows g h.1)
  goal_grows (new a g) h = (h.0, goal_grows g h.1)

-- Inhabited types.
module _ (cs ds : List NominalConstructor) where
  passes_grows : (bs : List NominalConstructor) (p q : ℕ → Bool) → ((d : ℕ) → p d ≡ true → q d ≡ true) → (d : ℕ) → some_passes all_inhabited p bs d ≡ true → some_passes all_inhabited q (bs ++ ds) d ≡ true
  passes_grows [] p q on d h = absurd (cc)
  passes_grows (b ∷ bs) p q on d h =
      or_grows ((b.result == d) && all_inhabited p b.args) (some_passes all_inhabited p bs d) ((b.result == d) && all_inhabited q b.args) (some_passes all_inhabited q (bs ++ ds) d)
      (and_grows (b.result == d) (all_inhabited p b.args) (b.result == d) (all_inhabited q b.args) (λ e. e) (all_inhabited_grows p q on b.args))
      (passes_grows bs p q on d) h

  reached_grows : (r d : ℕ) → reached all_inhabited cs r d ≡ true → reached all_inhabited (cs ++ ds) r d ≡ true
  reached_grows zero d h = h
  reached_grows (suc r) d h = passes_grows cs (reached all_inhabited cs r) (reached all_inhabited (cs ++ ds) r) (λ e. reached_grows r e) d h

  pub inhabited_more : (ks : List NominalKind) → AreInhabited cs ks → AreInhabited (cs ++ ds) ks
  inhabited_more [] h = h
  inhabited_more (types.name s ∷ ks) h = inhabited_more ks h
  inhabited_more (types.var t ∷ ks) h =
      ((h.0.0, inhabited_grows (reached all_inhabited cs h.0.0) (reached all_inhabited (cs ++ ds) h.0.0) (λ d. reached_grows h.0.0 d) t h.0.1), inhabited_more ks h.1)

-- Clauses and queries, where constructors and predicates were added.
module _ (s s' : NominalSignature) (ds : List NominalConstructor) (qs : List (List NominalType)) (ec : s'.constructors ≡ s.constructors ++ ds) (ep : s'.predicates ≡ s.predicates ++ qs) where
  clause_grows : (p : ℕ) (c : ClauseOver RawTerm) → IsTypedClause raw_form s p c → IsTypedClause raw_form s' p c
  clause_grows p c h =
      let ks = kinds_of c.locals in (
        h.0,
        (
          subst (λ cs. AreArguments (HasRawType cs ks) c.args (predicate_at s'.predicates c.pred)) (sym ec)
              (subst (λ ps. AreArguments (HasRawType (s.constructors ++ ds) ks) c.args (predicate_at ps c.pred)) (sym ep) (arguments_grow s.constructors ds s.predicates qs ks c.args c.pred h.1.0)),
          subst (λ cs. IsTypedGoal (HasRawType cs ks) s'.predicates ks c.body) (sym ec)
              (subst (λ ps. IsTypedGoal (HasRawType (s.constructors ++ ds) ks) ps ks c.body) (sym ep) (goal_grows s.constructors ds s.predicates qs ks c.body h.1.1)),
        ),
        subst (λ cs. AreInhabited cs ks) (sym ec) (inhabited_more s.constructors ds ks h.2),
        h.3,
      )

  query_grows : (q : QueryOver RawTerm) → IsTypedQuery raw_form s q → IsTypedQuery raw_form s' q
  query_grows q h =
      let ks = kinds_of q.locals in (
        subst (λ cs. IsTypedGoal (HasRawType cs ks) s'.predicates ks q.goal) (sym ec)
            (subst (λ ps. IsTypedGoal (HasRawType (s.constructors ++ ds) ks) ps ks q.goal) (sym ep) (goal_grows s.constructors ds s.predicates qs ks q.goal h.0)),
        subst (λ cs. AreInhabited cs ks) (sym ec) (inhabited_more s.constructors ds ks h.1),
        h.2,
      )

  list_grows : (p : ℕ) (cs : List (ClauseOver RawTerm)) → AreTypedClauses raw_form s p cs → AreTypedClauses raw_form s' p cs
  list_grows p [] h = h
  list_grows p (c ∷ cs) h = (clause_grows p c h.0, list_grows p cs h.1)

  pub clauses_grow : (p : ℕ) (css : List (List (ClauseOver RawTerm))) → AreTypedFrom raw_form s p css → AreTypedFrom raw_form s' p css
  clauses_grow p [] h = h
  clauses_grow p (cs ∷ css) h = (list_grows p cs h.0, clauses_grow (suc p) css h.1)

  pub queries_grow : (qs' : List (QueryOver RawTerm)) → AreTypedQueries raw_form s qs' → AreTypedQueries raw_form s' qs'
  queries_grow [] h = h
  queries_grow (q ∷ qs') h = (query_grows q h.0, queries_grow qs' h.1)
