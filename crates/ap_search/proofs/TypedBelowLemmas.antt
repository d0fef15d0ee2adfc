-- What is typed by kinds has no number beyond them.
use Rattle.std.proofs.Common.{subst, ◌≡◌, ◌<◌, ◌≤◌, ◌^◌, ℕ, zero, suc, Bool, true, false, List, [], ◌∷◌, map, length, refl, ap, ◌∙◌, arith}
use Rattle.std.specs.Prelude.{Option, Some, None}
use Rattle.std.proofs.lemmas.List.{length-map}
use Rattle.ap_defs.specs.Answers.{kind_at, out_in, query_outs}
use Rattle.ap_defs.specs.Goals.{NominalGoal, succeed, atom, equal, fresh, both, either, exists, new, NominalClause, NominalProgram, NominalQuery, Clauses}
use Rattle.ap_defs.specs.Lines.{text_of_var, var_texts}
use Rattle.ap_defs.specs.Renaming.{AreBelow, AreSwapsBelow, IsBelow, IsGoalBelow, local_vars, var_unless}
use Rattle.ap_defs.specs.Resolution.{Output, cut, found, kinds_of, solve_query, chose, stuck}
use Rattle.ap_defs.specs.Terms.{NominalTerm, abs, app, name, pair, susp, unit}
use Rattle.ap_defs.specs.Types as types
use Rattle.ap_defs.specs.Types.{NominalConstructor, NominalKind, NominalLocal, NominalSignature, NominalType}
use Rattle.ap_defs.specs.Typing.{Want, one}
use Rattle.ap_defs.specs.declared.terms.Swap.{Swap}
use Rattle.ap_defs.specs.Limits.{size_limit}
use Rattle.ap_program.specs.NameRestriction.{item_count, sum_of_lengths}
use Rattle.ap_program.specs.RawTyping.{AreSwapsOf, HasTermType, IsTypedTerm}
use Rattle.ap_program.specs.Typed.{AreArguments, AreTypedClauses, AreTypedFrom, HaveTypes, IsTypedGoal, IsTypedProgram, IsTypedQuery, predicate_at, term_form}
use Rattle.ap_search.specs.FitStates.{AreFitClauses, AreShort, IsFitProgram}
use Rattle.ap_search.specs.TypedStates.{HaveBindings}
use Rattle.ap_search.proofs.TypingLemmas.{abs_view, app_view, name_view, pair_view, susp_view}

pub kind_below : (ks : List NominalKind) (n : ℕ) (k : NominalKind) → kind_at ks n ≡ Some k → n < length ks
kind_below [] n k h = cc
kind_below (j ∷ ks) zero k h = omega arith
kind_below (j ∷ ks) (suc n) k h = let l : n < length ks = kind_below ks n k h in omega arith

module _ (cs : List NominalConstructor) (preds : List (List NominalType)) (ks : List NominalKind) where
  swaps_of_below : (p : List Swap) → AreSwapsOf ks p → AreSwapsBelow (length ks) p
  swaps_of_below [] h = tt
  swaps_of_below (s ∷ p) h = (kind_below ks _ _ h.0.1, kind_below ks _ _ h.1.1, swaps_of_below p h.2)

  pub typed_below : (t : NominalTerm) (w : Want) → IsTypedTerm cs ks t w → IsBelow (length ks) t
  typed_below unit w h = tt
  typed_below (name a) w h = let v = name_view cs ks a w h in kind_below ks _ _ v.2.1
  typed_below (pair t u) w h = let v = pair_view cs ks t u w h in (typed_below t v.first v.left, typed_below u v.second v.right)
  typed_below (app f t) w h = let v = app_view cs ks f t w h in typed_below t v.inner v.here
  typed_below (abs a t) w h = let v = abs_view cs ks a t w h in (kind_below ks _ _ v.3.1, typed_below t (one v.1) v.4)
  typed_below (susp p x) w h = let v = susp_view cs ks p x w h in (swaps_of_below p v.2, kind_below ks _ _ v.3)

  have_below : (ts : List NominalTerm) (as' : List NominalType) → HaveTypes (HasTermType cs ks) ts as' → AreBelow (length ks) ts
  have_below [] as' h = tt
  have_below (t ∷ ts) [] h = absurd h
  have_below (t ∷ ts) (a ∷ as') h = (typed_below t (one a) h.0, have_below ts as' h.1)

  pub arguments_below : (ts : List NominalTerm) (o : Option (List NominalType)) → AreArguments (HasTermType cs ks) ts o → AreBelow (length ks) ts
  arguments_below ts None h = absurd h
  arguments_below ts (Some as') h = have_below ts as' h

  pub typed_goal_below : (g : NominalGoal) → IsTypedGoal (HasTermType cs ks) preds ks g → IsGoalBelow (length ks) g
  typed_goal_below succeed h = tt
  typed_goal_below (atom p ts) h = arguments_below ts (predicate_at preds p) h
  typed_goal_below (equal t u) h = (typed_below t (one h.0) h.1, typed_below u (one h.0) h.2)
  typed_goal_below (fresh t u) h = (typed_below t (one (types.names h.0.0)) h.0.1, typed_below u (one h.1.0) h.1.1)
  typed_goal_below (both f g) h = (typed_goal_below f h.0, typed_goal_below g h.1)
  typed_goal_below (either f g) h = (typed_goal_below f h.0, typed_goal_below g h.1)
  typed_goal_below (exists x g) h = (kind_below ks _ _ h.0.1, typed_goal_below g h.1)
  typed_goal_below (new a g) h = (kind_below ks _ _ h.0.1, typed_goal_below g h.1)

kinds_count : (locals : List NominalLocal) → length (kinds_of locals) ≡ length locals
kinds_count locals = length-map locals (λ l. l.kind)

module _ (sig : NominalSignature) where
  typed_clauses_fit : (p : ℕ) (cs : List NominalClause) → AreTypedClauses term_form sig p cs → AreFitClauses cs
  typed_clauses_fit p [] h = tt
  typed_clauses_fit p (c ∷ cs) h =
      let ks = kinds_of c.locals in
      let args : AreBelow (length ks) c.args = arguments_below sig.constructors sig.predicates ks c.args (predicate_at sig.predicates c.pred) h.0.1.0 in
      let body : IsGoalBelow (length ks) c.body = typed_goal_below sig.constructors sig.predicates ks c.body h.0.1.1 in
      ((subst (λ (n : ℕ). AreBelow n c.args) (kinds_count c.locals) args, subst (λ (n : ℕ). IsGoalBelow n c.body) (kinds_count c.locals) body), typed_clauses_fit p cs h.1)

  typed_lists_fit : (p : ℕ) (css : Clauses) → AreTypedFrom term_form sig p css → IsFitProgram css
  typed_lists_fit p [] h = tt
  typed_lists_fit p (cs ∷ css) h = (typed_clauses_fit p cs h.0, typed_lists_fit (suc p) css h.1)

-- the numbers of a typed program are those of its identifiers
pub typed_fits : (p : NominalProgram) → IsTypedProgram p → IsFitProgram p.clauses
typed_fits p h = typed_lists_fit p.signature 0 p.clauses h.0

pub typed_query_below : (p : NominalProgram) (q : NominalQuery) → IsTypedQuery term_form p.signature q → IsGoalBelow (length q.locals) q.goal
typed_query_below p q h =
    subst (λ (n : ℕ). IsGoalBelow n q.goal) (kinds_count q.locals) (typed_goal_below p.signature.constructors p.signature.predicates (kinds_of q.locals) q.goal h.0)

short_lists : (css : Clauses) → sum_of_lengths css ≤ size_limit → AreShort css
short_lists [] h = tt
short_lists (cs ∷ css) h = let k : length cs < 2 ^ 32 = omega arith in (k, short_lists css (omega arith))

pub bounded_short : (p : NominalProgram) → item_count p ≤ size_limit → AreShort p.clauses
bounded_short p h = short_lists p.clauses (omega arith)

-- Each answer has one binding for each free variable of the query.
texts_count : (n : ℕ) (locals : List NominalLocal) → length (local_vars n locals) ≡ length (var_texts locals)
texts_count n [] = refl
texts_count n (l ∷ ls) = first l.bound l.kind (texts_count (suc n) ls)
  where
    first : (b : Bool) (k : NominalKind) → length (local_vars (suc n) ls) ≡ length (var_texts ls)
        → length (var_unless b k n (local_vars (suc n) ls)) ≡ length (text_of_var b k l.text (var_texts ls))
    first false (types.var t) e = ap suc e
    first false (types.name s) e = e
    first true (types.var t) e = e
    first true (types.name s) e = e

outs_bind : (locals : List NominalLocal) (os : List Output) → HaveBindings (length (var_texts locals)) (map (out_in locals) os)
outs_bind locals [] = tt
outs_bind locals (found p s d ∷ os) = (length-map (local_vars zero locals) _ ∙ texts_count zero locals, outs_bind locals os)
outs_bind locals (cut p ∷ os) = outs_bind locals os
outs_bind locals (chose p c ∷ os) = absurd c
outs_bind locals (stuck p ∷ os) = outs_bind locals os

pub query_binds : (program : Clauses) (d : ℕ) (q : NominalQuery) → HaveBindings (length (var_texts q.locals)) (query_outs program d q)
query_binds program d q = outs_bind q.locals (solve_query program d q)
