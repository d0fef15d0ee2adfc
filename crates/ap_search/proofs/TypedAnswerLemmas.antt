-- The answers of typed states are typed.
use Rattle.std.proofs.Common.{◌≡◌, ◌+◌, ℕ, zero, suc, Bool, true, false, List, [], ◌∷◌, map, length, refl, ap, ◌∙◌, arith}
use Rattle.std.specs.Prelude.{if◌then◌else◌, Option, Some, None}
use Rattle.ap_defs.specs.Answers.{answer_in, closed_term, kind_at, out_in, query_outs, typed_vars, vars_in, derivation_in, binds_in, with_type}
use Rattle.ap_defs.specs.Canonical.{canonical, canonical_term, canonical_within, least, moved_names, num_before, swap_first}
use Rattle.ap_defs.specs.Derivations.{NominalDerivation}
use Rattle.ap_defs.specs.Goals.{NominalProgram, NominalQuery}
use Rattle.ap_defs.specs.Permutations.{act_name, swap_of}
use Rattle.ap_defs.specs.Renaming.{local_vars, var_unless}
use Rattle.ap_defs.specs.Resolution.{Output, State, cut, found, kinds_of, solve_query, chose, stuck}
use Rattle.ap_defs.specs.Substitution.{under}
use Rattle.ap_defs.specs.Terms.{NominalTerm, abs, app, name, pair, susp, unit}
use Rattle.ap_defs.specs.Types as types
use Rattle.ap_defs.specs.Types.{NominalConstructor, NominalKind, NominalLocal, NominalType}
use Rattle.ap_defs.specs.Typing.{Want, one}
use Rattle.ap_defs.specs.declared.terms.Name.{Name}
use Rattle.ap_defs.specs.declared.terms.Swap.{Swap}
use Rattle.ap_defs.specs.declared.terms.Var.{Var}
use Rattle.ap_program.specs.RawTyping.{AreSwapsOf, AreVarsOf, HasTermType, IsNameOf, IsTypedTerm, IsVarOf}
use Rattle.ap_program.specs.Typed.{HaveTypes, IsTypedProgram, IsTypedQuery, term_form}
use Rattle.ap_search.specs.FitStates.{AllFound}
use Rattle.ap_search.specs.TypedStates.{AreTypedOuts, IsTypedAnswer, local_types, type_unless}
use Rattle.ap_search.proofs.TypedStateLemmas.{Grown, query_typed}
use Rattle.ap_search.proofs.TypedUnificationLemmas.{AreNamesOf, disagreement_typed}
use Rattle.ap_search.proofs.TypingLemmas.{abs_view, act_name_of, app_view, as_wanted, kind_at_front, pair_view, susp_view, under_typed}

module _ (cs : List NominalConstructor) (kinds : List NominalKind) where
  -- Canonical lists.
  least_typed : (a : Name) (as' : List Name) → IsNameOf kinds a a.sort → AreNamesOf cs kinds as' → IsNameOf kinds (least a as') (least a as').sort
  least_typed a [] h k = h
  least_typed a (b ∷ bs) h k =
      elim (num_before b a) as (λ v. IsNameOf kinds (if v then least b bs else least a bs) (if v then least b bs else least a bs).sort) [
        | true ↦ least_typed b bs k.0 k.1
        | false ↦ least_typed a bs h k.1
      ]

  first_typed : (go : List Swap → List Swap) → ((p : List Swap) → AreSwapsOf kinds p → AreSwapsOf kinds (go p)) → (p : List Swap) → AreSwapsOf kinds p
      → (as' : List Name) → AreNamesOf cs kinds as' → AreSwapsOf kinds (swap_first go p as')
  first_typed go k p h [] l = tt
  first_typed go k p h (a ∷ as') l =
      let b = least a as' in
      let left : IsNameOf kinds b b.sort = least_typed a as' l.0 l.1 in
      let image : IsNameOf kinds (act_name p b) b.sort = act_name_of cs kinds p b b.sort h left in
      let right : IsNameOf kinds (record { sort = b.sort; num = (act_name p b).num }) b.sort = (refl, image.1) in
      (left, right, k (swap_of b (act_name p b) ∷ p) (left, right, h))

  within_typed : (n : ℕ) (p : List Swap) → AreSwapsOf kinds p → AreSwapsOf kinds (canonical_within n p)
  within_typed zero p h = tt
  within_typed (suc n) p h = first_typed (canonical_within n) (within_typed n) p h (moved_names p) (disagreement_typed cs kinds p [] h tt)

  canonical_typed : (p : List Swap) → AreSwapsOf kinds p → AreSwapsOf kinds (canonical p)
  unfolding canonical
  canonical_typed p h = within_typed (length (moved_names p)) p h

  pub canonical_term_typed : (t : NominalTerm) (w : Want) → IsTypedTerm cs kinds t w → IsTypedTerm cs kinds (canonical_term t) w
  canonical_term_typed unit w k = k
  canonical_term_typed (name a) w k = k
  canonical_term_typed (pair t u) w k =
      let v = pair_view cs kinds t u w k in
      v.back kinds (canonical_term t) (canonical_term u) (canonical_term_typed t v.first v.left) (canonical_term_typed u v.second v.right)
  canonical_term_typed (app f t) w k = let v = app_view cs kinds f t w k in v.back kinds (canonical_term t) (canonical_term_typed t v.inner v.here)
  canonical_term_typed (abs a t) w k =
      let v = abs_view cs kinds a t w k in
      as_wanted cs kinds (abs a (canonical_term t)) w (one (types.abs v.0 v.1)) v.2 (v.3, canonical_term_typed t (one v.1) v.4)
  canonical_term_typed (susp p x) w k =
      let v = susp_view cs kinds p x w k in
      as_wanted cs kinds (susp (canonical p) x) w (one v.0) v.1 (canonical_typed p v.2, v.3)

  -- The free variables of an item, of which number i has the kind n + i.
  abbrev HaveKinds : ℕ → List NominalLocal → Type 0
  HaveKinds n locals = (i : ℕ) (k : NominalKind) → kind_at (kinds_of locals) i ≡ Some k → kind_at kinds (n + i) ≡ Some k

  locals_typed : (f : Var → NominalTerm) → ((x : Var) (a : NominalType) → IsVarOf kinds x a → HasTermType cs kinds (f x) a)
      → (n : ℕ) (locals : List NominalLocal) → HaveKinds n locals → HaveTypes (HasTermType cs kinds) (map f (local_vars n locals)) (local_types locals)
  locals_typed f h n [] k = tt
  locals_typed f h n (l ∷ ls) k =
      first l.bound l.kind (k zero l.kind refl)
      (locals_typed f h (suc n) ls (λ i j e. let same : suc n + i ≡ n + suc i = omega arith in ap (kind_at kinds) same ∙ k (suc i) j e))
    where
      first : (b : Bool) (j : NominalKind) → kind_at kinds (n + zero) ≡ Some j → HaveTypes (HasTermType cs kinds) (map f (local_vars (suc n) ls)) (local_types ls)
          → HaveTypes (HasTermType cs kinds) (map f (var_unless b j n (local_vars (suc n) ls))) (type_unless b j (local_types ls))
      first false (types.var t) e rest = let same : n ≡ n + zero = omega arith in (h (record { num = n }) t (ap (kind_at kinds) same ∙ e), rest)
      first false (types.name s) e rest = rest
      first true (types.var t) e rest = rest
      first true (types.name s) e rest = rest

  vars_typed : (xs : List Var) → AreVarsOf kinds (typed_vars kinds xs)
  vars_typed [] = tt
  vars_typed (x ∷ xs) = first (kind_at kinds x.num) refl (vars_typed xs)
    where
      first : (o : Option NominalKind) → kind_at kinds x.num ≡ o → AreVarsOf kinds (typed_vars kinds xs) → AreVarsOf kinds (with_type x o (typed_vars kinds xs))
      first None e rest = rest
      first (Some (types.var t)) e rest = (e, rest)
      first (Some (types.name s)) e rest = rest

-- the answer of a typed state whose first kinds are those of the query
pub answer_typed : (cs : List NominalConstructor) (locals : List NominalLocal) (s : State) (d : NominalDerivation) → Grown cs (kinds_of locals) s
    → IsTypedAnswer cs locals (answer_in locals s d)
answer_typed cs locals s d h = record {
  kinds = s.kinds;
  binds =
      locals_typed cs s.kinds (λ x. closed_term s (susp [] x))
      (λ x a e. canonical_term_typed cs s.kinds (under s.bindings (susp [] x)) (one a) (under_typed cs s.kinds s.bindings h.0.bindings (susp [] x) (one a) (tt, e)))
      zero locals
      (λ i k e. let same : zero + i ≡ i = omega arith in ap (kind_at s.kinds) same ∙ ap (λ ks. kind_at ks i) h.1.1 ∙ kind_at_front (kinds_of locals) h.1.0 i k e);
  conds = h.0.conditions;
  vars = vars_typed cs s.kinds (vars_in (binds_in locals s) s.conditions (derivation_in s d));
}

pub outs_typed : (cs : List NominalConstructor) (locals : List NominalLocal) (os : List Output) → AllFound (Grown cs (kinds_of locals)) os → AreTypedOuts cs locals (map (out_in locals) os)
outs_typed cs locals [] h = tt
outs_typed cs locals (found p s d ∷ os) h = (answer_typed cs locals s d h.0, outs_typed cs locals os h.1)
outs_typed cs locals (cut p ∷ os) h = outs_typed cs locals os h
outs_typed cs locals (chose p c ∷ os) h = absurd c
outs_typed cs locals (stuck p ∷ os) h = outs_typed cs locals os h

-- the answers of a typed query of a typed program are typed
pub answers_typed : (p : NominalProgram) → IsTypedProgram p → (d : ℕ) (q : NominalQuery) → IsTypedQuery term_form p.signature q
    → AreTypedOuts p.signature.constructors q.locals (query_outs p.clauses d q)
answers_typed p f d q k = outs_typed p.signature.constructors q.locals (solve_query p.clauses d q) (query_typed p f d q k)
