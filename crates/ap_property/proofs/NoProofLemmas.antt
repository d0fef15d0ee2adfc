-- A conclusion that comes to nothing with terms put in has no ground proof under them.
use Rattle.std.proofs.Common.{◌≡◌, ◌<◌, ◌≤◌, ◌∙◌, ◌+◌, ℕ, suc, Bool, true, false, List, [], ◌∷◌, ◌++◌, map, Option, Some, None, refl, sym, ap, ap₂, subst, arith}
use Rattle.std.specs.Prelude.{if◌then◌else◌}
use Rattle.std.proofs.lemmas.Bool.Decides.{nat_tests}
use Rattle.std.proofs.Math.Nat.{max-le}
use Rattle.ap_defs.specs.declared.terms.Name.{Name}
use Rattle.ap_defs.specs.declared.terms.Var.{Var}
use Rattle.ap_defs.specs.Alpha.{alpha}
use Rattle.ap_defs.specs.Answers.{NominalOut, kind_at, query_outs}
use Rattle.ap_defs.specs.Derivations.{GroundProof, atom, both, equal, exists, fresh, height, left, new, right, succeed}
use Rattle.ap_defs.specs.Freshness.{var_eq}
use Rattle.ap_defs.specs.Goals as goals
use Rattle.ap_defs.specs.Goals.{NominalGoal, NominalProgram, NominalQuery}
use Rattle.ap_defs.specs.GroundProofs.{AreOfTypes, Environment, HasTypeOf, IsDerivable, IsValid, environment, instance, name_for, term_for}
use Rattle.ap_defs.specs.Permutations.{name_eq}
use Rattle.ap_defs.specs.Renaming.{local_names, local_vars, var_unless}
use Rattle.ap_defs.specs.Resolution.{kinds_of}
use Rattle.ap_defs.specs.Terms as terms
use Rattle.ap_defs.specs.Terms.{GroundTerm}
use Rattle.ap_defs.specs.Types as types
use Rattle.ap_defs.specs.Types.{NominalConstructor, NominalKind, NominalLocal}
use Rattle.ap_defs.specs.Typing.{embedded}
use Rattle.ap_program.specs.Typed.{IsTypedQuery, term_form}
use Rattle.ap_theory.proofs.GroundLemmas.{act_ground_none, alpha_itself}
use Rattle.ap_theory.proofs.PermutationLemmas.{name_eq_same}
use Rattle.ap_theory.proofs.TermLemmas.{same_var}
use Rattle.ap_search.specs.Depths.{HasNoCutOut}
use Rattle.ap_search.proofs.DepthLemmas.{query_deeper}
use Rattle.ap_search.proofs.TypingLemmas.{kind_at_front}
use Rattle.ap_ground.proofs.FreeIdentifierLemmas.{proofs_see_free}
use Rattle.ap_ground.proofs.ProofActionLemmas.{same_environment}
use Rattle.ap_complete.specs.Coverings.{answered, is_stuck}
use Rattle.ap_complete.specs.NumberedProofs.{IsAmong}
use Rattle.ap_complete.specs.Restriction.{KeepsRestriction}
use Rattle.ap_complete.proofs.CoveringLemmas.{proofs_covered}
use Rattle.ap_property.specs.Fitting.{FitsLocals}
use Rattle.ap_property.specs.Properties.{conclusion, conclusion_query}
use Rattle.ap_property.specs.PutIn.{query_put_in, with_terms}
use Rattle.ap_property.specs.Stated.{Instance}
use Rattle.ap_property.proofs.LocalLemmas.{kinds_with, vars_with, with_names}
use Rattle.ap_property.proofs.PutInLemmas.{put_in_typed}

-- More kinds.
module _ (cs : List NominalConstructor) (ks ls : List NominalKind) where
  type_front : (n : ℕ) (g : GroundTerm) → HasTypeOf cs (kind_at ks n) g → HasTypeOf cs (kind_at (ks ++ ls) n) g
  type_front n g h = first (kind_at ks n) refl h
    where
      first : (o : Option NominalKind) → kind_at ks n ≡ o → HasTypeOf cs o g → HasTypeOf cs (kind_at (ks ++ ls) n) g
      first None e k = absurd k
      first (Some (types.name s)) e k = absurd k
      first (Some (types.var t)) e k = subst (λ (o : Option NominalKind). HasTypeOf cs o g) (sym (kind_at_front ks ls n (types.var t) e)) k

  types_front : (xs : List Var) (gs : List GroundTerm) → AreOfTypes cs ks xs gs → AreOfTypes cs (ks ++ ls) xs gs
  types_front [] [] h = tt
  types_front (x ∷ xs) (g ∷ gs) h = (type_front x.num g h.0, types_front xs gs h.1)
  types_front [] (g ∷ gs) h = absurd h
  types_front (x ∷ xs) [] h = absurd h

valid_front : (p : NominalProgram) (ks ls : List NominalKind) (d : GroundProof) (g : NominalGoal) (e : Environment) → IsValid p ks d g e → IsValid p (ks ++ ls) d g e
valid_front p ks ls (atom k as' gs d) (goals.atom q ts) e v = v
valid_front p ks ls equal (goals.equal t u) e v = v
valid_front p ks ls fresh (goals.fresh t u) e v = v
valid_front p ks ls succeed goals.succeed e v = tt
valid_front p ks ls (both d c) (goals.both g h) e v = (valid_front p ks ls d g e v.0, valid_front p ks ls c h e v.1)
valid_front p ks ls (left d) (goals.either g h) e v = valid_front p ks ls d g e v
valid_front p ks ls (right d) (goals.either g h) e v = valid_front p ks ls d h e v
valid_front p ks ls (exists t d) (goals.exists x g) e v = (type_front p.signature.constructors ks ls x.num t v.0, valid_front p ks ls d g _ v.1)
valid_front p ks ls (new c d) (goals.new a g) e v = (v.0, v.1, valid_front p ks ls d g _ v.2)
valid_front p ks ls _ _ e v = absurd v

-- An environment in which each name stands for itself.
pub own_name : (as' : List Name) (b : Name) → name_for as' as' b ≡ b
own_name [] b = refl
own_name (a ∷ as') b =
    elim (name_eq a b) as (λ v. name_eq a b ≡ v → (if v then a else name_for as' as' b) ≡ b) [
      | true ↦ λ e. name_eq_same a b e
      | false ↦ λ e. own_name as' b
    ] refl

module _ (e : Environment) (own : (b : Name) → e.names b ≡ b) where
  pub instance_ground : (g : GroundTerm) → instance e (embedded g) ≡ g
  instance_ground terms.unit = refl
  instance_ground (terms.name a) = ap terms.name (own a)
  instance_ground (terms.pair t u) = ap₂ terms.pair (instance_ground t) (instance_ground u)
  instance_ground (terms.app f t) = ap (terms.app f) (instance_ground t)
  instance_ground (terms.abs a t) = ap₂ terms.abs (own a) (instance_ground t)

  -- each variable has the term beside it
  abbrev HasTerms : List Var → List GroundTerm → Type 0
  HasTerms (x ∷ xs) (g ∷ gs) = (e.terms x ≡ g) × HasTerms xs gs
  HasTerms _ _ = Unit {0}

  abbrev with_proofs : List Var → List GroundTerm → GroundProof → GroundProof
  with_proofs (x ∷ xs) (g ∷ gs) d = both equal (with_proofs xs gs d)
  with_proofs _ _ d = d

  module _ (p : NominalProgram) (kinds : List NominalKind) (goal : NominalGoal) (d : GroundProof) (valid : IsValid p kinds d goal e) where
    valid_with : (xs : List Var) (gs : List GroundTerm) → HasTerms xs gs → IsValid p kinds (with_proofs xs gs d) (with_terms xs gs goal) e
    valid_with (x ∷ xs) (g ∷ gs) h =
        let left_side : instance e (terms.susp [] x) ≡ g = act_ground_none (e.terms x) ∙ h.0 in
        (ap₂ alpha left_side (instance_ground g) ∙ alpha_itself g, valid_with xs gs h.1)
    valid_with [] gs h = valid
    valid_with (x ∷ xs) [] h = valid

    height_with : (n : ℕ) → height d ≤ n → (xs : List Var) (gs : List GroundTerm) → height (with_proofs xs gs d) ≤ n
    height_with n l (x ∷ xs) (g ∷ gs) = max-le (omega arith) (height_with n l xs gs)
    height_with n l [] gs = l
    height_with n l (x ∷ xs) [] = l

-- The variables of a query are different.
abbrev AreAbove : ℕ → List Var → Type 0
AreAbove n [] = Unit {0}
AreAbove n (x ∷ xs) = (n ≤ x.num) × AreAbove (suc x.num) xs

above_more : (m n : ℕ) → m ≤ n → (xs : List Var) → AreAbove n xs → AreAbove m xs
above_more m n l [] h = tt
above_more m n l (x ∷ xs) h = ((let k = h.0 in omega (arith, k, l)), h.1)

vars_above : (n : ℕ) (ls : List NominalLocal) → AreAbove n (local_vars n ls)
vars_above n [] = tt
vars_above n (l ∷ ls) = first l.bound l.kind (vars_above (suc n) ls)
  where
    first : (b : Bool) (k : NominalKind) → AreAbove (suc n) (local_vars (suc n) ls) → AreAbove n (var_unless b k n (local_vars (suc n) ls))
    first true k h = above_more n (suc n) (omega arith) (local_vars (suc n) ls) h
    first false (types.name s) h = above_more n (suc n) (omega arith) (local_vars (suc n) ls) h
    first false (types.var t) h = (omega arith, h)

differ : (x y : Var) → x.num < y.num → var_eq x y ≡ false
differ x y l = grind (arith, nat_tests)

-- each has the term beside it
abbrev BesideTerms : (Var → GroundTerm) → List Var → List GroundTerm → Type 0
BesideTerms f (x ∷ xs) (g ∷ gs) = (f x ≡ g) × BesideTerms f xs gs
BesideTerms f _ _ = Unit {0}

later_terms : (x : Var) (g : GroundTerm) (f : Var → GroundTerm) (xs : List Var) (gs : List GroundTerm) → AreAbove (suc x.num) xs → BesideTerms f xs gs
    → BesideTerms (λ y. if var_eq x y then g else f y) xs gs
later_terms x g f (y ∷ ys) (u ∷ us) h k =
    let e = differ x y (let l = h.0 in omega (arith, l)) in (
      ap (λ b. if b then g else f y) e ∙ k.0,
      later_terms x g f ys us (above_more (suc x.num) (suc y.num) (let l = h.0 in omega (arith, l)) ys h.1) k.1,
    )
later_terms x g f [] gs h k = tt
later_terms x g f (y ∷ ys) [] h k = tt

beside_terms : (n : ℕ) (xs : List Var) (gs : List GroundTerm) → AreAbove n xs → BesideTerms (term_for xs gs) xs gs
beside_terms n (x ∷ xs) (g ∷ gs) h =
    (ap (λ b. if b then g else term_for xs gs x) (same_var x x refl), later_terms x g (term_for xs gs) xs gs h.1 (beside_terms (suc x.num) xs gs h.1))
beside_terms n [] gs h = tt
beside_terms n (x ∷ xs) [] h = tt

has_terms : (e : Environment) (own : (b : Name) → e.names b ≡ b) (xs : List Var) (gs : List GroundTerm) → BesideTerms e.terms xs gs → HasTerms e own xs gs
has_terms e own (x ∷ xs) (g ∷ gs) h = (h.0, has_terms e own xs gs h.1)
has_terms e own [] gs h = tt
has_terms e own (x ∷ xs) [] h = tt

none_among : (o : NominalOut) (os : List NominalOut) → os ≡ [] → IsAmong o os → ⊥
none_among o [] e h = h
none_among o (x ∷ os) e h = cc

module _ (p : NominalProgram) (kept : KeepsRestriction p) (q : NominalQuery) (typed : IsTypedQuery term_form p.signature (conclusion_query q)) (i : Instance)
    (fits : FitsLocals p.signature.constructors q.locals i) (depth : ℕ) (none : query_outs p.clauses depth (query_put_in q i) ≡ []) where
  abbrev locals : List NominalLocal
  locals = with_names q.locals i.sorts

  abbrev before : Environment
  before = environment q.locals (local_names 0 q.locals) i.terms

  abbrev after : Environment
  after = environment locals (local_names 0 locals) i.terms

  pub no_proof : (n : ℕ) → IsDerivable p (conclusion_query q) i.terms n → ⊥
  no_proof n (d, valid, low) =
      let cs = p.signature.constructors in
      let xs = local_vars 0 q.locals in
      let goal = conclusion q.goal in
      let own : (b : Name) → after.names b ≡ b = own_name (local_names 0 locals) in
      let same_terms = λ (x : Var). ap (λ ys. term_for ys i.terms x) (sym (vars_with 0 q.locals i.sorts)) in
      let wide : IsValid p (kinds_of locals) d goal before = subst (λ ks. IsValid p ks d goal before) (sym (kinds_with q.locals i.sorts)) (valid_front p (kinds_of q.locals) (map types.name i.sorts) d goal before valid) in
      let moved : IsValid p (kinds_of locals) d goal after = proofs_see_free p (kinds_of locals) d goal before after wide
      (same_environment goal before after (λ b. own_name (local_names 0 q.locals) b ∙ sym (own b)) same_terms) in
      let beside : BesideTerms after.terms xs i.terms =
      subst (λ ys. BesideTerms (term_for ys i.terms) xs i.terms) (sym (vars_with 0 q.locals i.sorts)) (beside_terms 0 xs i.terms (vars_above 0 q.locals)) in
      let proof = with_proofs after own xs i.terms d in
      let whole = valid_with after own p (kinds_of locals) goal d moved xs i.terms (has_terms after own xs i.terms beside) in
      let deep : n ≤ depth + n = omega arith in
      let high : height d ≤ depth + n = omega (arith, low, deep) in
      let fewer = height_with after own p (kinds_of locals) goal d moved (depth + n) high xs i.terms in
      let types = subst (λ ks. AreOfTypes cs ks xs i.terms) (sym (kinds_with q.locals i.sorts)) (types_front cs (kinds_of q.locals) (map types.name i.sorts) xs i.terms fits.types) in
      let all_types = subst (λ ys. AreOfTypes cs (kinds_of locals) ys i.terms) (sym (vars_with 0 q.locals i.sorts)) types in
      let uncut = subst HasNoCutOut (sym none) tt in
      let nothing : query_outs p.clauses (depth + n) (query_put_in q i) ≡ [] = query_deeper p.clauses depth (depth + n) (query_put_in q i) (omega arith) uncut ∙ none in
      elim (proofs_covered p kept (query_put_in q i) (put_in_typed p.signature q i typed fits) (depth + n) i.terms all_types proof whole fewer) [
        | answered a m j ↦ none_among _ _ nothing m
        | is_stuck l m j ↦ none_among _ _ nothing m
      ]
