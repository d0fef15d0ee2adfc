-- The terms that a ground proof gives to variables have their types.
use Rattle.std.proofs.Common.{subst, ◌≡◌, ◌+◌, ℕ, zero, suc, true, false, List, [], ◌∷◌, ◌++◌, map, length, refl, sym, ap, ◌∙◌, arith}
use Rattle.std.specs.Prelude.{if◌then◌else◌, Option, Some, None}
use Rattle.std.proofs.lemmas.List.{length-map}
use Rattle.ap_defs.specs.Answers.{kind_at, typed_vars, with_type}
use Rattle.ap_defs.specs.Derivations as nodes
use Rattle.ap_defs.specs.Derivations.{GroundProof, height, path}
use Rattle.ap_defs.specs.Freshness.{var_eq}
use Rattle.ap_defs.specs.Goals as goals
use Rattle.ap_defs.specs.Goals.{NominalGoal, NominalClause, NominalProgram, NominalQuery, clauses_of}
use Rattle.ap_defs.specs.GroundProofs.{AreOfTypes, Environment, HasTypeOf, IsValid, environment, with_name, with_term}
use Rattle.ap_defs.specs.Groundings.{Grounding}
use Rattle.ap_defs.specs.Renaming.{local_vars, rename_var}
use Rattle.ap_defs.specs.Resolution.{kinds_of}
use Rattle.ap_defs.specs.Terms as terms
use Rattle.ap_defs.specs.Terms.{GroundTerm, act_ground, susp}
use Rattle.ap_defs.specs.Types as types
use Rattle.ap_defs.specs.Types.{NominalConstructor, NominalKind, NominalLocal, NominalType}
use Rattle.ap_defs.specs.Typing.{IsOfType}
use Rattle.ap_defs.specs.declared.terms.Var.{Var}
use Rattle.ap_program.specs.Typed.{AreInhabited, IsTypedProgram}
use Rattle.ap_search.proofs.TypingLemmas.{kind_at_back, kind_at_front}
use Rattle.ap_theory.proofs.TermLemmas.{var_same}
use Rattle.ap_ground.specs.TypedGroundings.{GivesTypes}
use Rattle.ap_ground.proofs.InstanceTypingLemmas.{inhabited_avoids}
use Rattle.ap_ground.proofs.ScopeLemmas.{program_clause_typed}
use Rattle.ap_ground.proofs.ItemEnvironmentLemmas.{vars_from}
use Rattle.ap_soundness.proofs.StepLemmas.{KindsAt}
use Rattle.ap_complete.specs.NumberedProofs.{kinds_in, kinds_of_use}
use Rattle.ap_complete.proofs.PairLemmas.{Pairs, looked, pairs_in, pairs_of_use, zipped}

module _ (p : NominalProgram) (typed : IsTypedProgram p) where
  abbrev cs : List NominalConstructor
  cs = p.signature.constructors

  pub inhabited-append : (ks ls : List NominalKind) → AreInhabited cs ks → AreInhabited cs ls → AreInhabited cs (ks ++ ls)
  inhabited-append [] ls h k = k
  inhabited-append (types.name a ∷ ks) ls h k = inhabited-append ks ls h k
  inhabited-append (types.var t ∷ ks) ls h k = (h.0, inhabited-append ks ls h.1 k)

  -- the types of the variables of the clauses that a proof uses are inhabited
  pub kinds_inhabited : (d : GroundProof) (g : NominalGoal) (kinds : List NominalKind) (e : Environment) → IsValid p kinds d g e → AreInhabited cs (kinds_in p g d)
  kinds_inhabited nodes.succeed goals.succeed kinds e v = tt
  kinds_inhabited nodes.equal (goals.equal t u) kinds e v = tt
  kinds_inhabited nodes.fresh (goals.fresh t u) kinds e v = tt
  kinds_inhabited (nodes.both d f) (goals.both g h) kinds e v = inhabited-append (kinds_in p g d) (kinds_in p h f) (kinds_inhabited d g kinds e v.0) (kinds_inhabited f h kinds e v.1)
  kinds_inhabited (nodes.left d) (goals.either g h) kinds e v = kinds_inhabited d g kinds e v
  kinds_inhabited (nodes.right d) (goals.either g h) kinds e v = kinds_inhabited d h kinds e v
  kinds_inhabited (nodes.exists t d) (goals.exists x g) kinds e v = kinds_inhabited d g kinds (with_term e x t) v.1
  kinds_inhabited (nodes.new c d) (goals.new a g) kinds e v = kinds_inhabited d g kinds (with_name e a c) v.2
  kinds_inhabited (nodes.atom k names gs d) (goals.atom q ts) kinds e v =
      let c = v.0 in
      let is = (program_clause_typed p.signature 0 p.clauses q k c typed.0 v.1).1 in
      subst (λ (o : Option NominalClause). AreInhabited cs (kinds_of_use (λ g. kinds_in p g d) o)) (sym v.1)
      (inhabited-append (kinds_of c.locals) (kinds_in p c.body d) is.2 (kinds_inhabited d c.body (kinds_of c.locals) (environment c.locals names gs) v.4))
  kinds_inhabited _ _ kinds e v = absurd v

  -- a term of the type at each number
  abbrev pub filling : (ks : List NominalKind) → AreInhabited cs ks → ℕ → GroundTerm
  filling [] h i = terms.unit
  filling (types.name s ∷ ks) h zero = terms.unit
  filling (types.var t ∷ ks) h zero = (inhabited_avoids cs t h.0 []).0
  filling (types.name s ∷ ks) h (suc i) = filling ks h i
  filling (types.var t ∷ ks) h (suc i) = filling ks h.1 i

  pub filling_typed : (ks : List NominalKind) (h : AreInhabited cs ks) (i : ℕ) (t : NominalType) → kind_at ks i ≡ Some (types.var t) → IsOfType cs (filling ks h i) t
  filling_typed [] h i t e = cc
  filling_typed (types.name s ∷ ks) h zero t e = cc
  filling_typed (types.var u ∷ ks) h zero t e =
      let same : u ≡ t = cc in
      subst (λ (a : NominalType). IsOfType cs (inhabited_avoids cs u h.0 []).0 a) same (inhabited_avoids cs u h.0 []).1
  filling_typed (types.name s ∷ ks) h (suc i) t e = filling_typed ks h i t e
  filling_typed (types.var u ∷ ks) h (suc i) t e = filling_typed ks h.1 i t e

  module _ (all : List NominalKind) where
    abbrev pub TypedPairs : Pairs → Type 0
    TypedPairs [] = Unit {0}
    TypedPairs (v ∷ ps) = HasTypeOf cs (kind_at all v.0.num) v.1 × TypedPairs ps

    pub typed-append : (ps qs : Pairs) → TypedPairs ps → TypedPairs qs → TypedPairs (ps ++ qs)
    typed-append [] qs h k = k
    typed-append (v ∷ ps) qs h k = (h.0, typed-append ps qs h.1 k)

    type_moved : (kinds : List NominalKind) (n i : ℕ) (t : GroundTerm) → KindsAt n kinds all → HasTypeOf cs (kind_at kinds i) t → HasTypeOf cs (kind_at all (n + i)) t
    type_moved kinds n i t at h = go (kind_at kinds i) refl h
      where
        go : (o : Option NominalKind) → kind_at kinds i ≡ o → HasTypeOf cs o t → HasTypeOf cs (kind_at all (n + i)) t
        go None e k = absurd k
        go (Some (types.name s)) e k = absurd k
        go (Some (types.var a)) e k = subst (λ (o : Option NominalKind). HasTypeOf cs o t) (sym (at i (types.var a) e)) k

    zipped_typed : (m : ℕ) (kinds : List NominalKind) → KindsAt m kinds all → (xs : List Var) (gs : List GroundTerm) → AreOfTypes cs kinds xs gs → TypedPairs (zipped (map (rename_var m) xs) gs)
    zipped_typed m kinds at [] [] h = tt
    zipped_typed m kinds at (x ∷ xs) (g ∷ gs) h = (type_moved kinds m x.num g at h.0, zipped_typed m kinds at xs gs h.1)
    zipped_typed m kinds at [] (g ∷ gs) h = absurd h
    zipped_typed m kinds at (x ∷ xs) [] h = absurd h

    pub item_typed : (m : ℕ) (locals : List NominalLocal) (gs : List GroundTerm) → KindsAt m (kinds_of locals) all → AreOfTypes cs (kinds_of locals) (local_vars 0 locals) gs
        → TypedPairs (zipped (local_vars m locals) gs)
    item_typed m locals gs at h = subst (λ (xs : List Var). TypedPairs (zipped xs gs)) (sym (vars_from m locals)) (zipped_typed m (kinds_of locals) at (local_vars 0 locals) gs h)

    kinds_front : (m : ℕ) (ks ls : List NominalKind) → KindsAt m (ks ++ ls) all → KindsAt m ks all
    kinds_front m ks ls at i k e = at i k (kind_at_front ks ls i k e)

    kinds_back : (m : ℕ) (ks ls : List NominalKind) → KindsAt m (ks ++ ls) all → KindsAt (m + length ks) ls all
    kinds_back m ks ls at i k e =
        let f : (m + length ks) + i ≡ m + (length ks + i) = omega arith in
        ap (kind_at all) f ∙ at (length ks + i) k (kind_at_back ks ls i ∙ e)

    pub pairs_typed : (d : GroundProof) (g : NominalGoal) (n m : ℕ) (kinds : List NominalKind) (e : Environment) → IsValid p kinds d g e → KindsAt n kinds all → KindsAt m (kinds_in p g d) all
        → TypedPairs (pairs_in p n m g d)
    pairs_typed nodes.succeed goals.succeed n m kinds e v a b = tt
    pairs_typed nodes.equal (goals.equal t u) n m kinds e v a b = tt
    pairs_typed nodes.fresh (goals.fresh t u) n m kinds e v a b = tt
    pairs_typed (nodes.both d f) (goals.both g h) n m kinds e v a b =
        typed-append (pairs_in p n m g d) (pairs_in p n (m + length (kinds_in p g d)) h f)
        (pairs_typed d g n m kinds e v.0 a (kinds_front m (kinds_in p g d) (kinds_in p h f) b))
        (pairs_typed f h n (m + length (kinds_in p g d)) kinds e v.1 a (kinds_back m (kinds_in p g d) (kinds_in p h f) b))
    pairs_typed (nodes.left d) (goals.either g h) n m kinds e v a b = pairs_typed d g n m kinds e v a b
    pairs_typed (nodes.right d) (goals.either g h) n m kinds e v a b = pairs_typed d h n m kinds e v a b
    pairs_typed (nodes.exists t d) (goals.exists x g) n m kinds e v a b = (type_moved kinds n x.num t a v.0, pairs_typed d g n m kinds (with_term e x t) v.1 a b)
    pairs_typed (nodes.new c d) (goals.new y g) n m kinds e v a b = pairs_typed d g n m kinds (with_name e y c) v.2 a b
    pairs_typed (nodes.atom k names gs d) (goals.atom q ts) n m kinds e v a b =
        let c = v.0 in
        let ls = kinds_of c.locals in
        let inner = kinds_in p c.body d in
        let at : KindsAt m (ls ++ inner) all = subst (λ (o : Option NominalClause). KindsAt m (kinds_of_use (λ g. kinds_in p g d) o) all) v.1 b in
        let later : KindsAt (m + length c.locals) inner all =
        subst (λ (j : ℕ). KindsAt (m + j) inner all) (length-map c.locals (λ l. l.kind)) (kinds_back m ls inner at) in
        subst (λ (o : Option NominalClause). TypedPairs (pairs_of_use m gs (λ i j g. pairs_in p i j g d) o)) (sym v.1)
        (typed-append (zipped (local_vars m c.locals) gs) (pairs_in p m (m + length c.locals) c.body d) (item_typed m c.locals gs (kinds_front m ls inner at) v.2.types)
        (pairs_typed d c.body m (m + length c.locals) ls (environment c.locals names gs) v.4 (kinds_front m ls inner at) later))
    pairs_typed _ _ n m kinds e v a b = absurd v

    pub looked_typed : (ps : Pairs) (f : Grounding) → TypedPairs ps → (x : Var) (t : NominalType) → kind_at all x.num ≡ Some (types.var t) → IsOfType cs (f x) t → IsOfType cs (looked ps f x) t
    looked_typed [] f h x t e k = k
    looked_typed (v ∷ ps) f h x t e k =
        elim (var_eq x v.0) as (λ b. var_eq x v.0 ≡ b → IsOfType cs (if b then v.1 else looked ps f x) t) [
          | true ↦ λ i.
              let o : kind_at all v.0.num ≡ Some (types.var t) = ap (λ (y : Var). kind_at all y.num) (sym (var_same x v.0 i)) ∙ e in
              subst (λ (w : Option NominalKind). HasTypeOf cs w v.1) o h.0
          | false ↦ λ i. looked_typed ps f h.1 x t e k
        ] refl

    -- variables with the types that they have by these kinds
    pub given_types : (f : Grounding) → ((x : Var) (t : NominalType) → kind_at all x.num ≡ Some (types.var t) → IsOfType cs (f x) t) → (xs : List Var) → GivesTypes cs (typed_vars all xs) f
    given_types f h [] = tt
    given_types f h (x ∷ xs) = go (kind_at all x.num) refl (given_types f h xs)
      where
        go : (o : Option NominalKind) → kind_at all x.num ≡ o → GivesTypes cs (typed_vars all xs) f → GivesTypes cs (with_type x o (typed_vars all xs)) f
        go None e rest = rest
        go (Some (types.name s)) e rest = rest
        go (Some (types.var t)) e rest = (h x t e, rest)
