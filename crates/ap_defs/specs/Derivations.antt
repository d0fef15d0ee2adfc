-- Derivations: a node for each goal that was selected, over terms of some form. Over ground terms
-- they are the ground proofs of nominal logic.
use Rattle.std.specs.Prelude.{ℕ, suc, ◌+◌, max, List, [], ◌∷◌, ◌++◌, map}
use Rattle.ap_defs.specs.declared.terms.Name.{Name}
use Rattle.ap_defs.specs.declared.outcomes.Derivation as code
use Rattle.ap_defs.specs.Terms.{NominalTerm, GroundTerm, term_of}

pub data DerivationOver (T : Type 0) : Type 0 where
  -- the number of the clause from 1, what stands for its free names and its free variables, its body
  atom : ℕ → List Name → List T → DerivationOver T → DerivationOver T
  equal : DerivationOver T
  fresh : DerivationOver T
  succeed : DerivationOver T
  both : DerivationOver T → DerivationOver T → DerivationOver T
  left : DerivationOver T → DerivationOver T
  right : DerivationOver T → DerivationOver T
  exists : T → DerivationOver T → DerivationOver T
  new : Name → DerivationOver T → DerivationOver T

abbrev pub NominalDerivation : Type 0
NominalDerivation = DerivationOver NominalTerm

abbrev pub GroundProof : Type 0
GroundProof = DerivationOver GroundTerm

-- a derivation of the program, without where it lies in memory
abbrev pub derivation_of : code.Derivation → NominalDerivation
derivation_of (code.Atom' u p d) = atom u.value.clause u.value.names (map term_of u.value.terms) (derivation_of d)
derivation_of code.Eq = equal
derivation_of code.Fresh = fresh
derivation_of code.True = succeed
derivation_of (code.Both' p d q e) = both (derivation_of d) (derivation_of e)
derivation_of (code.Left' p d) = left (derivation_of d)
derivation_of (code.Right' p d) = right (derivation_of d)
derivation_of (code.Exists' t p d) = exists (term_of t.value) (derivation_of d)
derivation_of (code.New' a p d) = new a.value (derivation_of d)

-- each term replaced
abbrev pub map_terms : {S T : Type 0} → (S → T) → DerivationOver S → DerivationOver T
map_terms f (atom k as' ts d) = atom k as' (map f ts) (map_terms f d)
map_terms f equal = equal
map_terms f fresh = fresh
map_terms f succeed = succeed
map_terms f (both d e) = both (map_terms f d) (map_terms f e)
map_terms f (left d) = left (map_terms f d)
map_terms f (right d) = right (map_terms f d)
map_terms f (exists t d) = exists (f t) (map_terms f d)
map_terms f (new a d) = new a (map_terms f d)

-- the terms of its nodes, in preorder
abbrev pub terms_in : {T : Type 0} → DerivationOver T → List T
terms_in (atom k as' ts d) = ts ++ terms_in d
terms_in equal = []
terms_in fresh = []
terms_in succeed = []
terms_in (both d e) = terms_in d ++ terms_in e
terms_in (left d) = terms_in d
terms_in (right d) = terms_in d
terms_in (exists t d) = t ∷ terms_in d
terms_in (new a d) = terms_in d

-- how many atoms stand above one another at most
abbrev pub height : {T : Type 0} → DerivationOver T → ℕ
height (atom k as' ts d) = suc (height d)
height equal = 0
height fresh = 0
height succeed = 0
height (both d e) = max (height d) (height e)
height (left d) = height d
height (right d) = height d
height (exists t d) = height d
height (new a d) = height d

-- how many nodes it has, where those of a left part of a conjunction count twice
abbrev pub derivation_weight : {T : Type 0} → DerivationOver T → ℕ
derivation_weight (atom k as' ts d) = suc (derivation_weight d)
derivation_weight equal = 1
derivation_weight fresh = 1
derivation_weight succeed = 1
derivation_weight (both d e) = suc (derivation_weight d + derivation_weight d + derivation_weight e)
derivation_weight (left d) = suc (derivation_weight d)
derivation_weight (right d) = suc (derivation_weight d)
derivation_weight (exists t d) = suc (derivation_weight d)
derivation_weight (new a d) = suc (derivation_weight d)

-- the numbers of its clauses and the sides of its disjunctions, from the left
abbrev pub path : {T : Type 0} → DerivationOver T → List ℕ
path (atom k as' ts d) = k ∷ path d
path equal = []
path fresh = []
path succeed = []
path (both d e) = path d ++ path e
path (left d) = 1 ∷ path d
path (right d) = 2 ∷ path d
path (exists t d) = path d
path (new a d) = path d
