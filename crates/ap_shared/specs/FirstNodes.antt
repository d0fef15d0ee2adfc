-- The first node of a derivation, its terms, and its children.
use Rattle.std.specs.Prelude.{List, [], ◌∷◌, map}
use Rattle.std.specs.Borrow.{Bor}
use Rattle.ap_defs.specs.Derivations as derivation
use Rattle.ap_defs.specs.Derivations.{DerivationOver}
use Rattle.ap_bundle.specs.Nodes.{Node, atom, equal, fresh, succeed, both, left, right, exists, new}

-- each term replaced
abbrev pub map_node : {S T : Type 0} → (S → T) → Node S → Node T
map_node f (atom k names ts) = atom k names (map f ts)
map_node f equal = equal
map_node f fresh = fresh
map_node f succeed = succeed
map_node f both = both
map_node f left = left
map_node f right = right
map_node f (exists t) = exists (f t)
map_node f (new a) = new a

abbrev pub first_node : {T : Type 0} → DerivationOver T → Node T
first_node (derivation.atom k names ts d) = atom k names ts
first_node derivation.equal = equal
first_node derivation.fresh = fresh
first_node derivation.succeed = succeed
first_node (derivation.both d e) = both
first_node (derivation.left d) = left
first_node (derivation.right d) = right
first_node (derivation.exists t d) = exists t
first_node (derivation.new a d) = new a

-- its terms
abbrev pub node_terms : {T : Type 0} → Node T → List T
node_terms (atom k names ts) = ts
node_terms equal = []
node_terms fresh = []
node_terms succeed = []
node_terms both = []
node_terms left = []
node_terms right = []
node_terms (exists t) = t ∷ []
node_terms (new a) = []

-- its children, the last one first
abbrev pub children_back : {T : Type 0} → DerivationOver T → List (DerivationOver T)
children_back (derivation.atom k names ts d) = d ∷ []
children_back derivation.equal = []
children_back derivation.fresh = []
children_back derivation.succeed = []
children_back (derivation.both d e) = e ∷ d ∷ []
children_back (derivation.left d) = d ∷ []
children_back (derivation.right d) = d ∷ []
children_back (derivation.exists t d) = d ∷ []
children_back (derivation.new a d) = d ∷ []

-- the parts that references on a stack stand for
abbrev pub seen : {A B : Type 0} → (A → B) → List (Bor A) → List B
seen view rs = map (λ r. view r.now) rs
