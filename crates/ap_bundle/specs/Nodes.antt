-- A derivation as the list of its nodes in preorder.
use Rattle.std.specs.Prelude.{ℕ, List, [], ◌∷◌, ◌++◌, Option, None, Some}
use Rattle.ap_defs.specs.declared.terms.Name.{Name}
use Rattle.ap_defs.specs.Derivations as derivation
use Rattle.ap_defs.specs.Derivations.{DerivationOver}
use Rattle.ap_bundle.specs.Forms.{◌>>=◌, first}

-- a node without its children
pub data Node (T : Type 0) : Type 0 where
  atom : ℕ → List Name → List T → Node T
  equal : Node T
  fresh : Node T
  succeed : Node T
  both : Node T
  left : Node T
  right : Node T
  exists : T → Node T
  new : Name → Node T

abbrev pub preorder : {T : Type 0} → DerivationOver T → List (Node T)
preorder (derivation.atom k names ts d) = atom k names ts ∷ preorder d
preorder derivation.equal = equal ∷ []
preorder derivation.fresh = fresh ∷ []
preorder derivation.succeed = succeed ∷ []
preorder (derivation.both d e) = both ∷ (preorder d ++ preorder e)
preorder (derivation.left d) = left ∷ preorder d
preorder (derivation.right d) = right ∷ preorder d
preorder (derivation.exists t d) = exists t ∷ preorder d
preorder (derivation.new a d) = new a ∷ preorder d

-- how many children a node has
abbrev pub children : {T : Type 0} → Node T → ℕ
children (atom k names ts) = 1
children equal = 0
children fresh = 0
children succeed = 0
children both = 2
children left = 1
children right = 1
children (exists t) = 1
children (new a) = 1

-- a node whose child is the first of some derivations, before the others
abbrev pub over_first : {T : Type 0} → (DerivationOver T → DerivationOver T) → List (DerivationOver T) → Option (List (DerivationOver T))
over_first node ds = first ds >>= λ d. Some (node d.0 ∷ d.1)

abbrev pub over_two : {T : Type 0} → List (DerivationOver T) → Option (List (DerivationOver T))
over_two ds = first ds >>= λ d. first d.1 >>= λ e. Some (derivation.both d.0 e.0 ∷ e.1)

-- a node before derivations, of which it takes its children
abbrev pub node_onto : {T : Type 0} → Node T → List (DerivationOver T) → Option (List (DerivationOver T))
node_onto (atom k names ts) ds = over_first (derivation.atom k names ts) ds
node_onto equal ds = Some (derivation.equal ∷ ds)
node_onto fresh ds = Some (derivation.fresh ∷ ds)
node_onto succeed ds = Some (derivation.succeed ∷ ds)
node_onto both ds = over_two ds
node_onto left ds = over_first derivation.left ds
node_onto right ds = over_first derivation.right ds
node_onto (exists t) ds = over_first (derivation.exists t) ds
node_onto (new a) ds = over_first (derivation.new a) ds

-- the derivations whose nodes these are
abbrev pub derivations : {T : Type 0} → List (Node T) → Option (List (DerivationOver T))
derivations [] = Some []
derivations (n ∷ ns) = derivations ns >>= node_onto n

abbrev pub one : {A : Type 0} → List A → Option A
one (x ∷ []) = Some x
one xs = None

-- the one derivation whose nodes these are
unfoldable pub derivation_from : {T : Type 0} → List (Node T) → Option (DerivationOver T)
derivation_from ns = derivations ns >>= one
