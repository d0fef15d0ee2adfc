-- Nodes by lines over the terms of a table, and the derivation that they are.
use Rattle.std.proofs.Common.{◌≡◌, List, [], ◌∷◌, map, length, Option, None, Some, Result, Ok, Err, refl, ap, sym, ◌∙◌}
use Rattle.std.specs.Option.{option_map}
use Rattle.ap_defs.specs.Derivations.{DerivationOver, NominalDerivation, map_terms}
use Rattle.ap_defs.specs.Terms.{NominalTerm}
use Rattle.ap_bundle.specs.declared.faults.BundleKind.TheVariants.{Node}
use Rattle.ap_bundle.specs.Forms.{◌>>=◌}
use Rattle.ap_bundle.specs.Nodes.{children, derivation_from, derivations, one}
use Rattle.ap_bundle.specs.Nodes as nodes
use Rattle.ap_bundle.specs.Readers.{Reader, Unread, Wrong, found, on_ok, wrong}
use Rattle.ap_bundle.specs.Reading.{read_derivation, read_nodes}
use Rattle.ap_bundle_read.specs.declared.nodes.Bare.{Bare}
use Rattle.ap_bundle_read.specs.declared.nodes.Bare.TheVariants as bare
use Rattle.ap_bundle_read.specs.CitedNodes.{cited_node}
use Rattle.ap_bundle_read.specs.Nodes.{bare_node}
use Rattle.ap_shared.specs.declared.derivations.SharedDerivation.{SharedDerivation}
use Rattle.ap_shared.specs.declared.nodes.SharedNode.{SharedNode}
use Rattle.ap_shared.specs.FirstNodes.{map_node}
use Rattle.ap_shared.specs.LineDerivations.{derivation_lines}
use Rattle.ap_shared.specs.LineNodes.{node_by_lines}
use Rattle.ap_shared.specs.Shared.{shared_at}
use Rattle.ap_shared.specs.SharedViews.{shared_derivation}
use Rattle.ap_shared.proofs.NodeLemmas.{derivations_map}

-- a node that brings no terms is the same over other terms
bare_mapped : {S T : Type 0} (f : S → T) (b : Bare) → map_node f (bare_node b) ≡ bare_node b
bare_mapped f bare.Eq = refl
bare_mapped f bare.Fresh = refl
bare_mapped f bare.True = refl
bare_mapped f bare.And = refl
bare_mapped f bare.Left = refl
bare_mapped f bare.Right = refl
bare_mapped f (bare.New a) = refl

pub bare_cited : (ts : List NominalTerm) (n : SharedNode) (b : Bare) → node_by_lines n ≡ bare_node b → cited_node ts n ≡ bare_node b
bare_cited ts n b e = ap (map_node (shared_at ts)) e ∙ bare_mapped (shared_at ts) b

-- as many children as over the terms
pub children_mapped : {S T : Type 0} (f : S → T) (n : nodes.Node S) → children (map_node f n) ≡ children n
children_mapped f (nodes.atom k names ts) = refl
children_mapped f nodes.equal = refl
children_mapped f nodes.fresh = refl
children_mapped f nodes.succeed = refl
children_mapped f nodes.both = refl
children_mapped f nodes.left = refl
children_mapped f nodes.right = refl
children_mapped f (nodes.exists t) = refl
children_mapped f (nodes.new a) = refl

one_mapped : {S T : Type 0} (f : S → T) (o : Option (List (DerivationOver S))) → (option_map (map (map_terms f)) o >>= one) ≡ option_map (map_terms f) (o >>= one)
one_mapped f None = refl
one_mapped f (Some []) = refl
one_mapped f (Some (d ∷ [])) = refl
one_mapped f (Some (d ∷ (e ∷ ds))) = refl

-- the derivation of nodes over other terms
from_map : {S T : Type 0} (f : S → T) (ns : List (nodes.Node S)) → derivation_from (map (map_node f) ns) ≡ option_map (map_terms f) (derivation_from ns)
unfolding derivation_from
from_map f ns = ap (λ o. o >>= one) (derivations_map f ns) ∙ one_mapped f (derivations ns)

nodes_cited : (ts : List NominalTerm) (ns : List SharedNode) → map (cited_node ts) ns ≡ map (map_node (shared_at ts)) (map node_by_lines ns)
nodes_cited ts [] = refl
nodes_cited ts (n ∷ ns) = ap (λ ms. cited_node ts n ∷ ms) (nodes_cited ts ns)

derivation_cited : (ts : List NominalTerm) (ns : List SharedNode) → derivation_from (map (cited_node ts) ns) ≡ option_map (map_terms (shared_at ts)) (derivation_from (map node_by_lines ns))
derivation_cited ts ns = ap derivation_from (nodes_cited ts ns) ∙ from_map (shared_at ts) (map node_by_lines ns)

-- what is made of the nodes by lines is the derivation over the terms
derivation_read : (ts : List NominalTerm) (ns : List SharedNode) (r : Option SharedDerivation) → option_map derivation_lines r ≡ derivation_from (map node_by_lines ns)
    → derivation_from (map (cited_node ts) ns) ≡ option_map (shared_derivation ts) r
derivation_read ts ns r e = derivation_cited ts ns ∙ ap (option_map (map_terms (shared_at ts))) (sym e) ∙ over r
  where
    over : (o : Option SharedDerivation) → option_map (map_terms (shared_at ts)) (option_map derivation_lines o) ≡ option_map (shared_derivation ts) o
    over None = refl
    over (Some d) = refl

module _ (term : Reader NominalTerm) (ts : List NominalTerm) (ns : List SharedNode) (r : Option SharedDerivation) (p q : Unread)
    (got : read_nodes term (length p.rest) 1 p ≡ Ok (map (cited_node ts) ns, q)) (made : option_map derivation_lines r ≡ derivation_from (map node_by_lines ns)) where
  abbrev behind : Option SharedDerivation → Result (NominalDerivation × Unread) Wrong
  behind o = on_ok (found Node p (option_map (shared_derivation ts) o)) (λ d. Ok (d, q))

  derivation_here : read_derivation term p ≡ behind r
  unfolding read_derivation
  derivation_here = rw (got, derivation_read ts ns r made) refl

  pub derivation_some : (d : SharedDerivation) → r ≡ Some d → read_derivation term p ≡ Ok (shared_derivation ts d, q)
  derivation_some d e = derivation_here ∙ ap behind e

  pub derivation_none : ((d : SharedDerivation) → r ≡ Some d → ⊥) → read_derivation term p ≡ Err (wrong Node p)
  derivation_none never = derivation_here ∙ go r never
    where
      go : (o : Option SharedDerivation) → ((d : SharedDerivation) → o ≡ Some d → ⊥) → behind o ≡ Err (wrong Node p)
      go None none = refl
      go (Some d) none = absurd (none d refl)
