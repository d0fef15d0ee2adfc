-- The lines of a derivation's nodes: those of the first, and of its children.
use Rattle.std.proofs.Common.{◌≡◌, ℕ, ◌<◌, List, [], ◌∷◌, ◌++◌, length, refl, ap, sym, ◌∙◌, flat_map, append_assoc, arith}
use Rattle.std.proofs.lemmas.Grind.{flat_map-append}
use Rattle.ap_defs.specs.Terms.{NominalTerm}
use Rattle.ap_defs.specs.Derivations as derivation
use Rattle.ap_defs.specs.Derivations.{NominalDerivation, terms_in}
use Rattle.ap_bundle.specs.Nodes.{preorder}
use Rattle.ap_bundle.specs.Written.{node_lines}
use Rattle.ap_shared.specs.FirstNodes.{first_node, node_terms, children_back}
use Rattle.ap_bundle_write.proofs.Stacks.{later, later_append, later_last}

abbrev pub node_texts : (NominalTerm → List ℕ) → NominalDerivation → List ℕ
node_texts way d = flat_map (node_lines way) (preorder d)

-- the texts of one child, or of two
one_later : {A B : Type 0} (f : A → List B) (x : A) → f x ≡ later f (x ∷ [])
one_later f x = refl

pub first_texts : (way : NominalTerm → List ℕ) (d : NominalDerivation) → node_texts way d ≡ node_lines way (first_node d) ++ later (node_texts way) (children_back d)
first_texts way (derivation.atom k names ts d) = refl
first_texts way derivation.equal = refl
first_texts way derivation.fresh = refl
first_texts way derivation.succeed = refl
first_texts way (derivation.both d e) = ap (λ z. node_lines way (first_node (derivation.both d e)) ++ z) (flat_map-append (node_lines way) (preorder d) (preorder e))
first_texts way (derivation.left d) = refl
first_texts way (derivation.right d) = refl
first_texts way (derivation.exists t d) = refl
first_texts way (derivation.new a d) = refl

pub first_terms : (d : NominalDerivation) → terms_in d ≡ node_terms (first_node d) ++ later terms_in (children_back d)
first_terms (derivation.atom k names ts d) = refl
first_terms derivation.equal = refl
first_terms derivation.fresh = refl
first_terms derivation.succeed = refl
first_terms (derivation.both d e) = refl
first_terms (derivation.left d) = refl
first_terms (derivation.right d) = refl
first_terms (derivation.exists t d) = refl
first_terms (derivation.new a d) = refl

first_nodes : (d : NominalDerivation) → preorder d ≡ first_node d ∷ later preorder (children_back d)
first_nodes (derivation.atom k names ts d) = refl
first_nodes derivation.equal = refl
first_nodes derivation.fresh = refl
first_nodes derivation.succeed = refl
first_nodes (derivation.both d e) = refl
first_nodes (derivation.left d) = refl
first_nodes (derivation.right d) = refl
first_nodes (derivation.exists t d) = refl
first_nodes (derivation.new a d) = refl

-- a stack whose top gives way to its children
module _ {B : Type 0} (f : NominalDerivation → List B) (whole part rest : List NominalDerivation) (d : NominalDerivation) where
  pub stack_on : (head : List B) → f d ≡ head ++ later f (children_back d) → whole ≡ part ++ d ∷ [] → rest ≡ part ++ children_back d → later f whole ≡ head ++ later f rest
  stack_on head e top left =
      ap (later f) top ∙ later_last f part d ∙ ap (λ z. z ++ later f part) e ∙ append_assoc head (later f (children_back d)) (later f part)
      ∙ ap (λ z. head ++ z) (sym (later_append f part (children_back d)) ∙ ap (later f) (sym left))

pub stack_less : (whole part rest : List NominalDerivation) (d : NominalDerivation) → whole ≡ part ++ d ∷ [] → rest ≡ part ++ children_back d → length (later preorder rest) < length (later preorder whole)
stack_less whole part rest d top left =
    let all = ap length (stack_on preorder whole part rest d (first_node d ∷ []) (first_nodes d) top left) in
    omega (arith, all)
