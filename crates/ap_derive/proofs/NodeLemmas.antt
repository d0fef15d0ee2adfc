-- The nodes of a derivation, with what variables stand for.
use Rattle.std.proofs.Common.{◌≡◌, List, [], ◌∷◌, ◌++◌, map, refl, sym, ap, ◌∙◌, append_assoc}
use Rattle.std.proofs.lemmas.List.{append-nil}
use Rattle.ap_defs.specs.Answers.{closed_term, derivation_in}
use Rattle.ap_defs.specs.Derivations as derivations
use Rattle.ap_defs.specs.Derivations.{NominalDerivation}
use Rattle.ap_defs.specs.Resolution.{State}
use Rattle.ap_defs.specs.Terms.{susp}
use Rattle.ap_defs.specs.declared.terms.Var.{Var}
use Rattle.ap_bundle.specs.Nodes.{atom, both, exists, left, new, preorder, right}
use Rattle.ap_search.specs.Records.{closed_vars}
use Rattle.ap_derive.specs.Nodes.{DerivationNode, closed_node, nodes_before, selected_node}
use Rattle.ap_derive.specs.declared.nodes.SelectedGoal.{SelectedGoal}

before_preorder : (d : NominalDerivation) (ns : List DerivationNode) → nodes_before d ns ≡ preorder d ++ ns
before_preorder (derivations.atom k as' ts d) ns = ap (λ ms. atom k as' ts ∷ ms) (before_preorder d ns)
before_preorder derivations.equal ns = refl
before_preorder derivations.fresh ns = refl
before_preorder derivations.succeed ns = refl
before_preorder (derivations.both d e) ns =
    ap (λ ms. both ∷ ms) (before_preorder d (nodes_before e ns) ∙ ap (λ ms. preorder d ++ ms) (before_preorder e ns) ∙ sym (append_assoc (preorder d) (preorder e) ns))
before_preorder (derivations.left d) ns = ap (λ ms. left ∷ ms) (before_preorder d ns)
before_preorder (derivations.right d) ns = ap (λ ms. right ∷ ms) (before_preorder d ns)
before_preorder (derivations.exists t d) ns = ap (λ ms. exists t ∷ ms) (before_preorder d ns)
before_preorder (derivations.new a d) ns = ap (λ ms. new a ∷ ms) (before_preorder d ns)

-- what variables stand for is put in node by node
preorder_closed : (s : State) (d : NominalDerivation) (ns : List DerivationNode) → map (closed_node s) (nodes_before d ns) ≡ nodes_before (derivation_in s d) (map (closed_node s) ns)
preorder_closed s (derivations.atom k as' ts d) ns = ap (λ ms. atom k as' (map (closed_term s) ts) ∷ ms) (preorder_closed s d ns)
preorder_closed s derivations.equal ns = refl
preorder_closed s derivations.fresh ns = refl
preorder_closed s derivations.succeed ns = refl
preorder_closed s (derivations.both d e) ns =
    ap (λ ms. both ∷ ms) (preorder_closed s d (nodes_before e ns) ∙ ap (nodes_before (derivation_in s d)) (preorder_closed s e ns))
preorder_closed s (derivations.left d) ns = ap (λ ms. left ∷ ms) (preorder_closed s d ns)
preorder_closed s (derivations.right d) ns = ap (λ ms. right ∷ ms) (preorder_closed s d ns)
preorder_closed s (derivations.exists t d) ns = ap (λ ms. exists (closed_term s t) ∷ ms) (preorder_closed s d ns)
preorder_closed s (derivations.new a d) ns = ap (λ ms. new a ∷ ms) (preorder_closed s d ns)

-- the nodes that selected goals are in the end are those of the derivation in the end
pub closed_preorder : (s : State) (ns : List SelectedGoal) (d : NominalDerivation) → map selected_node ns ≡ nodes_before d [] → map (closed_node s) (map selected_node ns) ≡ preorder (derivation_in s d)
closed_preorder s ns d e = ap (map (closed_node s)) e ∙ preorder_closed s d [] ∙ before_preorder (derivation_in s d) [] ∙ append-nil (preorder (derivation_in s d))

-- variables that stand for themselves, closed
pub vars_closed : (s : State) (xs : List Var) → map (closed_term s) (map (susp []) xs) ≡ closed_vars s xs
vars_closed s [] = refl
vars_closed s (x ∷ xs) = ap (λ ts. closed_term s (susp [] x) ∷ ts) (vars_closed s xs)
