-- Stacks, of which the last element is the first.
use Rattle.std.proofs.Common.{◌≡◌, List, [], ◌∷◌, ◌++◌, map, Option, None, Some, refl, ap, ◌∙◌}
use Rattle.std.proofs.lemmas.List.{map-append, reverse-append}
use Rattle.std.specs.Prelude.{reverse}
use Rattle.ap_defs.specs.Derivations.{DerivationOver}
use Rattle.ap_bundle.specs.Forms.{◌>>=◌}
use Rattle.ap_bundle.specs.Nodes.{Node, node_onto, derivations}
use Rattle.ap_bundle_read.specs.Stacks.{stacked}

pub reverse_last : {A : Type 0} (xs : List A) (x : A) → reverse (xs ++ x ∷ []) ≡ x ∷ reverse xs
reverse_last xs x = reverse-append xs (x ∷ [])

pub stacked_last : {A B : Type 0} (view : A → B) (xs : List A) (x : A) → stacked view (xs ++ x ∷ []) ≡ view x ∷ stacked view xs
stacked_last view xs x = ap reverse (map-append view xs (x ∷ [])) ∙ reverse_last (map view xs) (view x)

-- nodes before derivations, of which they take their children
abbrev pub derivations_onto : {T : Type 0} → List (Node T) → List (DerivationOver T) → Option (List (DerivationOver T))
derivations_onto [] ds = Some ds
derivations_onto (n ∷ ns) ds = derivations_onto ns ds >>= node_onto n

pub derivations_last : {T : Type 0} (ns : List (Node T)) (n : Node T) (ds : List (DerivationOver T)) → derivations_onto (ns ++ n ∷ []) ds ≡ (node_onto n ds >>= derivations_onto ns)
derivations_last [] n ds = elim (node_onto n ds) as (λ o. o ≡ (o >>= λ es. Some es)) [ None ↦ refl | Some es ↦ refl ]
derivations_last (m ∷ ns) n ds =
    ap (λ o. o >>= node_onto m) (derivations_last ns n ds)
    ∙ elim (node_onto n ds) as (λ o. ((o >>= derivations_onto ns) >>= node_onto m) ≡ (o >>= λ es. derivations_onto ns es >>= node_onto m)) [ None ↦ refl | Some es ↦ refl ]

pub derivations_none : {T : Type 0} (ns : List (Node T)) → derivations_onto ns [] ≡ derivations ns
derivations_none [] = refl
derivations_none (n ∷ ns) = ap (λ o. o >>= node_onto n) (derivations_none ns)
