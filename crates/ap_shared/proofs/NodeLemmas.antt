-- Derivations from their nodes, and over terms instead of lines.
use Rattle.std.proofs.Common.{◌≡◌, ℕ, ◌<◌, List, [], ◌∷◌, ◌++◌, length, map, Option, None, Some, refl, ap, ap₂, sym, ◌∙◌, append_assoc, arith, length-append}
use Rattle.std.proofs.lemmas.List.{append-nil}
use Rattle.std.specs.Option.{option_map}
use Rattle.ap_defs.specs.Derivations as derivation
use Rattle.ap_defs.specs.Derivations.{DerivationOver, map_terms}
use Rattle.ap_bundle.specs.Forms.{◌>>=◌}
use Rattle.ap_bundle.specs.Nodes.{Node, atom, equal, fresh, succeed, both, left, right, exists, new, preorder, node_onto, derivations, derivation_from, one}
use Rattle.ap_shared.specs.FirstNodes.{map_node, first_node, children_back}

-- nodes before derivations, of which they take their children
abbrev pub derivations_onto : {T : Type 0} → List (Node T) → List (DerivationOver T) → Option (List (DerivationOver T))
derivations_onto [] ds = Some ds
derivations_onto (n ∷ ns) ds = derivations_onto ns ds >>= node_onto n

pub derivations_last : {T : Type 0} (ns : List (Node T)) (n : Node T) (ds : List (DerivationOver T)) → derivations_onto (ns ++ n ∷ []) ds ≡ (node_onto n ds >>= derivations_onto ns)
derivations_last [] n ds = elim (node_onto n ds) as (λ o. o ≡ (o >>= λ es. Some es)) [ None ↦ refl | Some es ↦ refl ]
derivations_last (m ∷ ns) n ds =
    ap (λ o. o >>= node_onto m) (derivations_last ns n ds)
    ∙ elim (node_onto n ds) as (λ o. ((o >>= derivations_onto ns) >>= node_onto m) ≡ (o >>= λ es. derivations_onto ns es >>= node_onto m)) [ None ↦ refl | Some es ↦ refl ]

pub derivations_none : {T : Type 0} (ns : List (Node T)) → derivations_onto ns [] ≡ derivations ns
derivations_none [] = refl
derivations_none (n ∷ ns) = ap (λ o. o >>= node_onto n) (derivations_none ns)

-- the derivation is what its nodes are
again : {T : Type 0} (d : DerivationOver T) (ns : List (Node T)) (ds : List (DerivationOver T)) → derivations ns ≡ Some ds → derivations (preorder d ++ ns) ≡ Some (d ∷ ds)
again (derivation.atom c names ts d) ns ds e = rw (again d ns ds e) refl
again derivation.equal ns ds e = rw e refl
again derivation.fresh ns ds e = rw e refl
again derivation.succeed ns ds e = rw e refl
again (derivation.both d f) ns ds e = rw (append_assoc (preorder d) (preorder f) ns, again d (preorder f ++ ns) (f ∷ ds) (again f ns ds e)) refl
again (derivation.left d) ns ds e = rw (again d ns ds e) refl
again (derivation.right d) ns ds e = rw (again d ns ds e) refl
again (derivation.exists t d) ns ds e = rw (again d ns ds e) refl
again (derivation.new a d) ns ds e = rw (again d ns ds e) refl

module _ {S T : Type 0} (f : S → T) where
  -- a node takes the same children over other terms
  onto_map : (n : Node S) (ds : List (DerivationOver S)) → node_onto (map_node f n) (map (map_terms f) ds) ≡ option_map (map (map_terms f)) (node_onto n ds)
  onto_map (atom k names ts) [] = refl
  onto_map (atom k names ts) (d ∷ ds) = refl
  onto_map equal ds = refl
  onto_map fresh ds = refl
  onto_map succeed ds = refl
  onto_map both [] = refl
  onto_map both (d ∷ []) = refl
  onto_map both (d ∷ (e ∷ ds)) = refl
  onto_map left [] = refl
  onto_map left (d ∷ ds) = refl
  onto_map right [] = refl
  onto_map right (d ∷ ds) = refl
  onto_map (exists t) [] = refl
  onto_map (exists t) (d ∷ ds) = refl
  onto_map (new a) [] = refl
  onto_map (new a) (d ∷ ds) = refl

  pub derivations_map : (ns : List (Node S)) → derivations (map (map_node f) ns) ≡ option_map (map (map_terms f)) (derivations ns)
  derivations_map [] = refl
  derivations_map (n ∷ ns) =
      ap (λ o. o >>= node_onto (map_node f n)) (derivations_map ns)
      ∙ elim (derivations ns) as (λ o. (option_map (map (map_terms f)) o >>= node_onto (map_node f n)) ≡ option_map (map (map_terms f)) (o >>= node_onto n)) [ None ↦ refl | Some ds ↦ onto_map n ds ]

  one_mapped : (o : Option (List (DerivationOver S))) (d : DerivationOver T) → option_map (map (map_terms f)) o ≡ Some (d ∷ []) → (e : DerivationOver S) × ((o >>= one) ≡ Some e) × (map_terms f e ≡ d)
  one_mapped None d e = cc
  one_mapped (Some []) d e = cc
  one_mapped (Some (c ∷ [])) d e =
      let same : ◌≡◌ {A = Option (List (DerivationOver T))} (Some (map_terms f c ∷ [])) (Some (d ∷ [])) = e in
      let is : map_terms f c ≡ d = cc in
      (c, refl, is)
  one_mapped (Some (c ∷ (b ∷ ds))) d e = cc

  -- nodes that are those of a derivation over other terms, are those of a derivation
  pub from_mapped : (ns : List (Node S)) (d : DerivationOver T) → map (map_node f) ns ≡ preorder d → (e : DerivationOver S) × (derivation_from ns ≡ Some e) × (map_terms f e ≡ d)
  unfolding derivation_from
  from_mapped ns d e =
      let whole : derivations (preorder d) ≡ Some (d ∷ []) = ap derivations (sym (append-nil (preorder d))) ∙ again d [] [] refl in
      one_mapped (derivations ns) d (sym (derivations_map ns) ∙ ap derivations e ∙ whole)

-- the parts on a stack, of which the last comes first
module _ {A B : Type 0} where
  abbrev pub later : (A → List B) → List A → List B
  later f [] = []
  later f (x ∷ xs) = later f xs ++ f x

  later_last : (f : A → List B) (xs : List A) (y : A) → later f (xs ++ y ∷ []) ≡ f y ++ later f xs
  later_last f [] y = sym (append-nil (f y))
  later_last f (x ∷ xs) y = ap (λ z. z ++ f x) (later_last f xs y) ∙ append_assoc (f y) (later f xs) (f x)

  later_append : (f : A → List B) (xs ys : List A) → later f (xs ++ ys) ≡ later f ys ++ later f xs
  later_append f [] ys = sym (append-nil (later f ys))
  later_append f (x ∷ xs) ys = ap (λ z. z ++ f x) (later_append f xs ys) ∙ append_assoc (later f ys) (later f xs) (f x)

first_nodes : {T : Type 0} (d : DerivationOver T) → preorder d ≡ first_node d ∷ later preorder (children_back d)
first_nodes (derivation.atom k names ts d) = refl
first_nodes derivation.equal = refl
first_nodes derivation.fresh = refl
first_nodes derivation.succeed = refl
first_nodes (derivation.both d e) = refl
first_nodes (derivation.left d) = refl
first_nodes (derivation.right d) = refl
first_nodes (derivation.exists t d) = refl
first_nodes (derivation.new a d) = refl

-- a stack whose top gives way to its children
module _ {T : Type 0} (whole part rest : List (DerivationOver T)) (d : DerivationOver T) (top : whole ≡ part ++ d ∷ []) (leaves : rest ≡ part ++ children_back d) where
  pub stack_on : later preorder whole ≡ first_node d ∷ later preorder rest
  stack_on =
      ap (later preorder) top ∙ later_last preorder part d ∙ ap (λ z. z ++ later preorder part) (first_nodes d)
      ∙ ap (λ z. first_node d ∷ z) (sym (later_append preorder part (children_back d)) ∙ ap (later preorder) (sym leaves))

  pub stack_less : length (later preorder rest) < length (later preorder whole)
  stack_less = let all = ap length stack_on in omega (arith, all)
