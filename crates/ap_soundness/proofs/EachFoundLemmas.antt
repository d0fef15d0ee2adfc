-- Properties of each state that was found, with its derivation.
use Rattle.std.proofs.Common.{◌≡◌, ℕ, List, [], ◌∷◌, ◌++◌, map, refl}
use Rattle.std.specs.Prelude.{Option, Some, None}
use Rattle.ap_defs.specs.Derivations as nodes
use Rattle.ap_defs.specs.Derivations.{NominalDerivation}
use Rattle.ap_defs.specs.Resolution.{Output, State, below, cut, each_found, found, if_reduced, if_unified, chose, stuck}
use Rattle.ap_defs.specs.Freshness.{add_conds}
use Rattle.ap_defs.specs.Unification.{Unified}
use Rattle.ap_defs.specs.declared.terms.Cond.{Cond}
use Rattle.ap_soundness.specs.FoundStates.{EachFound}

abbrev pub Property : Type 1
Property = State → NominalDerivation → Type 0

module _ (P : Property) where
  pub each-append : (os qs : List Output) → EachFound P os → EachFound P qs → EachFound P (os ++ qs)
  each-append [] qs h k = k
  each-append (found p s d ∷ os) qs h k = (h.0, each-append os qs h.1 k)
  each-append (cut p ∷ os) qs h k = each-append os qs h k
  each-append (chose p c ∷ os) qs h k = absurd c
  each-append (stuck p ∷ os) qs h k = each-append os qs h k

  -- what follows where unification gives something
  pub each_unified : (go : State → List Output) (s : State) (o : Option Unified)
      → ((r : Unified) → o ≡ Some r → EachFound P (go (record s { bindings = r.bindings; conditions = r.conditions }))) → EachFound P (if_unified go s o)
  each_unified go s None k = tt
  each_unified go s (Some r) k = k r refl

  pub each_reduced : (go : State → List Output) (s : State) (o : Option (List Cond))
      → ((cs : List Cond) → o ≡ Some cs → EachFound P (go (record s { conditions = add_conds cs s.conditions }))) → EachFound P (if_reduced go s o)
  each_reduced go s None k = tt
  each_reduced go s (Some cs) k = k cs refl

module _ (P Q : Property) where
  pub each_below : (p : List ℕ) (node : NominalDerivation → NominalDerivation) → ((s : State) (d : NominalDerivation) → P s d → Q s (node d))
      → (os : List Output) → EachFound P os → EachFound Q (map (below p node) os)
  each_below p node w [] h = tt
  each_below p node w (found q s d ∷ os) h = (w s d h.0, each_below p node w os h.1)
  each_below p node w (cut q ∷ os) h = each_below p node w os h
  each_below p node w (chose q c ∷ os) h = absurd c
  each_below p node w (stuck q ∷ os) h = each_below p node w os h

  pub each_weaken : ((s : State) (d : NominalDerivation) → P s d → Q s d) → (os : List Output) → EachFound P os → EachFound Q os
  each_weaken w [] h = tt
  each_weaken w (found q s d ∷ os) h = (w s d h.0, each_weaken w os h.1)
  each_weaken w (cut q ∷ os) h = each_weaken w os h
  each_weaken w (chose q c ∷ os) h = absurd c
  each_weaken w (stuck q ∷ os) h = each_weaken w os h

-- what follows from each state that was found
pub each_then : (P Q : Property) (go : State → List Output) → ((s : State) (d : NominalDerivation) → P s d → EachFound (λ r e. Q r (nodes.both d e)) (go s))
    → (os : List Output) → EachFound P os → EachFound Q (each_found go os)
each_then P Q go k [] h = tt
each_then P Q go k (found p s d ∷ os) h =
    each-append Q (map (below p (nodes.both d)) (go s)) (each_found go os)
    (each_below (λ r e. Q r (nodes.both d e)) Q p (nodes.both d) (λ r e i. i) (go s) (k s d h.0)) (each_then P Q go k os h.1)
each_then P Q go k (cut p ∷ os) h = each_then P Q go k os h
each_then P Q go k (chose p c ∷ os) h = absurd c
each_then P Q go k (stuck p ∷ os) h = each_then P Q go k os h
