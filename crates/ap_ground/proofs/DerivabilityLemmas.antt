-- A permutation that leaves the free names of a query keeps its derivability.
use Rattle.std.proofs.Common.{subst, ◌≡◌, true, List, [], ◌∷◌, map, refl, ap₂}
use Rattle.ap_defs.specs.GroundProofs.{AreOfSorts, IsValid, environment}
use Rattle.ap_defs.specs.Permutations.{act_name, has_name, name_eq}
use Rattle.ap_defs.specs.Renaming.{local_names}
use Rattle.ap_defs.specs.Resolution.{kinds_of}
use Rattle.ap_defs.specs.declared.terms.Name.{Name}
use Rattle.ap_defs.specs.Terms.{act_ground}
use Rattle.ap_theory.proofs.BooleanLemmas.{or_if_right}
use Rattle.ap_theory.proofs.DisagreementLemmas.{has_front}
use Rattle.ap_ground.specs.Environments.{act_environment, act_proof}
use Rattle.ap_ground.specs.StatementsOnShownInstances.{DerivabilityIsEquivariant}
use Rattle.ap_ground.proofs.FreeIdentifierLemmas.{proofs_see_free}
use Rattle.ap_ground.proofs.ProofActionLemmas.{agree_act, height_act, keeps_environment, proofs_equivariant}
use Rattle.ap_ground.proofs.ScopeLemmas.{goal_local}

sorts_themselves : (as' : List Name) → AreOfSorts as' as'
sorts_themselves [] = tt
sorts_themselves (a ∷ as') = (refl, sorts_themselves as')

map_left : (f : Name → Name) (as' : List Name) → ((a : Name) → has_name a as' ≡ true → f a ≡ a) → map f as' ≡ as'
map_left f [] h = refl
map_left f (a ∷ as') h = ap₂ ◌∷◌ (h a (has_front a as')) (map_left f as' (λ b k. h b (or_if_right (name_eq b a) (has_name b as') k)))

pub derivable_act : DerivabilityIsEquivariant
derivable_act p typed q fits s left gs d (proof, valid, low) =
    let sig = p.signature in
    let locals = q.locals in
    let names = local_names 0 locals in
    let sorts = sorts_themselves names in
    let e = environment locals names gs in
    let moved : IsValid p (kinds_of locals) (act_proof s proof) q.goal (act_environment s e) =
    proofs_equivariant p typed s (kinds_of locals) proof q.goal e valid (keeps_environment locals names gs sorts) in
    let again : IsValid p (kinds_of locals) (act_proof s proof) q.goal (environment locals (map (act_name s) names) (map (act_ground s) gs)) =
    proofs_see_free p (kinds_of locals) (act_proof s proof) q.goal (act_environment s e) _ moved
    (agree_act s locals names gs sorts q.goal (goal_local sig locals [] q.goal fits.2 fits.0)) in (
      act_proof s proof,
      subst (λ (as' : List Name). IsValid p (kinds_of locals) (act_proof s proof) q.goal (environment locals as' (map (act_ground s) gs))) (map_left (act_name s) names left) again,
      rw (height_act s proof) low,
    )
