-- Ground terms that are equal up to renaming of binders have the same types.
use Rattle.std.proofs.Common.{◌≡◌, ℕ, zero, suc, true, false, ◌&&◌, List, [], ◌∷◌, refl, sym, ap, subst, ◌∙◌, true≢false}
use Rattle.std.specs.Prelude.{◌==◌, if◌then◌else◌, Option, Some, None}
use Rattle.ap_defs.specs.declared.terms.Name.{Name}
use Rattle.ap_defs.specs.declared.terms.Swap.{Swap}
use Rattle.ap_defs.specs.Alpha.{alpha, fresh}
use Rattle.ap_defs.specs.Permutations.{inverse, name_eq, swap_of}
use Rattle.ap_defs.specs.Printing.{constructor_in}
use Rattle.ap_defs.specs.Terms.{GroundTerm, abs, act_ground, app, name, pair, unit}
use Rattle.ap_defs.specs.Types as types
use Rattle.ap_defs.specs.Types.{NominalConstructor, NominalType}
use Rattle.ap_defs.specs.Typing.{IsApplication, IsOfType, IsTyped, VarTypes, Want, arguments, embedded, more, nothing, one}
use Rattle.ap_theory.proofs.BooleanLemmas.{and_left, and_right}
use Rattle.ap_theory.proofs.GroundLemmas.{inverse_act_ground}
use Rattle.ap_theory.proofs.PermutationLemmas.{name_eq_same}
use Rattle.ap_theory.proofs.TermLemmas.{number_same}
use Rattle.ap_ground.proofs.GroundTypingLemmas.{typed_act}

module _ (cs : List NominalConstructor) (vars : VarTypes) where
  abbrev Has : GroundTerm → Want → Type 0
  Has g w = IsTyped cs vars (embedded g) w

  application_alike : (t u : GroundTerm) → ((w : Want) → Has t w → Has u w) → (o : Option NominalConstructor) (d : ℕ) → IsApplication (Has t) o d → IsApplication (Has u) o d
  application_alike t u k None d h = absurd h
  application_alike t u k (Some c) d h = (h.0, k (arguments c.args) h.1)

  app_alike : (f : ℕ) (t u : GroundTerm) → ((w : Want) → Has t w → Has u w) → (w : Want) → Has (app f t) w → Has (app f u) w
  app_alike zero t u k (one (types.list a)) h = k nothing h
  app_alike (suc zero) t u k (one (types.list a)) h = k (more a (one (types.list a))) h
  app_alike f t u k (one (types.base d)) h = application_alike t u k (constructor_in cs f) d h
  app_alike _ t u k _ h = absurd h

  abs_alike : (a b : Name) (t u : GroundTerm) → b.sort ≡ a.sort → ((w : Want) → Has t w → Has u w) → (w : Want) → Has (abs a t) w → Has (abs b u) w
  abs_alike a b t u e k (one (types.abs n c)) h = (e ∙ h.0, k (one c) h.1)
  abs_alike a b t u e k _ h = absurd h

  pair_alike : (t u v w : GroundTerm) → ((k : Want) → Has t k → Has v k) → ((k : Want) → Has u k → Has w k) → (k : Want) → Has (pair t u) k → Has (pair v w) k
  pair_alike t u v w l r (one (types.pair a b)) h = (l (one a) h.0, r (one b) h.1)
  pair_alike t u v w l r (more a k) h = (l (one a) h.0, r k h.1)
  pair_alike t u v w l r _ h = absurd h

  -- an abstraction's body under another binder
  moved_back : (s : List Swap) (u : GroundTerm) (w : Want) → Has (act_ground s u) w → Has u w
  moved_back s u w h = subst (λ (g : GroundTerm). Has g w) (inverse_act_ground s u) (typed_act cs vars (inverse s) (act_ground s u) w h)

  pub typed_alike : (t u : GroundTerm) → alpha t u ≡ true → (w : Want) → Has t w → Has u w
  typed_alike unit unit e w h = h
  typed_alike (name a) (name b) e w h = subst (λ (c : Name). Has (name c) w) (name_eq_same a b e) h
  typed_alike (pair t u) (pair v w) e k h =
      pair_alike t u v w (typed_alike t v (and_left (alpha t v) (alpha u w) e)) (typed_alike u w (and_right (alpha t v) (alpha u w) e)) k h
  typed_alike (app f t) (app g u) e w h =
      let same : f ≡ g = number_same f g (and_left (f == g) (alpha t u) e) in
      subst (λ (n : ℕ). Has (app n u) w) same (app_alike f t u (typed_alike t u (and_right (f == g) (alpha t u) e)) w h)
  typed_alike (abs a t) (abs b u) e w h =
      let moved = act_ground (swap_of a b ∷ []) u in
      elim (name_eq a b) as (λ v. name_eq a b ≡ v → (if v then alpha t u else ((a.sort == b.sort) && (fresh a u && alpha t moved))) ≡ true → Has (abs b u) w) [
        | true ↦ λ i k. abs_alike a b t u (ap (λ (n : Name). n.sort) (sym (name_eq_same a b i))) (typed_alike t u k) w h
        | false ↦ λ i k.
            let rest = and_right (a.sort == b.sort) (fresh a u && alpha t moved) k in
            abs_alike a b t u (sym (number_same a.sort b.sort (and_left (a.sort == b.sort) (fresh a u && alpha t moved) k)))
            (λ v m. moved_back (swap_of a b ∷ []) u v (typed_alike t moved (and_right (fresh a u) (alpha t moved) rest) v m)) w h
      ] refl e
  typed_alike _ _ e w h = absurd (true≢false (sym e))

pub of_type_alike : (cs : List NominalConstructor) (g h : GroundTerm) (a : NominalType) → alpha g h ≡ true → IsOfType cs g a → IsOfType cs h a
of_type_alike cs g h a e k = typed_alike cs (λ x. None) g h e (one a) k
