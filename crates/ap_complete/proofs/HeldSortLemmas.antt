-- A free name of a ground term has a sort that its type may hold.
use Rattle.std.proofs.Common.{◌≡◌, ℕ, zero, suc, Bool, true, false, ◌&&◌, ◌||◌, List, [], ◌∷◌, refl, sym, ap, ◌∙◌, inl, inr, true≢false}
use Rattle.std.specs.Prelude.{◌==◌, ◌⊎◌, not, Option, Some, None}
use Rattle.ap_defs.specs.declared.terms.Name.{Name}
use Rattle.ap_defs.specs.Alpha.{fresh}
use Rattle.ap_defs.specs.Permutations.{name_eq}
use Rattle.ap_defs.specs.Printing.{constructor_in}
use Rattle.ap_defs.specs.Terms.{GroundTerm, abs, app, name, pair, unit}
use Rattle.ap_defs.specs.Types as types
use Rattle.ap_defs.specs.Types.{NominalConstructor, NominalType}
use Rattle.ap_defs.specs.Typing.{IsApplication, IsTyped, Want, arguments, embedded, more, nothing, one}
use Rattle.ap_types.specs.Holding.{holds_if, some_holds}
use Rattle.ap_types.specs.Rounds.{reached, some_passes}
use Rattle.ap_theory.proofs.BooleanLemmas.{and_both, or_cases, or_false, or_if_left, or_if_right, or_nothing}
use Rattle.ap_theory.proofs.PermutationLemmas.{name_eq_same}
use Rattle.ap_theory.proofs.TermLemmas.{same_number}
use Rattle.ap_complete.specs.StatementsOnFreshness.{SortsNotHeldAreFresh}

and_cases : (x y : Bool) → (x && y) ≡ false → (x ≡ false) ⊎ (y ≡ false)
and_cases true y h = inr h
and_cases false y h = inl refl

not_false : (x : Bool) → not x ≡ false → x ≡ true
not_false true h = refl
not_false false h = absurd (true≢false h)

-- the types of what is wanted
abbrev wanted : Want → List NominalType
wanted nothing = []
wanted (one t) = t ∷ []
wanted (more t w) = t ∷ wanted w

wanted_arguments : (ts : List NominalType) → wanted (arguments ts) ≡ ts
wanted_arguments [] = refl
wanted_arguments (t ∷ []) = refl
wanted_arguments (t ∷ u ∷ us) = ap (λ ts. t ∷ ts) (wanted_arguments (u ∷ us))

module _ (cs : List NominalConstructor) (a : Name) where
  abbrev found : ℕ → ℕ → Bool
  found r = reached (some_holds a.sort) cs r

  -- some of the types may hold the sort
  abbrev SomeHolds : List NominalType → Type 0
  SomeHolds ts = (r : ℕ) × (some_holds a.sort (found r) ts ≡ true)

  one_holds : (t : NominalType) (r : ℕ) → some_holds a.sort (found r) (t ∷ []) ≡ true → holds_if a.sort (found r) t ≡ true
  one_holds t r h = sym (or_nothing (holds_if a.sort (found r) t)) ∙ h

  holds_one : (t : NominalType) (r : ℕ) → holds_if a.sort (found r) t ≡ true → some_holds a.sort (found r) (t ∷ []) ≡ true
  holds_one t r h = or_if_left (holds_if a.sort (found r) t) false h

  -- a constructor whose arguments may hold the sort
  passes : (p : ℕ → Bool) (ds : List NominalConstructor) (f d : ℕ) (c : NominalConstructor) → constructor_in ds f ≡ Some c → c.result ≡ d → some_holds a.sort p c.args ≡ true
      → some_passes (some_holds a.sort) p ds d ≡ true
  passes p [] f d c e r h = cc
  passes p (b ∷ ds) zero d c e r h = cc
  passes p (b ∷ ds) (suc zero) d c e r h = cc
  passes p (b ∷ ds) (suc (suc zero)) d c e r h =
      let i : b ≡ c = cc in
      or_if_left ((b.result == d) && some_holds a.sort p b.args) (some_passes (some_holds a.sort) p ds d)
      (and_both (b.result == d) (some_holds a.sort p b.args) (same_number b.result d (ap (λ (x : NominalConstructor). x.result) i ∙ r))
      (ap (λ (x : NominalConstructor). some_holds a.sort p x.args) i ∙ h))
  passes p (b ∷ ds) (suc (suc (suc f))) d c e r h =
      or_if_right ((b.result == d) && some_holds a.sort p b.args) (some_passes (some_holds a.sort) p ds d) (passes p ds (suc (suc f)) d c e r h)

  abbrev Holds : GroundTerm → Type 0
  Holds g = (w : Want) → IsTyped cs (λ x. None) (embedded g) w → fresh a g ≡ false → SomeHolds (wanted w)

  application_holds : (g : GroundTerm) → Holds g → (f d : ℕ) (o : Option NominalConstructor) → constructor_in cs f ≡ o → IsApplication (IsTyped cs (λ x. None) (embedded g)) o d
      → fresh a g ≡ false → SomeHolds (types.base d ∷ [])
  application_holds g k f d None e h n = absurd h
  application_holds g k f d (Some c) e h n =
      let i = k (arguments c.args) h.1 n in
      let args : some_holds a.sort (found i.0) c.args ≡ true = ap (some_holds a.sort (found i.0)) (sym (wanted_arguments c.args)) ∙ i.1 in
      (suc i.0, holds_one (types.base d) (suc i.0) (passes (found i.0) cs f d c e h.0 args))

  free_holds : (g : GroundTerm) (w : Want) → IsTyped cs (λ x. None) (embedded g) w → fresh a g ≡ false → SomeHolds (wanted w)
  free_holds unit w h n = absurd (true≢false n)
  free_holds (name b) (one (types.names s)) h n =
      let e = name_eq_same a b (not_false (name_eq a b) n) in
      (zero, holds_one (types.names s) zero (same_number s a.sort (sym h ∙ ap (λ (x : Name). x.sort) (sym e))))
  free_holds (pair t u) (one (types.pair b c)) h n =
      elim (and_cases (fresh a t) (fresh a u) n) [
        | inl m ↦
            let i = free_holds t (one b) h.0 m in
            (i.0, holds_one (types.pair b c) i.0 (or_if_left (holds_if a.sort (found i.0) b) (holds_if a.sort (found i.0) c) (one_holds b i.0 i.1)))
        | inr m ↦
            let i = free_holds u (one c) h.1 m in
            (i.0, holds_one (types.pair b c) i.0 (or_if_right (holds_if a.sort (found i.0) b) (holds_if a.sort (found i.0) c) (one_holds c i.0 i.1)))
      ]
  free_holds (pair t u) (more b w) h n =
      elim (and_cases (fresh a t) (fresh a u) n) [
        | inl m ↦
            let i = free_holds t (one b) h.0 m in
            (i.0, or_if_left (holds_if a.sort (found i.0) b) (some_holds a.sort (found i.0) (wanted w)) (one_holds b i.0 i.1))
        | inr m ↦
            let i = free_holds u w h.1 m in
            (i.0, or_if_right (holds_if a.sort (found i.0) b) (some_holds a.sort (found i.0) (wanted w)) i.1)
      ]
  free_holds (app zero t) (one (types.list b)) h n = let i = free_holds t nothing h n in absurd (true≢false (sym i.1))
  free_holds (app (suc zero) t) (one (types.list b)) h n =
      let i = free_holds t (more b (one (types.list b))) h n in (
        i.0,
        elim (or_cases (holds_if a.sort (found i.0) b) (holds_if a.sort (found i.0) b || false) i.1) [
          | inl j ↦ or_if_left (holds_if a.sort (found i.0) b) false j
          | inr j ↦ j
        ],
      )
  free_holds (app f t) (one (types.base d)) h n = application_holds t (free_holds t) f d (constructor_in cs f) refl h n
  free_holds (abs b t) (one (types.abs s c)) h n =
      let i = free_holds t (one c) h.1 (or_false (name_eq a b) (fresh a t) n).1 in
      (i.0, holds_one (types.abs s c) i.0 (one_holds c i.0 i.1))
  free_holds _ _ h n = absurd h

pub sorts_not_held_fresh : SortsNotHeldAreFresh
sorts_not_held_fresh cs g t a h k =
    elim (fresh a g) as (λ b. fresh a g ≡ b → b ≡ true) [
      | true ↦ λ e. refl
      | false ↦ λ e. let i = free_holds cs a g (one t) h e in absurd (k (i.0, one_holds cs a t i.0 i.1))
    ] refl
