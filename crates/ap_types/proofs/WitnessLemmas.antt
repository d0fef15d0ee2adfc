-- An inhabited type has a ground term that avoids any given names.
use Rattle.std.proofs.Common.{◌≡◌, ◌<◌, ◌≤◌, ◌+◌, ℕ, zero, suc, Bool, true, false, List, [], ◌∷◌, ◌&&◌, refl, inl, inr, arith, subst, sym, ap}
use Rattle.std.specs.Prelude.{◌==◌, not, Option, Some, None}
use Rattle.std.proofs.lemmas.Bool.Decides.{eqb_tells, nat_tests}
use Rattle.ap_defs.specs.declared.terms.Name.{Name}
use Rattle.ap_defs.specs.Permutations.{name_eq}
use Rattle.ap_defs.specs.Terms.{GroundTerm}
use Rattle.ap_defs.specs.Terms as terms
use Rattle.ap_defs.specs.Alpha.{fresh}
use Rattle.ap_defs.specs.Types.{NominalType, NominalConstructor, unit, names, base, pair, list, abs}
use Rattle.ap_defs.specs.Typing.{IsTyped, IsApplication, Want, one, arguments, embedded}
use Rattle.ap_defs.specs.Printing.{constructor_in}
use Rattle.ap_types.specs.Rounds.{some_passes, reached}
use Rattle.ap_types.specs.Inhabited.{inhabited_if, all_inhabited}
use Rattle.ap_types.specs.Statements.{AreFresh, InhabitedHasTerms}
use Rattle.ap_types.proofs.BooleanLemmas.{and_left, and_right, and_both, or_cases, or_if_right}

-- a number above those of all names
abbrev above : List Name → ℕ
above [] = zero
above (a ∷ as') = suc (a.num + above as')

other_name : (a b : Name) → a.num < b.num → name_eq a b ≡ false
unfolding name_eq
other_name a b l = grind (arith, nat_tests)

new_name : (avoided : List Name) (b : Name) → above avoided ≤ b.num → AreFresh avoided (terms.name b)
new_name [] b l = tt
new_name (a ∷ as') b l = (ap not (other_name a b (omega arith)), new_name as' b (omega arith))

fresh_unit : (avoided : List Name) → AreFresh avoided terms.unit
fresh_unit [] = tt
fresh_unit (a ∷ as') = (refl, fresh_unit as')

fresh_pair : (avoided : List Name) (g h : GroundTerm) → AreFresh avoided g → AreFresh avoided h → AreFresh avoided (terms.pair g h)
fresh_pair [] g h k l = tt
fresh_pair (a ∷ as') g h k l = (and_both (fresh a g) (fresh a h) k.0 l.0, fresh_pair as' g h k.1 l.1)

fresh_app : (avoided : List Name) (f : ℕ) (g : GroundTerm) → AreFresh avoided g → AreFresh avoided (terms.app f g)
fresh_app [] f g k = tt
fresh_app (a ∷ as') f g k = (k.0, fresh_app as' f g k.1)

fresh_abs : (avoided : List Name) (b : Name) (g : GroundTerm) → AreFresh avoided g → AreFresh avoided (terms.abs b g)
fresh_abs [] b g k = tt
fresh_abs (a ∷ as') b g k = (or_if_right (name_eq a b) (fresh a g) k.0, fresh_abs as' b g k.1)

module _ (cs : List NominalConstructor) (avoided : List Name) where
  -- a ground term that is what is wanted, and avoids the names
  abbrev HasTerm : Want → Type 0
  HasTerm w = (g : GroundTerm) × IsTyped cs (λ x. None) (embedded g) w × AreFresh avoided g

  term_of_type : (p : ℕ → Bool) → ((d : ℕ) → p d ≡ true → HasTerm (one (base d))) → (t : NominalType) → inhabited_if p t ≡ true → HasTerm (one t)
  term_of_type p h unit e = (terms.unit, tt, fresh_unit avoided)
  term_of_type p h (names s) e =
      let b : Name = record { sort = s; num = above avoided } in
      (terms.name b, refl, new_name avoided b (omega arith))
  term_of_type p h (base d) e = h d e
  term_of_type p h (pair t u) e =
      let a = term_of_type p h t (and_left (inhabited_if p t) (inhabited_if p u) e) in
      let b = term_of_type p h u (and_right (inhabited_if p t) (inhabited_if p u) e) in
      (terms.pair a.0 b.0, (a.1, b.1), fresh_pair avoided a.0 b.0 a.2 b.2)
  term_of_type p h (list t) e = (terms.app zero terms.unit, tt, fresh_app avoided zero terms.unit (fresh_unit avoided))
  term_of_type p h (abs s t) e =
      let a = term_of_type p h t e in
      let b : Name = record { sort = s; num = zero } in
      (terms.abs b a.0, (refl, a.1), fresh_abs avoided b a.0 a.2)

  terms_of_types : (p : ℕ → Bool) → ((d : ℕ) → p d ≡ true → HasTerm (one (base d))) → (ts : List NominalType) → all_inhabited p ts ≡ true → HasTerm (arguments ts)
  terms_of_types p h [] e = (terms.unit, tt, fresh_unit avoided)
  terms_of_types p h (t ∷ []) e = term_of_type p h t (and_left (inhabited_if p t) true e)
  terms_of_types p h (t ∷ u ∷ ts) e =
      let a = term_of_type p h t (and_left (inhabited_if p t) (all_inhabited p (u ∷ ts)) e) in
      let b = terms_of_types p h (u ∷ ts) (and_right (inhabited_if p t) (all_inhabited p (u ∷ ts)) e) in
      (terms.pair a.0 b.0, (a.1, b.1), fresh_pair avoided a.0 b.0 a.2 b.2)

  -- the number of a constructor that passes
  passing : (p : ℕ → Bool) (ds : List NominalConstructor) (d : ℕ) → some_passes all_inhabited p ds d ≡ true
      → (f : ℕ) × (c : NominalConstructor) × (constructor_in ds (suc (suc f)) ≡ Some c) × (c.result ≡ d) × (all_inhabited p c.args ≡ true)
  passing p [] d e = cc
  passing p (c ∷ ds) d e =
      elim (or_cases ((c.result == d) && all_inhabited p c.args) (some_passes all_inhabited p ds d) e) [
        | inl a ↦ elim (eqb_tells c.result d) [
          | inl w ↦ (zero, c, refl, w.1, and_right (c.result == d) (all_inhabited p c.args) a)
          | inr w ↦ let no : (c.result == d) ≡ true = and_left (c.result == d) (all_inhabited p c.args) a in cc
        ]
        | inr a ↦ let k = passing p ds d a in (suc k.0, k.1, k.2, k.3, k.4)
      ]

  applied : (f d : ℕ) (c : NominalConstructor) → constructor_in cs (suc (suc f)) ≡ Some c → c.result ≡ d → HasTerm (arguments c.args) → HasTerm (one (base d))
  applied f d c e r k = (
    terms.app (suc (suc f)) k.0,
    subst (λ (o : Option NominalConstructor). IsApplication (IsTyped cs (λ x. None) (embedded k.0)) o d) (sym e) (r, k.1),
    fresh_app avoided (suc (suc f)) k.0 k.2,
  )

  term_of_data : (r d : ℕ) → reached all_inhabited cs r d ≡ true → HasTerm (one (base d))
  term_of_data zero d e = cc
  term_of_data (suc r) d e =
      let k = passing (reached all_inhabited cs r) cs d e in
      applied k.0 d k.1 k.2 k.3 (terms_of_types (reached all_inhabited cs r) (term_of_data r) k.1.args k.4)

pub inhabited_has_terms : InhabitedHasTerms
inhabited_has_terms cs t h avoided = term_of_type cs avoided (reached all_inhabited cs h.0) (term_of_data cs avoided h.0) t h.1
