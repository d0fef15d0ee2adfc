-- Whether types hold no names of a sort, where their parts are looked at one after the other.
use Rattle.std.proofs.Common.{◌≡◌, ◌∙◌, ℕ, Bool, true, false, ◌==◌, ◌&&◌, ◌||◌, ◌++◌, not, List, [], Bor, refl, sym}
use Rattle.ap_defs.specs.Types.{NominalType, unit, names, base, pair, list, abs}
use Rattle.ap_types.specs.Holding.{holds_if}
use Rattle.ap_types.specs.Barred.{own_barred, type_parts}
use Rattle.ap_types.specs.Loading.{lent}
use Rattle.ap_types.proofs.PartTests.{IsTest, own_only, one_part, all_left, ends_here, fails_here}

abbrev pub bars : ℕ → (ℕ → Bool) → NominalType → Bool
bars sort found t = not (holds_if sort found t)

neither : (a b : Bool) → not (a || b) ≡ (not a && (not b && true))
neither true b = refl
neither false b = own_only (not b)

pub barred_test : (sort : ℕ) (found : ℕ → Bool) → IsTest type_parts (bars sort found) (own_barred sort found)
barred_test sort found unit = refl
barred_test sort found (names s) = own_only (not (s == sort))
barred_test sort found (base d) = own_only (not (found d))
barred_test sort found (pair t u) = neither (holds_if sort found t) (holds_if sort found u)
barred_test sort found (list t) = one_part (bars sort found) t
barred_test sort found (abs s t) = one_part (bars sort found) t

not_false : (b : Bool) → not b ≡ false → true ≡ b
not_false true e = refl
not_false false e = cc

not_true : (b : Bool) → true ≡ not b → false ≡ b
not_true true e = cc
not_true false e = refl

module _ {B : Type 0} (view : B → NominalType) (sort : ℕ) (found : ℕ → Bool) (ws : List (Bor B)) (part t : NominalType) (left : all_left view (bars sort found) ws part ≡ not (holds_if sort found t)) where
  -- the part in hand holds one by itself
  pub holds_here : own_barred sort found part ≡ false → true ≡ holds_if sort found t
  holds_here e = not_false (holds_if sort found t) (sym left ∙ fails_here view type_parts (bars sort found) (own_barred sort found) (barred_test sort found) ws part e)

  -- neither the part in hand does, nor is one left
  pub holds_none : (next : List (Bor B)) → next ≡ [] → lent view next ≡ lent view ws ++ type_parts part → own_barred sort found part ≡ true → false ≡ holds_if sort found t
  holds_none next e f o = not_true (holds_if sort found t) (ends_here view type_parts (bars sort found) (own_barred sort found) (barred_test sort found) ws part next e f o ∙ left)
