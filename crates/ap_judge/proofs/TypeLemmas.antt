-- Looking up constructors by number.
use Rattle.std.proofs.Common.{◌≡◌, ◌<◌, ◌≤◌, ◌-◌, ◌∙◌, ℕ, zero, suc, Bool, true, false, ◌&&◌, ◌==◌, List, [], ◌∷◌, map, length, refl, sym, ap, ap₂, arith, get_or, Some, None}
use Rattle.ap_defs.specs.declared.goals.Constructor.{Constructor}
use Rattle.ap_defs.specs.Types as types
use Rattle.ap_defs.specs.Types.{NominalConstructor, NominalType, constructor_of}
use Rattle.ap_theory.proofs.TermLemmas.{number_same}
use Rattle.ap_checks.specs.TypeTests.{type_eq}
use Rattle.ap_defs.specs.Printing.{constructor_in}

pub both_left : (x y : Bool) → (x && y) ≡ true → x ≡ true
both_left true y e = refl
both_left false y e = e

pub both_right : (x y : Bool) → (x && y) ≡ true → y ≡ true
both_right true y e = e
both_right false y e = cc

pub same_type : (a b : NominalType) → type_eq a b ≡ true → a ≡ b
same_type types.unit types.unit h = refl
same_type (types.names s) (types.names r) h = ap types.names (number_same s r h)
same_type (types.base d) (types.base e) h = ap types.base (number_same d e h)
same_type (types.pair a b) (types.pair c d) h = ap₂ types.pair (same_type a c (both_left (type_eq a c) (type_eq b d) h)) (same_type b d (both_right (type_eq a c) (type_eq b d) h))
same_type (types.list a) (types.list b) h = ap types.list (same_type a b h)
same_type (types.abs s a) (types.abs r b) h = ap₂ types.abs (number_same s r (both_left (s == r) (type_eq a b) h)) (same_type a b (both_right (s == r) (type_eq a b) h))
same_type _ _ h = absurd (cc)

pub constructor_low : (cs : List NominalConstructor) (f : ℕ) → f < 2 → constructor_in cs f ≡ None
constructor_low [] f l = refl
constructor_low (c ∷ cs) zero l = refl
constructor_low (c ∷ cs) (suc zero) l = refl
constructor_low (c ∷ cs) (suc (suc f)) l = absurd (omega arith)

at_two_more : (cs : List Constructor) (m : ℕ) (c : Constructor) → m < length cs → c ≡ get_or cs m c → constructor_in (map constructor_of cs) (suc (suc m)) ≡ Some (constructor_of c)
at_two_more [] m c l e = absurd (omega arith)
at_two_more (d ∷ cs) zero c l e = ap (λ i. Some (constructor_of i)) (sym e)
at_two_more (d ∷ cs) (suc m) c l e = at_two_more cs m c (omega arith) e

past_two_more : (cs : List Constructor) (m : ℕ) → length cs ≤ m → constructor_in (map constructor_of cs) (suc (suc m)) ≡ None
past_two_more [] m l = refl
past_two_more (d ∷ cs) zero l = absurd (omega arith)
past_two_more (d ∷ cs) (suc m) l = past_two_more cs m (omega arith)

pub constructor_found : (cs : List Constructor) (f : ℕ) (c : Constructor) → 2 ≤ f → f - 2 < length cs → c ≡ get_or cs (f - 2) c → constructor_in (map constructor_of cs) f ≡ Some (constructor_of c)
constructor_found cs f c h l e =
    let s : f ≡ suc (suc (f - 2)) = omega arith in
    ap (constructor_in (map constructor_of cs)) s ∙ at_two_more cs (f - 2) c l e

pub constructor_past : (cs : List Constructor) (f : ℕ) → 2 ≤ f → length cs ≤ f - 2 → constructor_in (map constructor_of cs) f ≡ None
constructor_past cs f h l =
    let s : f ≡ suc (suc (f - 2)) = omega arith in
    ap (constructor_in (map constructor_of cs)) s ∙ past_two_more cs (f - 2) l
