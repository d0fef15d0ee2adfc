-- Looking up kinds, constructors and predicates by number.
use Rattle.std.proofs.Common.{◌≡◌, ◌<◌, ◌≤◌, ◌-◌, ◌∙◌, ℕ, zero, suc, List, [], ◌∷◌, map, length, refl, sym, ap, arith, get_or, Some, None}
use Rattle.ap_defs.specs.declared.goals.Kind.{Kind}
use Rattle.ap_defs.specs.declared.goals.Constructor.{Constructor}
use Rattle.ap_defs.specs.declared.terms.Ty.{Ty}
use Rattle.ap_defs.specs.Types.{NominalConstructor, type_of, kind_of, constructor_of}
use Rattle.ap_defs.specs.Answers.{kind_at}
use Rattle.ap_defs.specs.Printing.{constructor_in}
use Rattle.ap_program.specs.Typed.{predicate_at}

pub kind_found : (ks : List Kind) (n : ℕ) (k : Kind) → n < length ks → k ≡ get_or ks n k → kind_at (map kind_of ks) n ≡ Some (kind_of k)
kind_found [] n k l e = absurd (omega arith)
kind_found (j ∷ ks) zero k l e = ap (λ i. Some (kind_of i)) (sym e)
kind_found (j ∷ ks) (suc n) k l e = kind_found ks n k (omega arith) e

pub kind_past : (ks : List Kind) (n : ℕ) → length ks ≤ n → kind_at (map kind_of ks) n ≡ None
kind_past [] n l = refl
kind_past (j ∷ ks) zero l = absurd (omega arith)
kind_past (j ∷ ks) (suc n) l = kind_past ks n (omega arith)

pub constructor_low : (cs : List NominalConstructor) (f : ℕ) → f < 2 → constructor_in cs f ≡ None
constructor_low [] f l = refl
constructor_low (c ∷ cs) zero l = refl
constructor_low (c ∷ cs) (suc zero) l = refl
constructor_low (c ∷ cs) (suc (suc f)) l = absurd (omega arith)

at_two_more : (cs : List Constructor) (m : ℕ) (c : Constructor) → m < length cs → c ≡ get_or cs m c → constructor_in (map constructor_of cs) (suc (suc m)) ≡ Some (constructor_of c)
at_two_more [] m c l e = absurd (omega arith)
at_two_more (d ∷ cs) zero c l e = ap (λ i. Some (constructor_of i)) (sym e)
at_two_more (d ∷ cs) (suc m) c l e = at_two_more cs m c (omega arith) e

past_two_more : (cs : List Constructor) (m : ℕ) → length cs ≤ m → constructor_in (map constructor_of cs) (suc (suc m)) ≡ None
past_two_more [] m l = refl
past_two_more (d ∷ cs) zero l = absurd (omega arith)
past_two_more (d ∷ cs) (suc m) l = past_two_more cs m (omega arith)

pub constructor_found : (cs : List Constructor) (f : ℕ) (c : Constructor) → 2 ≤ f → f - 2 < length cs → c ≡ get_or cs (f - 2) c → constructor_in (map constructor_of cs) f ≡ Some (constructor_of c)
constructor_found cs f c h l e =
    let s : f ≡ suc (suc (f - 2)) = omega arith in
    ap (constructor_in (map constructor_of cs)) s ∙ at_two_more cs (f - 2) c l e

pub constructor_past : (cs : List Constructor) (f : ℕ) → 2 ≤ f → length cs ≤ f - 2 → constructor_in (map constructor_of cs) f ≡ None
constructor_past cs f h l =
    let s : f ≡ suc (suc (f - 2)) = omega arith in
    ap (constructor_in (map constructor_of cs)) s ∙ past_two_more cs (f - 2) l

pub predicate_found : (ps : List (List Ty)) (n : ℕ) (p : List Ty) → n < length ps → p ≡ get_or ps n p → predicate_at (map (map type_of) ps) n ≡ Some (map type_of p)
predicate_found [] n p l e = absurd (omega arith)
predicate_found (q ∷ ps) zero p l e = ap (λ (i : List Ty). Some (map type_of i)) (sym e)
predicate_found (q ∷ ps) (suc n) p l e = predicate_found ps n p (omega arith) e

pub predicate_past : (ps : List (List Ty)) (n : ℕ) → length ps ≤ n → predicate_at (map (map type_of) ps) n ≡ None
predicate_past [] n l = refl
predicate_past (q ∷ ps) zero l = absurd (omega arith)
predicate_past (q ∷ ps) (suc n) l = predicate_past ps n (omega arith)
