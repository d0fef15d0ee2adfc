-- The least of several kinds.
use Rattle.std.proofs.Common.{◌≡◌, Bool, true, false, Option, None, Some, refl, sym, ap, ◌∙◌, arith}
use Rattle.std.proofs.lemmas.Bool.Decides.{nat_tests}
use Rattle.std.specs.Prelude.{nat_le, if◌then◌else◌}
use Rattle.ap_defs.specs.declared.faults.TypeKind.{TypeKind}
use Rattle.ap_defs.specs.FaultKinds.{type_number}
use Rattle.ap_scopes.specs.Flaws.{lesser, least_kind}

lesser-assoc : (a b c : TypeKind) → lesser (lesser a b) c ≡ lesser a (lesser b c)
lesser-assoc a b c = by_first (nat_le (type_number a) (type_number b)) (nat_le (type_number b) (type_number c)) refl refl
  where
    by_first : (p q : Bool) → nat_le (type_number a) (type_number b) ≡ p → nat_le (type_number b) (type_number c) ≡ q
        → lesser (if p then a else b) c ≡ lesser a (if q then b else c)
    by_first true true e f = let g : nat_le (type_number a) (type_number c) ≡ true = grind (arith, nat_tests) in rw (e, g) refl
    by_first true false e f = refl
    by_first false true e f = rw (e, f) refl
    by_first false false e f = let g : nat_le (type_number a) (type_number c) ≡ false = grind (arith, nat_tests) in rw (f, g) refl

pub least_assoc : (a b c : Option TypeKind) → least_kind (least_kind a b) c ≡ least_kind a (least_kind b c)
least_assoc None b c = refl
least_assoc (Some k) None c = refl
least_assoc (Some k) (Some m) None = refl
least_assoc (Some k) (Some m) (Some n) = ap (λ x. Some x) (lesser-assoc k m n)

pub least_none : (a : Option TypeKind) → least_kind a None ≡ a
least_none None = refl
least_none (Some k) = refl

-- the least of what was found and of a whole, a part of which is found too
pub least_goes_on : (found part rest next whole all : Option TypeKind) → next ≡ least_kind found part → whole ≡ least_kind part rest → least_kind found whole ≡ all → least_kind next rest ≡ all
least_goes_on found part rest next whole all h w e = ap (λ n. least_kind n rest) h ∙ least_assoc found part rest ∙ ap (least_kind found) (sym w) ∙ e
