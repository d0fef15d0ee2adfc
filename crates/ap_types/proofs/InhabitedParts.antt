-- Whether types are inhabited, where their parts are looked at one after the other.
use Rattle.std.proofs.Common.{◌<◌, ℕ, Bool, refl, arith}
use Rattle.ap_defs.specs.Types.{NominalType, unit, names, base, pair, list, abs}
use Rattle.ap_defs.proofs.SpineLemmas.{type_size}
use Rattle.ap_types.specs.Inhabited.{inhabited_if}
use Rattle.ap_types.specs.Needed.{own_inhabited, needed_parts}
use Rattle.ap_types.proofs.PartTests.{IsTest, own_only, both_parts, one_part, sum_sizes}

pub inhabited_test : (found : ℕ → Bool) → IsTest needed_parts (inhabited_if found) (own_inhabited found)
inhabited_test found unit = refl
inhabited_test found (names s) = refl
inhabited_test found (base d) = own_only (found d)
inhabited_test found (pair t u) = both_parts (inhabited_if found) t u
inhabited_test found (list t) = refl
inhabited_test found (abs s t) = one_part (inhabited_if found) t

pub needed_smaller : (t : NominalType) → sum_sizes type_size (needed_parts t) < type_size t
needed_smaller unit = omega arith
needed_smaller (names s) = omega arith
needed_smaller (base d) = omega arith
needed_smaller (pair t u) = omega arith
needed_smaller (list t) = omega arith
needed_smaller (abs s t) = omega arith
