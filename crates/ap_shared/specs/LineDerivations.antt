-- Derivations by the lines of their terms, without where they lie in memory.
use Rattle.std.specs.Prelude.{ℕ}
use Rattle.ap_defs.specs.Derivations.{DerivationOver, atom, equal, fresh, succeed, both, left, right, exists, new}
use Rattle.ap_shared.specs.declared.derivations.SharedDerivation as code

abbrev pub derivation_lines : code.SharedDerivation → DerivationOver ℕ
derivation_lines (code.Atom' u p d) = atom u.value.clause u.value.names u.value.terms (derivation_lines d)
derivation_lines code.Eq = equal
derivation_lines code.Fresh = fresh
derivation_lines code.True = succeed
derivation_lines (code.Both' p d q e) = both (derivation_lines d) (derivation_lines e)
derivation_lines (code.Left' p d) = left (derivation_lines d)
derivation_lines (code.Right' p d) = right (derivation_lines d)
derivation_lines (code.Exists' i p d) = exists i (derivation_lines d)
derivation_lines (code.New' a p d) = new a.value (derivation_lines d)
