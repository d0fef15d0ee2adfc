-- What checks of all derivations checks of those that are wanted.
use Rattle.std.proofs.Common.{◌≡◌, ℕ, zero, suc, List, [], ◌∷◌, ◌++◌, take}
use Rattle.std.specs.List.{AllByRecursion}
use Rattle.ap_defs.specs.Goals.{Clauses, NominalQuery}
use Rattle.ap_paths.specs.declared.limits.Limit.{Limit}
use Rattle.ap_paths.specs.declared.limits.Limit.TheVariants as limits
use Rattle.ap_bundle.specs.Bundles.{NominalProved}
use Rattle.ap_checks.specs.Checks.{yes}
use Rattle.ap_verdicts.specs.Proofs.{limited_proofs_from, proofs_from, query_proofs, wanted_proofs}
use Rattle.ap_verdicts.specs.Soundness.{LimitedProofsCheck}
use Rattle.ap_verdicts.specs.Verdicts.{verdict_on_proved}
use Rattle.ap_verdicts.proofs.SoundnessLemmas.{all-append, proofs_check}

module _ (P : NominalProved → Type 0) where
  all_taken : (n : ℕ) (ds : List NominalProved) → AllByRecursion P ds → AllByRecursion P (take n ds)
  all_taken zero ds h = tt
  all_taken (suc n) [] h = tt
  all_taken (suc n) (d ∷ ds) h = (h.0, all_taken n ds h.1)

  all_wanted : (limit : Limit) (ds : List NominalProved) → AllByRecursion P ds → AllByRecursion P (wanted_proofs limit ds)
  all_wanted limits.All ds h = h
  all_wanted (limits.First n) ds h = all_taken n ds h

  all_parts : (xs ys : List NominalProved) → AllByRecursion P (xs ++ ys) → AllByRecursion P xs × AllByRecursion P ys
  all_parts [] ys h = (tt, h)
  all_parts (x ∷ xs) ys h = let rest = all_parts xs ys h.1 in ((h.0, rest.0), rest.1)

  all_limited : (program : Clauses) (depth : ℕ) (limit : Limit) (k : ℕ) (qs : List NominalQuery) → AllByRecursion P (proofs_from program depth k qs)
      → AllByRecursion P (limited_proofs_from program depth limit k qs)
  all_limited program depth limit k [] h = tt
  all_limited program depth limit k (q ∷ qs) h =
      let parts = all_parts (query_proofs program depth k q) (proofs_from program depth (suc k) qs) h in
      all-append P (wanted_proofs limit (query_proofs program depth k q)) (limited_proofs_from program depth limit (suc k) qs)
      (all_wanted limit (query_proofs program depth k q) parts.0) (all_limited program depth limit (suc k) qs parts.1)

pub limited_check : LimitedProofsCheck
limited_check p typed depth limit = all_limited (λ d. verdict_on_proved p d ≡ yes) p.clauses depth limit 1 p.queries (proofs_check p typed depth)
