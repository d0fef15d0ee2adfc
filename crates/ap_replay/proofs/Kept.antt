-- The outputs that are wanted are the same with their paths and without.
use Rattle.std.proofs.Common.{◌≡◌, ℕ, zero, suc, ◌∙◌, if◌then◌else◌, List, [], ◌∷◌, map, refl, ap}
use Rattle.ap_defs.specs.Answers.{NominalOut, cut, found, stuck}
use Rattle.ap_backchain.specs.Ends.{kept_out}
use Rattle.ap_backchain.specs.declared.run.Paths.{Paths}
use Rattle.ap_backchain.specs.declared.run.Paths.TheVariants as variants
use Rattle.ap_paths.specs.Limits.{first_part, is_answer_out, part}
use Rattle.ap_paths.specs.declared.limits.Limit.{Limit}
use Rattle.ap_paths.specs.declared.limits.Limit.TheVariants as limits

-- without its path it is an answer as before
found_kept : (paths : Paths) (o : NominalOut) → is_answer_out (kept_out paths o) ≡ is_answer_out o
found_kept variants.Kept o = refl
found_kept variants.Left (found p a) = refl
found_kept variants.Left (cut p) = refl
found_kept variants.Left (stuck p) = refl

first_kept : (paths : Paths) (n : ℕ) (os : List NominalOut) → first_part n (map (kept_out paths) os) ≡ map (kept_out paths) (first_part n os)
first_kept paths zero os = refl
first_kept paths (suc n) [] = refl
first_kept paths (suc n) (o ∷ os) =
    ap (λ b. kept_out paths o ∷ first_part (if b then n else suc n) (map (kept_out paths) os)) (found_kept paths o)
    ∙ ap (λ xs. kept_out paths o ∷ xs) (first_kept paths (if is_answer_out o then n else suc n) os)

-- what is wanted of outputs without their paths is what is wanted of the outputs, without their paths
pub part_kept : (paths : Paths) (l : Limit) (os : List NominalOut) → part l (map (kept_out paths) os) ≡ map (kept_out paths) (part l os)
part_kept paths limits.All os = refl
part_kept paths (limits.First n) os = first_kept paths n os
