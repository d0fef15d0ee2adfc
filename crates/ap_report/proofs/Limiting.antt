-- What holds of all outputs of a query holds of those that are wanted.
use Rattle.std.proofs.Common.{◌≡◌, ℕ, zero, suc, ◌+◌, ◌<◌, Bool, true, false, if◌then◌else◌, List, [], ◌∷◌, refl, ap, arith}
use Rattle.ap_defs.specs.Answers.{NominalAnswer, NominalOut, cut, found, stuck}
use Rattle.ap_paths.specs.Limits.{IsWanting, first_part, found_in, is_answer_out, part}
use Rattle.ap_paths.specs.declared.limits.Limit.{Limit}
use Rattle.ap_paths.specs.declared.limits.Limit.TheVariants as limits
use Rattle.ap_soundness.specs.FoundStates.{EachAnswer}

each_of_first : (P : NominalAnswer → Type 0) (n : ℕ) (os : List NominalOut) → EachAnswer P os → EachAnswer P (first_part n os)
each_of_first P zero os h = tt
each_of_first P (suc n) [] h = tt
each_of_first P (suc n) (found p a ∷ os) h = (h.0, each_of_first P n os h.1)
each_of_first P (suc n) (cut p ∷ os) h = each_of_first P (suc n) os h
each_of_first P (suc n) (stuck p ∷ os) h = each_of_first P (suc n) os h

pub each_of_part : (P : NominalAnswer → Type 0) (l : Limit) (os : List NominalOut) → EachAnswer P os → EachAnswer P (part l os)
each_of_part P limits.All os h = h
each_of_part P (limits.First n) os h = each_of_first P n os h

fewer : (b : Bool) (n m : ℕ) → (if b then 1 else 0) + m < suc n → m < (if b then n else suc n)
fewer true n m l = omega arith
fewer false n m l = omega arith

first_whole : (n : ℕ) (os : List NominalOut) → found_in (first_part n os) < n → first_part n os ≡ os
first_whole zero os l = absurd (omega arith)
first_whole (suc n) [] l = refl
first_whole (suc n) (o ∷ os) l =
    let m = if is_answer_out o then n else suc n in ap (λ xs. o ∷ xs) (first_whole m os (fewer (is_answer_out o) n (found_in (first_part m os)) l))

-- where fewer answers are there than are wanted, these are all outputs
pub part_whole : (l : Limit) (os : List NominalOut) → IsWanting l (found_in (part l os)) → part l os ≡ os
part_whole limits.All os h = refl
part_whole (limits.First n) os h = first_whole n os h
