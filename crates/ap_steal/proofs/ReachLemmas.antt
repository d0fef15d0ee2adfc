-- How far a worker searches is a number of the machine.
use Rattle.std.proofs.Common.{◌≡◌, ◌*◌, ◌%◌, ◌≤◌, ◌∙◌, ℕ, ap, subst, sym, arith}
use Rattle.std.proofs.Math.Nat.{min-le_right, mod-eq_of_lt}
use Rattle.std.proofs.Math.Pow.{pow_mono}
use Rattle.std.proofs.lemmas.Nat.{mul-le}
use Rattle.std.specs.Prelude.{◌^◌, min, max}
use Rattle.std.specs.Int.{trailing_zeros, w32}
use Rattle.ap_steal.specs.Reach.{reach_of_narrow}

-- where the deque was left empty
no_more : (a d : ℕ) → a ≤ 2 ^ 24 → d ≤ 13 → a * 2 ^ (3 * d) % 2 ^ 64 ≡ a * 2 ^ (3 * d)
no_more a d few h =
    let within : 3 * d ≤ 39 = omega (arith, h) in
    let most : 2 ^ (3 * d) ≤ 2 ^ 39 = pow_mono within in
    let all : a * 2 ^ (3 * d) ≤ 2 ^ 24 * 2 ^ 39 = mul-le a (2 ^ (3 * d)) (2 ^ 24) (2 ^ 39) few most in
    mod-eq_of_lt (omega (arith, all))

pub narrow_is : (narrow way m a d : ℕ) → m ≡ min way (2 ^ 24) → a ≡ max m 64 → d ≡ min (trailing_zeros w32 narrow) 13 → a * 2 ^ (3 * d) % 2 ^ 64 ≡ reach_of_narrow narrow way
narrow_is narrow way m a d e f g =
    let few : m ≤ 2 ^ 24 = subst (λ (x : ℕ). x ≤ 2 ^ 24) (sym e) (min-le_right _ _) in
    let small : a ≤ 2 ^ 24 = omega (arith, few, f) in
    let short : d ≤ 13 = subst (λ (x : ℕ). x ≤ 13) (sym g) (min-le_right _ _) in
    no_more a d small short
    ∙ ap (λ (x : ℕ). x * 2 ^ (3 * d)) (f ∙ ap (λ (x : ℕ). max x 64) e)
    ∙ ap (λ (x : ℕ). max (min way (2 ^ 24)) 64 * 2 ^ (3 * x)) g
