-- The last of what stands round a part is innermost.
use Rattle.std.proofs.Common.{◌≡◌, ◌<◌, ◌+◌, ◌*◌, ℕ, List, [], ◌∷◌, ◌++◌, length, refl, sym, ap, ◌∙◌, arith}
use Rattle.ap_defs.specs.Canonical.{canonical}
use Rattle.ap_defs.specs.Terms.{NominalTerm, abs, app, pair}
use Rattle.ap_defs.specs.Unification.{size}
use Rattle.ap_defs.specs.declared.terms.Name.{Name}
use Rattle.ap_defs.specs.declared.terms.Swap.{Swap}
use Rattle.ap_perm.proofs.SwappingLemmas.{canonical_none}
use Rattle.ap_store.specs.declared.store.Store.{Store}
use Rattle.ap_machine.specs.Closed.{closed_round, closed_within, round_work, rounds_work}
use Rattle.ap_machine.specs.declared.closing.Round.{Round}

-- an empty list is canonical
pub canonical_empty : (p : List Swap) → length p ≡ 0 → p ≡ canonical p
canonical_empty [] h = sym canonical_none
canonical_empty (s ∷ p) h = absurd (omega (arith, h))

pub closed_within_last : (s : Store) (rs : List Round) (r : Round) (t : NominalTerm) → closed_within s (rs ++ r ∷ []) t ≡ closed_within s rs (closed_round s r t)
closed_within_last s [] r t = refl
closed_within_last s (q ∷ rs) r t = ap (closed_round s q) (closed_within_last s rs r t)

pub rounds_work_last : (s : Store) (rs : List Round) (r : Round) → rounds_work s (rs ++ r ∷ []) ≡ rounds_work s rs + round_work s r
rounds_work_last s [] r = omega arith
rounds_work_last s (q ∷ rs) r = let k = rounds_work_last s rs r in omega (arith, k)

-- a part goes on inside what stands round it
pub round_goes_in : (s : Store) (rs qs : List Round) (r : Round) (w t : NominalTerm) → qs ≡ rs ++ r ∷ [] → w ≡ closed_round s r t → closed_within s qs t ≡ closed_within s rs w
round_goes_in s rs qs r w t h e = ap (λ ms. closed_within s ms t) h ∙ closed_within_last s rs r t ∙ ap (closed_within s rs) (sym e)

-- less is left
pub work_goes_in : (s : Store) (rs qs : List Round) (r : Round) (m n : ℕ) → qs ≡ rs ++ r ∷ [] → round_work s r + m < n → rounds_work s qs + m < rounds_work s rs + n
work_goes_in s rs qs r m n h k =
    let e : rounds_work s qs ≡ rounds_work s rs + round_work s r = ap (rounds_work s) h ∙ rounds_work_last s rs r in
    omega (arith, e, k)

pub pair_work : (w t u : NominalTerm) → w ≡ pair t u → 2 + 3 * size u + 3 * size t < 3 * size w
pair_work w t u h = let e : size w ≡ size (pair t u) = ap size h in omega (arith, e)

pub app_work : (w : NominalTerm) (f : ℕ) (t : NominalTerm) → w ≡ app f t → 1 + 3 * size t < 3 * size w
app_work w f t h = let e : size w ≡ size (app f t) = ap size h in omega (arith, e)

pub abs_work : (w : NominalTerm) (a : Name) (t : NominalTerm) → w ≡ abs a t → 1 + 3 * size t < 3 * size w
abs_work w a t h = let e : size w ≡ size (abs a t) = ap size h in omega (arith, e)
