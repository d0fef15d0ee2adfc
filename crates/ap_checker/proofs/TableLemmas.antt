-- What is left of a walk stays of its table.
use Rattle.std.proofs.Common.{◌≡◌, ℕ, List, [], ◌∷◌, ◌++◌, take, subst}
use Rattle.std.specs.List.{All}
use Rattle.std.proofs.lemmas.List.Elements.{All-push, All-same, All-take}
use Rattle.ap_shared.specs.declared.arena.SharedTerms.{SharedTerms}
use Rattle.ap_judge.specs.declared.scope.Standing.{Standing}
use Rattle.ap_judge.specs.Tables.{IsStandingIn}
use Rattle.ap_judge.proofs.TableLemmas.{last_all}
use Rattle.ap_checker.specs.declared.walk.Pending.{Pending}
use Rattle.ap_checker.specs.declared.walk.Walk.{Walk}
use Rattle.ap_checker.specs.Tables.{IsPendingIn, IsWalkIn}

-- one thing more stands, or one node more is left
module _ (ts : SharedTerms) (v w : Walk) where
  pub walk_brought : (s : Standing) → w.standing.items ≡ v.standing.items ++ s ∷ [] → w.pending.items ≡ v.pending.items → IsStandingIn ts s → IsWalkIn ts v → IsWalkIn ts w
  walk_brought s e f k h =
      (All-same (IsStandingIn ts) w.standing.items (v.standing.items ++ s ∷ []) e (All-push (IsStandingIn ts) v.standing.items s h.0 k), All-same (IsPendingIn ts) w.pending.items v.pending.items f h.1)

  pub walk_put : (t : Pending) → w.standing.items ≡ v.standing.items → w.pending.items ≡ v.pending.items ++ t ∷ [] → IsPendingIn ts t → IsWalkIn ts v → IsWalkIn ts w
  walk_put t e f k h =
      (All-same (IsStandingIn ts) w.standing.items v.standing.items e h.0, All-same (IsPendingIn ts) w.pending.items (v.pending.items ++ t ∷ []) f (All-push (IsPendingIn ts) v.pending.items t h.1 k))

-- the node that is next, where what stands after its mark was cut off
module _ (ts : SharedTerms) (v w : Walk) (t : Pending) (n : ℕ) (top : v.pending.items ≡ w.pending.items ++ t ∷ []) (cut : w.standing.items ≡ take n v.standing.items) (h : IsWalkIn ts v) where
  parted : All (IsPendingIn ts) w.pending.items × IsPendingIn ts t
  parted = last_all (IsPendingIn ts) w.pending.items t (subst (λ (ps : List Pending). All (IsPendingIn ts) ps) top h.1)

  pub next_of : IsPendingIn ts t
  next_of = parted.1

  pub walk_next : IsWalkIn ts w
  walk_next = (All-same (IsStandingIn ts) w.standing.items (take n v.standing.items) cut (All-take (IsStandingIn ts) n v.standing.items h.0), parted.0)
