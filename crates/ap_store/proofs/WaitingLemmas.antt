-- Parts of terms that wait while others are looked through.
use Rattle.std.proofs.Common.{◌≡◌, ◌<◌, ◌+◌, ◌∙◌, ℕ, Bool, false, ◌||◌, List, [], ◌∷◌, ◌++◌, refl, ap, arith}
use Rattle.ap_defs.specs.Terms.{NominalTerm}
use Rattle.ap_defs.specs.declared.terms.Var.{Var}
use Rattle.ap_perm.proofs.VisitLemmas.{visits_some}
use Rattle.ap_theory.proofs.BooleanLemmas.{or_swap}
use Rattle.ap_store.specs.Founds.{bare_term, occurs_in}
use Rattle.ap_store.specs.declared.bare.Bare.{Bare}
use Rattle.ap_store.specs.declared.store.Store.{Store}
use Rattle.ap_store.specs.Views.{rank, raw_bound}
use Rattle.ap_store.proofs.FollowLemmas.{visits_in}
use Rattle.ap_store.proofs.StoreLemmas.{store_ranked}

-- a variable occurs in one of them at least
abbrev pub occurs_in_any : Store → Var → List Bare → Bool
occurs_in_any s x [] = false
occurs_in_any s x (b ∷ bs) = occurs_in s x b || occurs_in_any s x bs

abbrev pub visits_in_all : Store → List Bare → ℕ
visits_in_all s [] = 0
visits_in_all s (b ∷ bs) = visits_in s (bare_term b) + visits_in_all s bs

module _ (s : Store) where
  any_last : (x : Var) (bs : List Bare) (b : Bare) → occurs_in_any s x (bs ++ b ∷ []) ≡ (occurs_in s x b || occurs_in_any s x bs)
  any_last x [] b = refl
  any_last x (c ∷ bs) b = ap (λ (o : Bool). occurs_in s x c || o) (any_last x bs b) ∙ or_swap (occurs_in s x c) (occurs_in s x b) (occurs_in_any s x bs)

  pub visits_last : (bs : List Bare) (b : Bare) → visits_in_all s (bs ++ b ∷ []) ≡ visits_in_all s bs + visits_in s (bare_term b)
  visits_last [] b = omega arith
  visits_last (c ∷ bs) b = let h = visits_last bs b in omega (arith, h)

  pub some_visits : (t : NominalTerm) → 0 < visits_in s t
  some_visits t = visits_some (raw_bound s) (rank s) (store_ranked s) t

  -- one more waits
  pub one_waits : (x : Var) (bs more : List Bare) (b : Bare) → more ≡ bs ++ b ∷ [] → occurs_in_any s x more ≡ (occurs_in s x b || occurs_in_any s x bs)
  one_waits x bs more b e = ap (occurs_in_any s x) e ∙ any_last x bs b
