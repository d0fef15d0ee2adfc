-- What bindings and conditions changes leave.
use Rattle.std.specs.Prelude.{◌≡◌, ℕ, suc, ◌+◌, ◌==◌, List, [], ◌∷◌, ◌++◌, Some, None, if◌then◌else◌}
use Rattle.ap_defs.specs.Freshness.{var_eq}
use Rattle.ap_defs.specs.Substitution.{occurs, under}
use Rattle.ap_defs.specs.Terms.{susp}
use Rattle.ap_defs.specs.declared.terms.Cond.{Cond}
use Rattle.ap_defs.specs.declared.terms.Var.{Var}
use Rattle.ap_perm.specs.Lookups as lookups
use Rattle.ap_perm.specs.Lookups.{depth_of}
use Rattle.ap_store.specs.Changes.{Change, Made, Bound, Added, Taken, after}
use Rattle.ap_store.specs.Triples.{Triple}

abbrev pub nothing_bound : lookups.Bound
nothing_bound x = None

abbrev pub raw_step : Change → lookups.Bound → lookups.Bound
raw_step (Made n) b = b
raw_step (Bound y t) b = λ x. if var_eq x y then Some t else b x
raw_step (Added c) b = b
raw_step (Taken x cs) b = b

-- the terms of the closures themselves, in which no binding is carried out
abbrev pub raw_after : List Change → lookups.Bound → lookups.Bound
raw_after [] b = b
raw_after (c ∷ cs) b = raw_after cs (raw_step c b)

abbrev pub no_rank : Var → ℕ
no_rank x = 0

-- what reaches the bound variable is ranked above the term to which this is bound
abbrev pub rank_step : Change → Triple → (Var → ℕ) → Var → ℕ
rank_step (Made n) a r = r
rank_step (Bound y t) a r = λ x. if occurs y (under a.bindings (susp [] x)) then (r x + suc (depth_of r t)) else r x
rank_step (Added c) a r = r
rank_step (Taken x cs) a r = r

abbrev pub rank_after : List Change → Triple → (Var → ℕ) → Var → ℕ
rank_after [] a r = r
rank_after (c ∷ cs) a r = rank_after cs (after c a) (rank_step c a r)

-- the conditions on each number's variable in the order in which they came
abbrev pub nothing_held : ℕ → List Cond
nothing_held i = []

abbrev pub held_step : Change → (ℕ → List Cond) → ℕ → List Cond
held_step (Made n) k = k
held_step (Bound x t) k = k
held_step (Added c) k = λ i. if i == c.var.num then k i ++ c ∷ [] else k i
held_step (Taken x cs) k = λ i. if i == x.num then [] else k i

abbrev pub held_after : List Change → (ℕ → List Cond) → ℕ → List Cond
held_after [] k = k
held_after (c ∷ cs) k = held_after cs (held_step c k)

-- what is taken out is what was held
abbrev pub IsTakenHeld : Change → (ℕ → List Cond) → Type 0
IsTakenHeld (Made n) k = Unit {0}
IsTakenHeld (Bound x t) k = Unit {0}
IsTakenHeld (Added c) k = Unit {0}
IsTakenHeld (Taken x cs) k = cs ≡ k x.num

abbrev pub AreTakenHeld : List Change → (ℕ → List Cond) → Type 0
AreTakenHeld [] k = Unit {0}
AreTakenHeld (c ∷ cs) k = IsTakenHeld c k × AreTakenHeld cs (held_step c k)
