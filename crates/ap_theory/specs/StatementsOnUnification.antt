-- What is proved of unification.
use Rattle.std.specs.Prelude.{◌≡◌, ◌≢◌, ◌≤◌, ℕ, ◌&&◌, List, Option, Some, None, ◌↔◌}
use Rattle.ap_defs.specs.Freshness.{Conds}
use Rattle.ap_defs.specs.Groundings.{Grounding, agrees, equates_all, is_instance, meets}
use Rattle.ap_defs.specs.SameTerm.{SameBindings, SameTerm, SameTerms, SameUnified}
use Rattle.ap_defs.specs.Substitution.{Binding, bound_term}
use Rattle.ap_defs.specs.Terms.{NominalTerm}
use Rattle.ap_defs.specs.Unification.{Stage, Unified, done, ending, failed, next, run, solved, step, steps_for, unfinished, unify, unsolvable}
use Rattle.ap_defs.specs.declared.terms.Var.{Var}
use Rattle.ap_theory.specs.Contexts.{Context}
use Rattle.ap_theory.specs.Substitutions.{Agrees, EquatesAll, IsInstance, Meets, Substitution}

-- the steps that are allowed suffice
abbrev pub UnificationEnds : Type 0
UnificationEnds = (s : Stage) → ending s ≢ unfinished

abbrev pub MoreStepsChangeNothing : Type 0
MoreStepsChangeNothing = (s : Stage) (k : ℕ) → steps_for s ≤ k → run k s ≡ ending s

-- any number of steps in which a run ends gives the ending
abbrev pub EndingByAnyBound : Type 0
EndingByAnyBound = (s : Stage) (k : ℕ) → run k s ≢ unfinished → run k s ≡ ending s

-- a stage ends as the one that its step makes
abbrev pub EndingAfterAStep : Type 0
EndingAfterAStep = (s s' : Stage) → step s ≡ next s' → ending s ≡ ending s'

abbrev pub EndingOfAFailure : Type 0
EndingOfAFailure = (s : Stage) → step s ≡ failed → ending s ≡ unsolvable

abbrev pub EndingOfTheDone : Type 0
EndingOfTheDone = (s : Stage) → step s ≡ done → ending s ≡ solved s

-- The groundings that meet the conditions, agree with the substitution and make each two sides equal are those that agree with what
-- unification gives and meet its conditions. Where it gives nothing, there is no such grounding.
abbrev pub UnificationHasTheInstances : Type 0
UnificationHasTheInstances = (g : Grounding) (s : List Binding) (ds : Conds) (ts us : List NominalTerm)
    → (meets g ds && (agrees g s && equates_all g ts us)) ≡ is_instance g (unify s ds ts us)

-- The substitutions that meet the conditions, agree with the bindings and make each two sides equal are those that agree with what
-- unification gives and meet its conditions. Where it gives nothing, there is none.
abbrev pub UnificationIsMostGeneral : Context → Type 0
UnificationIsMostGeneral d = (s : Substitution) (bs : List Binding) (ds : Conds) (ts us : List NominalTerm)
    → (Meets d s ds × Agrees d s bs × EquatesAll d s ts us) ↔ IsInstance d s (unify bs ds ts us)

-- where lists of swappings are equal as permutations, so are those of the results, and the conditions are the same
abbrev pub UnificationRespectsEqualPermutations : Type 0
UnificationRespectsEqualPermutations = (r s : List Binding) (ds : Conds) (ts us vs ws : List NominalTerm)
    → SameBindings r s → SameTerms ts vs → SameTerms us ws → SameUnified (unify r ds ts us) (unify s ds vs ws)

abbrev pub BoundAlike : Option NominalTerm → Option NominalTerm → Type 0
BoundAlike None None = Unit {0}
BoundAlike (Some t) (Some u) = SameTerm t u
BoundAlike _ _ = ⊥

-- lists of bindings that are one substitution, whatever their order
abbrev pub BindAlike : List Binding → List Binding → Type 0
BindAlike r s = (x : Var) → BoundAlike (bound_term r x) (bound_term s x)

abbrev pub UnifiedAlike : Option Unified → Option Unified → Type 0
UnifiedAlike None None = Unit {0}
UnifiedAlike (Some a) (Some b) = BindAlike a.bindings b.bindings × (a.conditions ≡ b.conditions)
UnifiedAlike _ _ = ⊥

-- the order of the bindings does not matter, nor how permutations are listed
abbrev pub UnificationSeesTheSubstitution : Type 0
UnificationSeesTheSubstitution = (r s : List Binding) (ds : Conds) (ts us vs ws : List NominalTerm)
    → BindAlike r s → SameTerms ts vs → SameTerms us ws → UnifiedAlike (unify r ds ts us) (unify s ds vs ws)
