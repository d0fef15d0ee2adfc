-- What is left of a walk over a derivation in preorder.
use Rattle.std.specs.Prelude.{◌≡◌, ◌≤◌, ℕ, suc, ◌+◌, List, [], ◌∷◌, length, reverse, take, Option, Some, None}
use Rattle.ap_defs.specs.Answers.{NominalAnswer}
use Rattle.ap_defs.specs.Derivations.{NominalDerivation}
use Rattle.ap_defs.specs.Goals.{NominalGoal, NominalProgram, NominalQuery, goal_of}
use Rattle.ap_defs.specs.Renaming.{local_names}
use Rattle.ap_defs.specs.Resolution.{kinds_of}
use Rattle.ap_defs.specs.Types.{NominalKind, locals_of}
use Rattle.ap_checks.specs.Checks.{Refusal, refusal_of_rule, node_count, first_refusal, refusal, reported}
use Rattle.ap_checks.specs.OpenEnvironments.{OpenEnvironment, open_environment}
use Rattle.ap_shared.specs.SharedViews.{shared_derivation, shared_terms}
use Rattle.ap_checker.specs.declared.rules.Rule.{Rule}
use Rattle.ap_judge.specs.declared.scope.Standing.{Standing}
use Rattle.ap_checker.specs.declared.walk.Pending.{Pending}
use Rattle.ap_checker.specs.declared.walk.Obligation.{Obligation}
use Rattle.ap_checker.specs.declared.walk.Walk.{Walk}
use Rattle.ap_checker.specs.Rules.{rule_number}
use Rattle.ap_judge.specs.Scopes.{environment_of}

abbrev pub derivation_at : Obligation → NominalDerivation
derivation_at t = shared_derivation (shared_terms t.terms.now) t.derivation.now

abbrev pub goal_at : Obligation → NominalGoal
goal_at t = goal_of t.goal.now

abbrev pub kinds_at : Obligation → List NominalKind
kinds_at t = kinds_of (locals_of t.locals.now)

abbrev pub pending_at : Obligation → ℕ → Pending
pending_at t n = record { obligation = t; mark = n }

-- the first refusal of a node and of those below it, where it has this number
abbrev pub refusal_at : NominalProgram → NominalAnswer → ℕ → Obligation → OpenEnvironment → Option Refusal
refusal_at p a n t e = refusal p a (kinds_at t) n (derivation_at t) (goal_at t) e

-- the first refusal of all that is left, the next node first, where that has this number
abbrev pub first_left : NominalProgram → NominalAnswer → ℕ → List Standing → List Pending → Option Refusal
first_left p a n ss [] = None
first_left p a n ss (t ∷ ts) = first_refusal (refusal_at p a n t.obligation (environment_of (take t.mark ss))) (first_left p a (n + node_count (derivation_at t.obligation)) ss ts)

-- how many nodes are left
abbrev pub nodes_left : List Pending → ℕ
nodes_left [] = 0
nodes_left (t ∷ ts) = node_count (derivation_at t.obligation) + nodes_left ts

-- what stands where a node is, stands there also where a later one is
abbrev pub ArePendingMarked : ℕ → List Pending → Type 0
ArePendingMarked top [] = Unit {0}
ArePendingMarked top (t ∷ ts) = (t.mark ≤ top) × ArePendingMarked t.mark ts

-- the node that is next stands last
abbrev pub pending_of : Walk → List Pending
pending_of w = reverse w.pending.items

-- nothing refuses a node itself: what is below it is left, in front of what was left before
pub record ChecksOn (p : NominalProgram) (a : NominalAnswer) (kinds : List NominalKind) (d : NominalDerivation) (g : NominalGoal) (before after : Walk) : Type 0 where
  pub first : (n : ℕ) → first_left p a (suc n) after.standing.items (pending_of after)
      ≡ first_refusal (refusal p a kinds n d g (environment_of before.standing.items)) (first_left p a (n + node_count d) before.standing.items (pending_of before))
  pub nodes : suc (nodes_left (pending_of after)) ≡ node_count d + nodes_left (pending_of before)
  pub marked : ArePendingMarked (length after.standing.items) (pending_of after)

-- a node was looked at: a rule refuses it, or the walk goes on below it
abbrev pub IsVisited : NominalProgram → NominalAnswer → List NominalKind → NominalDerivation → NominalGoal → Walk → Walk → Option Rule → Type 0
IsVisited p a kinds d g before after None = ChecksOn p a kinds d g before after
IsVisited p a kinds d g before after (Some r) = (n : ℕ) → refusal p a kinds n d g (environment_of before.standing.items) ≡ Some (refusal_of_rule n (rule_number r))

-- so many nodes were looked at, and nothing refused them
pub record IsOnWay (p : NominalProgram) (a : NominalAnswer) (whole : Option Refusal) (node : ℕ) (w : Walk) : Type 0 where
  pub done : ℕ
  pub number : node ≡ reported done
  pub first : first_left p a (suc done) w.standing.items (pending_of w) ≡ whole
  pub marked : ArePendingMarked (length w.standing.items) (pending_of w)

-- the first refusal below the goal of a query
abbrev pub refusal_on : NominalProgram → NominalQuery → NominalAnswer → NominalDerivation → Option Refusal
refusal_on p q a d = refusal p a (kinds_of q.locals) 1 d q.goal (open_environment q.locals (local_names 0 q.locals) a.binds)
