-- Choices of which some ways are still to be tried.
use Rattle.std.specs.Prelude.{◌<◌, ◌^◌, ℕ, suc, List, [], ◌∷◌, ◌++◌, drop, length, map}
use Rattle.ap_defs.specs.Goals.{clause_of, goal_of}
use Rattle.ap_defs.specs.Renaming.{AreBelow, IsGoalBelow, rename_goal, rename_term}
use Rattle.ap_defs.specs.Terms.{term_of}
use Rattle.ap_search.specs.FitStates.{AreFitClauses}
use Rattle.ap_machine.specs.Below.{AreWaitingBelow}
use Rattle.ap_machine.specs.Positions.{Position, positions_by_clauses, with_choice, with_goal}
use Rattle.ap_machine.specs.Tracks.{IsSaveWithin, Track, back_to, next_in, position_at}
use Rattle.ap_backchain.specs.declared.points.ChoicePoint.{ChoicePoint}
use Rattle.ap_backchain.specs.declared.points.Rest.{Rest}
use Rattle.ap_backchain.specs.declared.points.Rest.TheVariants as rests

-- from where the search goes on by the ways that are left: the right side of a disjunction, or clauses
abbrev pub positions_left : Rest → Position → List Position
positions_left (rests.Right f) p = with_goal f.depth (rename_goal f.base (goal_of f.goal.now)) (with_choice 2 p) ∷ []
positions_left (rests.Clauses r) p =
    positions_by_clauses r.depth (map (rename_term r.base) (map term_of r.args.now)) p (suc r.tried) (map clause_of (drop r.tried r.clauses.now))

-- from where the search goes on by the ways that choices have left, the last choice first, once it has gone back to each
abbrev pub positions_pending : Track → List ChoicePoint → List Position
positions_pending t [] = []
positions_pending t (p ∷ ps) = positions_left p.rest (position_at (back_to p.save t) p.save.first) ++ positions_pending (back_to p.save t) ps

abbrev pub IsFitRest : ℕ → Rest → Type 0
IsFitRest n (rests.Right f) = IsGoalBelow n (rename_goal f.base (goal_of f.goal.now))
IsFitRest n (rests.Clauses r) =
    AreBelow n (map (rename_term r.base) (map term_of r.args.now)) × AreFitClauses (map clause_of r.clauses.now) × (length r.clauses.now < 2 ^ 32)

pub record IsPoint (t : Track) (p : ChoicePoint) : Type 0 where
  pub within : IsSaveWithin p.save t
  pub waiting : AreWaitingBelow (next_in (back_to p.save t)) (position_at (back_to p.save t) p.save.first).waiting
  pub rest : IsFitRest (next_in (back_to p.save t)) p.rest

-- the search can go back to each of the choices, the last one first
abbrev pub ArePoints : Track → List ChoicePoint → Type 0
ArePoints t [] = Unit {0}
ArePoints t (p ∷ ps) = IsPoint t p × ArePoints (back_to p.save t) ps
