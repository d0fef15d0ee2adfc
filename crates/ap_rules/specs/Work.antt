-- What unification has yet to do, without where it lies in memory.
use Rattle.std.specs.Prelude.{◌≡◌, ◌<◌, ℕ, Bool, true, false, List, [], ◌∷◌, ◌++◌, Option, Some, None, map, reverse}
use Rattle.ap_defs.specs.Freshness.{Conds, has_cond}
use Rattle.ap_defs.specs.Renaming.{IsBelow}
use Rattle.ap_defs.specs.Substitution.{Binding, Equation, Problem, occurs, under, ◌#◌, ◌≐◌}
use Rattle.ap_defs.specs.Terms.{NominalTerm, unit, name, pair, app, abs, susp}
use Rattle.ap_defs.specs.Unification.{Ending, Progress, Rule, Stage, bind, clash, failed, fresh_for, next, problem_of, replace, solved, unsolvable}
use Rattle.ap_defs.specs.declared.terms.Cond.{Cond}
use Rattle.ap_perm.specs.Closures.{closure_term}
use Rattle.ap_perm.specs.declared.closures.Opened.{Opened}
use Rattle.ap_perm.specs.declared.closures.Opened.TheVariants as parts
use Rattle.ap_store.specs.Marks.{HasNoVars}
use Rattle.ap_store.specs.Triples.{Triple}
use Rattle.ap_theory.specs.Variables.{IsUnbound}
use Rattle.ap_rules.specs.Runs.{stage_under}
use Rattle.ap_rules.specs.declared.moves.Move.{Move}
use Rattle.ap_rules.specs.declared.moves.Move.TheVariants as moves
use Rattle.ap_rules.specs.declared.pairs.ClosurePair.{ClosurePair}
use Rattle.ap_rules.specs.declared.pairs.FreshFor.{FreshFor}
use Rattle.ap_rules.specs.declared.pairs.FreshFor.TheVariants as freshness
use Rattle.ap_rules.specs.declared.pairs.Work.{Work}

abbrev pub pair_equation : ClosurePair → Equation
pair_equation p = closure_term p.left ≐ closure_term p.right

abbrev pub problem_for : FreshFor → Problem
problem_for (freshness.OfTerm a c) = a # closure_term c
problem_for (freshness.OfVar c) = problem_of c

-- the equations that are left, the first one last
abbrev pub equations_left : Work → List Equation
equations_left w = map pair_equation (reverse w.equations.items)

abbrev pub problems_met : Work → List Problem
problems_met w = map problem_for w.problems.items

-- nothing is left, nothing was met and nothing taken
abbrev pub HasNothingToDo : Work → Type 0
HasNothingToDo w = (w.equations.items ≡ []) × (w.problems.items ≡ []) × (w.taken.items ≡ [])

-- the stage of the run, under the bindings
abbrev pub work_stage : List Binding → Work → Stage
work_stage s w = stage_under s (equations_left w) (problems_met w)

-- the head of a closure, whose variable is unbound, and its parts under the bindings
abbrev pub opened_under : List Binding → Opened → NominalTerm
opened_under s parts.Unit = unit
opened_under s (parts.Name a) = name a
opened_under s (parts.Pair c d) = pair (under s (closure_term c)) (under s (closure_term d))
opened_under s (parts.App f c) = app f (under s (closure_term c))
opened_under s (parts.Abs a c) = abs a (under s (closure_term c))
opened_under s (parts.Susp p x) = susp p.items x

abbrev pub pair_under : List Binding → ClosurePair → Equation
pair_under s p = under s (closure_term p.left) ≐ under s (closure_term p.right)

-- what a move makes of the first equation
abbrev pub move_under : List Binding → Move → Rule
move_under s moves.Done = replace [] []
move_under s (moves.One e) = replace (pair_under s e ∷ []) []
move_under s (moves.Two e f) = replace (pair_under s e ∷ pair_under s f ∷ []) []
move_under s (moves.Swapped e a c) = replace (pair_under s e ∷ []) ((a # under s (closure_term c)) ∷ [])
move_under s (moves.Differ as' x) = replace [] (map (fresh_for x) as'.items)
move_under s (moves.Bind x c g) = bind x (under s (closure_term c))
move_under s moves.Clash = clash

-- the move is what the rule says, under the bindings
abbrev pub IsMoveOf : List Binding → Rule → Move → Type 0
IsMoveOf s r m = move_under s m ≡ r

abbrev pub IsPairBelow : ℕ → ClosurePair → Type 0
IsPairBelow n p = IsBelow n (closure_term p.left) × IsBelow n (closure_term p.right)

abbrev pub ArePairsBelow : ℕ → List ClosurePair → Type 0
ArePairsBelow n [] = Unit {0}
ArePairsBelow n (p ∷ ps) = IsPairBelow n p × ArePairsBelow n ps

-- what a move brings is below n, what it binds is unbound, and what it marks has no variables
abbrev pub IsMoveFit : List Binding → ℕ → Move → Type 0
IsMoveFit s n (moves.One e) = IsPairBelow n e
IsMoveFit s n (moves.Two e f) = IsPairBelow n e × IsPairBelow n f
IsMoveFit s n (moves.Swapped e a c) = IsPairBelow n e
IsMoveFit s n (moves.Differ as' x) = IsUnbound s x
IsMoveFit s n (moves.Bind x c g) =
    (x.num < n) × IsUnbound s x × IsBelow n (closure_term c) × (occurs x (under s (closure_term c)) ≡ false) × (g ≡ true → HasNoVars (under s (closure_term c)))
IsMoveFit s n _ = Unit {0}

-- the next stage, if there is one
abbrev pub progress_if : Bool → Stage → Progress
progress_if false s = failed
progress_if true s = next s

-- how a run ends
abbrev pub ending_if : Bool → Stage → Ending
ending_if false s = unsolvable
ending_if true s = solved s

-- each condition is among those that are kept or those that were taken
abbrev pub AreKept : Conds → Conds → List Cond → Type 0
AreKept ds kept taken = (c : Cond) → has_cond c ds ≡ has_cond c (kept ++ taken)

-- the second triple and work go on with the first ones; where no variable is left, none comes, and what stands for one term does so on
pub record GoOn (a : Triple) (w : Work) (b : Triple) (v : Work) : Type 0 where
  pub next : b.next ≡ a.next
  pub pairs : ArePairsBelow a.next w.equations.items → ArePairsBelow a.next v.equations.items
  pub conditions : (ds : Conds) → AreKept ds a.conditions w.taken.items → AreKept ds b.conditions v.taken.items
  pub no_vars : (t : NominalTerm) → HasNoVars (under a.bindings t) → HasNoVars (under b.bindings t)
  pub same : (t u : NominalTerm) → under a.bindings t ≡ under a.bindings u → under b.bindings t ≡ under b.bindings u
