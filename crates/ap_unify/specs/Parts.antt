-- Parts of terms on which no swappings wait, and how a run goes on with them.
use Rattle.std.specs.Prelude.{◌≡◌, ◌<◌, ◌⊎◌, ℕ, zero, suc, true, List, [], ◌∷◌, ◌++◌, Option, Some, None, map}
use Rattle.ap_defs.specs.Renaming.{IsBelow}
use Rattle.ap_defs.specs.Substitution.{Binding, Equation, Problem, under, ◌≐◌}
use Rattle.ap_defs.specs.Terms.{NominalTerm, susp}
use Rattle.ap_defs.specs.Unification.{Progress, Rule, Stage, apply_rule, failed, next, reduce_all, rule}
use Rattle.ap_defs.specs.declared.terms.Var.{Var}
use Rattle.ap_perm.specs.Lookups.{depth_of}
use Rattle.ap_store.specs.Triples.{Triple}
use Rattle.ap_theory.specs.StatementsOnConditions.{collected}
use Rattle.ap_theory.specs.Variables.{IsUnbound}
use Rattle.ap_rules.specs.Runs.{equation_under, problem_under, stage_under}
use Rattle.ap_store.specs.Heads.{HasForm}
use Rattle.ap_store.specs.Marks.{HasNoVars}
use Rattle.ap_rules.specs.Work.{equations_left, problems_met, progress_if, work_stage}
use Rattle.ap_equations.specs.Plain.{plain_term}
use Rattle.ap_equations.specs.declared.plain.Plain.{Plain}
use Rattle.ap_unify.specs.Needless.{GoesTo}
use Rattle.ap_unify.specs.declared.heads.Head.{Head}
use Rattle.ap_unify.specs.declared.heads.Head.TheVariants as heads
use Rattle.ap_unify.specs.declared.heads.Look.{Look}
use Rattle.ap_unify.specs.declared.heads.Look.TheVariants as looks
use Rattle.ap_rules.specs.declared.pairs.Work.{Work}
use Rattle.ap_unify.specs.declared.parts.Ahead.{Ahead}
use Rattle.ap_unify.specs.declared.parts.Turn.{Turn}
use Rattle.ap_unify.specs.declared.parts.Turn.TheVariants as turns
use Rattle.ap_equations.specs.declared.plain.PlainPair.{PlainPair}
use Rattle.ap_unify.specs.declared.fronts.Front.{Front}
use Rattle.ap_unify.specs.declared.fronts.Way.{Way}
use Rattle.ap_unify.specs.declared.fronts.Way.TheVariants as ways

-- the second term stands for the first one, by one binding that is followed
abbrev pub IsFurther : Triple → (Var → ℕ) → NominalTerm → NominalTerm → Type 0
IsFurther a rank t u =
    (under a.bindings u ≡ under a.bindings t) × (IsBelow a.next t → IsBelow a.next u) × (depth_of rank u < depth_of rank t)

-- a variable stands at the head of the term
abbrev pub HasVariable : NominalTerm → Type 0
HasVariable (susp p x) = Unit {0}
HasVariable _ = ⊥

-- what is known to be ground stands for a term without variables
abbrev pub IsMarkTrue : List Binding → Plain → Type 0
IsMarkTrue s p = p.is_ground ≡ true → HasNoVars (under s (plain_term p))

abbrev pub IsHead : List Binding → NominalTerm → Head → Type 0
IsHead s t heads.Form = HasForm t
IsHead s t (heads.Free x) = (t ≡ susp [] x) × IsUnbound s x
IsHead s t heads.Other = HasVariable t

-- what one look finds at the head of a part
abbrev pub IsLook : Triple → (Var → ℕ) → Plain → Look → Type 0
IsLook a rank p looks.Form = HasForm (plain_term p)
IsLook a rank p (looks.Free x) = (plain_term p ≡ susp [] x) × IsUnbound a.bindings x
IsLook a rank p looks.Other = HasVariable (plain_term p)
IsLook a rank p (looks.Further q) = IsFurther a rank (plain_term p) (plain_term q) × (IsMarkTrue a.bindings p → IsMarkTrue a.bindings q)

abbrev pub parts_equation : PlainPair → Equation
parts_equation p = plain_term p.left ≐ plain_term p.right

-- the equation for which two parts stand: their own, or with swappings that wait on either side
abbrev pub PairReading : Type 0
PairReading = PlainPair → Equation

-- the rule for an equation under the bindings
abbrev pub rule_under : List Binding → Equation → Rule
rule_under s (t ≐ u) = rule (under s t) (under s u)

abbrev pub IsEquationBelow : ℕ → Equation → Type 0
IsEquationBelow n (t ≐ u) = IsBelow n t × IsBelow n u

abbrev pub rule_of : PairReading → List Binding → PlainPair → Rule
rule_of q s p = rule_under s (q p)

abbrev pub AreBelowBoth : PairReading → ℕ → PlainPair → Type 0
AreBelowBoth q n p = IsEquationBelow n (q p)

-- the stage of a run with an equation of two parts in front of those that are left
abbrev pub stage_with : PairReading → List Binding → PlainPair → Work → Stage
stage_with q s p w = stage_under s (q p ∷ equations_left w) (problems_met w)

-- how the equations behind come after a turn and what it puts ahead; it may leave it to another way
abbrev pub progress_of : PairReading → Turn → Ahead → List Binding → List Equation → List Problem → Progress
progress_of q turns.Clash f s es ps = failed
progress_of q turns.Done f s es ps = next (stage_under s es ps)
progress_of q turns.On f s es ps = next (stage_under s (q f.next ∷ es) ps)
progress_of q turns.Both f s es ps = next (stage_under s (q f.next ∷ q f.later ∷ es) ps)
progress_of q turns.Other f s es ps = failed

-- the turn is what a rule makes of whatever is behind; or no step was made, and the same rule is still to come
abbrev pub IsRuleFor : PairReading → Turn → Ahead → List Binding → List Binding → Rule → Type 0
IsRuleFor q turns.Other f s r x = (r ≡ s) × (rule_of q s f.next ≡ x)
IsRuleFor q turn f s r x =
    (es : List Equation) (ps : List Problem) → progress_of q turn f r es ps ≡ apply_rule x (map (equation_under s) es) (map (problem_under s) ps) s

abbrev pub AreMarksTrue : List Binding → PlainPair → Type 0
AreMarksTrue s p = IsMarkTrue s p.left × IsMarkTrue s p.right

-- a turn puts nothing ahead
abbrev pub PutsNothing : Turn → Type 0
PutsNothing turns.Clash = Unit {0}
PutsNothing turns.Done = Unit {0}
PutsNothing _ = ⊥

abbrev pub IsTurnBelow : PairReading → ℕ → Turn → Ahead → Type 0
IsTurnBelow q n turns.On f = AreBelowBoth q n f.next
IsTurnBelow q n turns.Both f = AreBelowBoth q n f.next × AreBelowBoth q n f.later
IsTurnBelow q n turns.Other f = AreBelowBoth q n f.next
IsTurnBelow q n _ f = Unit {0}

abbrev pub AreTurnMarksTrue : List Binding → Turn → Ahead → Type 0
AreTurnMarksTrue s turns.On f = AreMarksTrue s f.next
AreTurnMarksTrue s turns.Both f = AreMarksTrue s f.next × AreMarksTrue s f.later
AreTurnMarksTrue s turns.Other f = AreMarksTrue s f.next
AreTurnMarksTrue s _ f = Unit {0}

-- an equation that waits in front of those that are left, if there is one
abbrev pub waiting_equations : PairReading → Option PlainPair → List Equation
waiting_equations q None = []
waiting_equations q (Some p) = q p ∷ []

abbrev pub IsWaitingBelow : PairReading → ℕ → Option PlainPair → Type 0
IsWaitingBelow q n None = Unit {0}
IsWaitingBelow q n (Some p) = AreBelowBoth q n p

abbrev pub AreWaitingMarksTrue : List Binding → Option PlainPair → Type 0
AreWaitingMarksTrue s None = Unit {0}
AreWaitingMarksTrue s (Some p) = AreMarksTrue s p

-- the stage with an equation of two parts in front, and then one that waits
abbrev pub stage_of : PairReading → List Binding → PlainPair → Option PlainPair → Work → Stage
stage_of q s p o w = stage_under s (q p ∷ (waiting_equations q o ++ equations_left w)) (problems_met w)

abbrev pub progress_to : PairReading → Way → List Binding → Front → Work → Progress
progress_to q (ways.End b) s f w = progress_if b (work_stage s w)
progress_to q ways.On s f w = next (stage_of q s f.ahead.next f.waiting w)

abbrev pub IsWayBelow : PairReading → ℕ → Way → Front → Type 0
IsWayBelow q n (ways.End b) f = Unit {0}
IsWayBelow q n ways.On f = AreBelowBoth q n f.ahead.next × IsWaitingBelow q n f.waiting

abbrev pub AreWayMarksTrue : List Binding → Way → Front → Type 0
AreWayMarksTrue s (ways.End b) f = Unit {0}
AreWayMarksTrue s ways.On f = AreMarksTrue s f.ahead.next × AreWaitingMarksTrue s f.waiting

-- the stage goes on so by n more steps after the first one, where needless equations may be left out
abbrev pub IsReached : ℕ → Stage → Progress → Type 0
IsReached zero s p = GoesTo s p
IsReached (suc n) s p = (r : Stage) × GoesTo s (next r) × IsReached n r p

abbrev pub with_problems : List Problem → Stage → Stage
with_problems ps s = record { equations = s.equations; problems = ps; bindings = s.bindings }

-- the same, but for problems that reduce to the same conditions
abbrev pub ReducesAlike : Progress → Progress → Type 0
ReducesAlike p (next s) = (ps : List Problem) × (p ≡ next (with_problems ps s)) × (collected (reduce_all [] ps) ≡ collected (reduce_all [] s.problems))
ReducesAlike p q = p ≡ q

-- by one step or several, where problems may be kept as others that reduce to the same
abbrev pub LeadsTo : Stage → Progress → Type 0
LeadsTo s p = (n : ℕ) × (q : Progress) × IsReached n s q × ReducesAlike q p

-- by no step, or by one or several
abbrev pub Reaches : Stage → Progress → Type 0
Reaches s p = (next s ≡ p) ⊎ LeadsTo s p
