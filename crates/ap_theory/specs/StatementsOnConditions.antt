-- What is proved of sets of conditions, and of reducing freshness problems to them.
use Rattle.std.specs.Prelude.{◌≡◌, Bool, false, ◌&&◌, ◌||◌, not, List, [], map, Option, Some, None, ◌↔◌, is_none}
use Rattle.ap_defs.specs.Freshness.{Conds, add_conds, both, has_cond, reduce}
use Rattle.ap_defs.specs.Permutations.{act_name, inverse, name_eq}
use Rattle.ap_defs.specs.Substitution.{Binding, Problem, under}
use Rattle.ap_defs.specs.Terms.{NominalTerm, abs, act_term, app, name, pair, susp, unit}
use Rattle.ap_defs.specs.Unification.{problem_of, reduce_all}
use Rattle.ap_defs.specs.declared.terms.Cond.{Cond}
use Rattle.ap_defs.specs.declared.terms.Name.{Name}
use Rattle.ap_defs.specs.declared.terms.Swap.{Swap}
use Rattle.ap_theory.specs.Contexts.{Context, Fresh}
use Rattle.ap_theory.specs.Substitutions.{MeetsSome, Substitution, applied, variables}

abbrev pub AddedConditionsAreIn : Type 0
AddedConditionsAreIn = (c : Cond) (cs : List Cond) (ds : Conds) → has_cond c (add_conds cs ds) ≡ (has_cond c cs || has_cond c ds)

-- in whatever order, and however often, conditions are collected, the set is the same
abbrev pub ConditionsAreASet : Type 0
ConditionsAreASet = (cs ds : List Cond) → ((c : Cond) → has_cond c cs ≡ has_cond c ds) → add_conds cs [] ≡ add_conds ds []

-- a name is fresh for what a substitution makes of a term just where the conditions are met to which this reduces
abbrev pub ReductionIsLeast : Context → Type 0
ReductionIsLeast d = (s : Substitution) (a : Name) (t : NominalTerm) → Fresh d a (applied s t) ↔ MeetsSome d s (reduce a t)

-- a name is fresh for a term under just those sets of conditions that have each condition to which this reduces
abbrev pub ReductionIsLeastOfAll : Context → Type 0
ReductionIsLeastOfAll d = (a : Name) (t : NominalTerm) → Fresh d a t ↔ MeetsSome d variables (reduce a t)

-- the name stands in the term, and is bound nowhere around
abbrev pub is_free : Name → NominalTerm → Bool
is_free a unit = false
is_free a (name b) = name_eq a b
is_free a (pair t u) = is_free a t || is_free a u
is_free a (app f t) = is_free a t
is_free a (abs b t) = not (name_eq a b) && is_free a t
is_free a (susp p x) = false

-- a problem is refuted just where the name is free in the term
abbrev pub RefutedWhereFree : Type 0
RefutedWhereFree = (a : Name) (t : NominalTerm) → is_none (reduce a t) ≡ is_free a t

abbrev pub ReductionMovesAcross : Type 0
ReductionMovesAcross = (p : List Swap) (a : Name) (t : NominalTerm) → reduce a (act_term p t) ≡ reduce (act_name (inverse p) a) t

-- the conditions of a problem, reduced again under bindings
abbrev pub reduce_again : List Binding → Option (List Cond) → Option (List Cond)
reduce_again bs None = None
reduce_again bs (Some cs) = reduce_all bs (map problem_of cs)

-- it doesn't matter whether a problem is reduced before or after the bindings are carried out
abbrev pub ReductionCommutesWithBindings : Type 0
ReductionCommutesWithBindings = (bs : List Binding) (a : Name) (t : NominalTerm) → reduce a (under bs t) ≡ reduce_again bs (reduce a t)

-- the set of the conditions, where there are some
abbrev pub collected : Option (List Cond) → Option Conds
collected None = None
collected (Some cs) = Some (add_conds cs [])

abbrev pub joined_conditions : Option Conds → Option Conds → Option Conds
joined_conditions None p = None
joined_conditions (Some cs) None = None
joined_conditions (Some cs) (Some ds) = Some (add_conds cs ds)

-- Problems may be reduced as soon as they arise, and only the set of conditions kept: once bindings are added, what that set
-- reduces to is what the problems reduce to. So a problem that is refuted early stays refuted.
abbrev pub EarlyReductionSuffices : Type 0
EarlyReductionSuffices = (bs cs : List Binding) → ((t : NominalTerm) → under cs (under bs t) ≡ under cs t) → (ps : List Problem)
    → collected (reduce_all cs ps) ≡ collected (reduce_again cs (collected (reduce_all bs ps)))

abbrev pub CollectingInParts : Type 0
CollectingInParts = (o p : Option (List Cond)) → collected (both o p) ≡ joined_conditions (collected o) (collected p)
