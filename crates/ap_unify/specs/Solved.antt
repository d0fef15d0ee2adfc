-- Equations of two suspensions that are solved, or are being solved.
use Rattle.std.specs.Prelude.{◌≡◌, ℕ, suc, false, List, [], ◌∷◌, ◌++◌, length, take, drop, unwrap_or}
use Rattle.std.specs.BTreeMap.{get}
use Rattle.std.specs.Ordering.{is_eq}
use Rattle.ap_defs.specs.Substitution.{Equation, ◌≐◌}
use Rattle.ap_defs.specs.Terms.{act_term, susp}
use Rattle.ap_defs.specs.Unification.{Progress, Stage, done, failed, next}
use Rattle.ap_perm.specs.Images.{key_cmp}
use Rattle.ap_unify.specs.Needless.{Awaits, Follows}
use Rattle.ap_unify.specs.declared.solved.Awaited.{Awaited}
use Rattle.ap_unify.specs.declared.solved.Solved.{Solved}
use Rattle.ap_unify.specs.declared.solved.Suspensions.{Suspensions}

-- whatever solves the problems of the stage makes both sides equal
abbrev pub IsSolvedIn : Stage → Equation → Type 0
IsSolvedIn r (t ≐ u) = Follows r.bindings r.problems t u

-- and where it solves the equations before the last so many
abbrev pub IsSolvedBefore : Stage → ℕ → Equation → Type 0
IsSolvedBefore r j (t ≐ u) = Awaits r j t u

-- of the first variable and the second one, on which the swappings wait
abbrev pub suspensions_equation : Suspensions → Equation
suspensions_equation e = susp [] e.x ≐ act_term e.swaps.items (susp [] e.y)

abbrev pub AllKnown : Stage → List Suspensions → Type 0
AllKnown r [] = Unit {0}
AllKnown r (e ∷ es) = IsSolvedIn r (suspensions_equation e) × AllKnown r es

-- the numbers of their variables
abbrev pub variables_of : Suspensions → ℕ × ℕ
variables_of e = (e.x.num, e.y.num)

-- where suspensions of two variables stand, or the next place where none do
abbrev pub place_for : Solved → ℕ × ℕ → ℕ
place_for k xs = unwrap_or (get key_cmp k.places xs) (length k.known.items)

-- with suspensions in place of those at a place, or behind the others
abbrev pub put_there : List Suspensions → ℕ → Suspensions → List Suspensions
put_there es i e = take i es ++ e ∷ drop (suc i) es

-- suspensions of other variables are found where they were
abbrev pub FindsOthers : ℕ × ℕ → Solved → Solved → Type 0
FindsOthers xs k m = (ys : ℕ × ℕ) → is_eq (key_cmp xs ys) ≡ false
    → get key_cmp m.places ys ≡ get key_cmp k.places ys

abbrev pub IsAwaited : Stage → Awaited → Type 0
IsAwaited r a = IsSolvedBefore r a.behind (suspensions_equation a.pair)

abbrev pub AllAwaited : Stage → List Awaited → Type 0
AllAwaited r [] = Unit {0}
AllAwaited r (a ∷ as') = IsAwaited r a × AllAwaited r as'

abbrev pub AreSolved : Stage → Solved → Type 0
AreSolved r k = AllKnown r k.known.items × AllAwaited r k.awaited.items

-- in the next stage, if there is one
abbrev pub AreSolvedAfter : Progress → Solved → Type 0
AreSolvedAfter (next r) k = AreSolved r k
AreSolvedAfter done k = Unit {0}
AreSolvedAfter failed k = Unit {0}
