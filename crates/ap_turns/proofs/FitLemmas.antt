-- Goals and clauses whose numbers fit.
use Rattle.std.proofs.Common.{◌≡◌, ℕ, ◌+◌, ◌≤◌, List, [], ◌∷◌, length, map, refl, sym, ap, ap₂, ◌∙◌, arith}
use Rattle.std.proofs.lemmas.List.{length-map}
use Rattle.ap_defs.specs.declared.goals.Kind.{Kind}
use Rattle.ap_defs.specs.declared.goals.Local.{Local}
use Rattle.ap_defs.specs.declared.terms.Name.{Name}
use Rattle.ap_defs.specs.declared.terms.Swap.{Swap}
use Rattle.ap_defs.specs.declared.terms.Var.{Var}
use Rattle.ap_defs.specs.Goals.{NominalGoal, succeed, atom, equal, fresh, both, either, exists, new}
use Rattle.ap_defs.specs.Renaming.{rename_goal, rename_name, rename_swap, rename_term, rename_var}
use Rattle.ap_defs.specs.Resolution.{kinds_of}
use Rattle.ap_defs.specs.Terms.{NominalTerm, unit, name, pair, app, abs, susp}
use Rattle.ap_defs.specs.Types.{NominalLocal, kind_of, locals_of}
use Rattle.ap_program.proofs.RenamingLemmas.{goal_below_more}
use Rattle.ap_search.specs.Continuations.{Waiting}
use Rattle.ap_machine.specs.Below.{AreWaitingBelow}

pub waiting_more : (m n : ℕ) → n ≤ m → (ws : List Waiting) → AreWaitingBelow n ws → AreWaitingBelow m ws
waiting_more m n l [] h = tt
waiting_more m n l (w ∷ ws) h = (goal_below_more m n l w.goal h.0, waiting_more m n l ws h.1)

-- Renaming by 0.
name_zero : (a : Name) → rename_name 0 a ≡ a
name_zero a = let e : 0 + a.num ≡ a.num = omega arith in ap (λ n. record a { num = n }) e

var_zero : (x : Var) → rename_var 0 x ≡ x
var_zero x = let e : 0 + x.num ≡ x.num = omega arith in ap (λ n. record x { num = n }) e

swap_zero : (s : Swap) → rename_swap 0 s ≡ s
swap_zero s =
    let e : 0 + s.left ≡ s.left = omega arith in let f : 0 + s.right ≡ s.right = omega arith in
    ap (λ n. record s { left = n; right = 0 + s.right }) e ∙ ap (λ n. record s { right = n }) f

swaps_zero : (p : List Swap) → map (rename_swap 0) p ≡ p
swaps_zero [] = refl
swaps_zero (s ∷ p) = ap₂ (λ x y. x ∷ y) (swap_zero s) (swaps_zero p)

term_zero : (t : NominalTerm) → rename_term 0 t ≡ t
term_zero unit = refl
term_zero (name a) = ap name (name_zero a)
term_zero (pair t u) = ap₂ pair (term_zero t) (term_zero u)
term_zero (app f t) = ap (app f) (term_zero t)
term_zero (abs a t) = ap₂ abs (name_zero a) (term_zero t)
term_zero (susp p x) = ap₂ susp (swaps_zero p) (var_zero x)

terms_zero : (ts : List NominalTerm) → map (rename_term 0) ts ≡ ts
terms_zero [] = refl
terms_zero (t ∷ ts) = ap₂ (λ x y. x ∷ y) (term_zero t) (terms_zero ts)

pub goal_zero : (g : NominalGoal) → rename_goal 0 g ≡ g
goal_zero succeed = refl
goal_zero (atom p ts) = ap (atom p) (terms_zero ts)
goal_zero (equal t u) = ap₂ equal (term_zero t) (term_zero u)
goal_zero (fresh t u) = ap₂ fresh (term_zero t) (term_zero u)
goal_zero (both g h) = ap₂ both (goal_zero g) (goal_zero h)
goal_zero (either g h) = ap₂ either (goal_zero g) (goal_zero h)
goal_zero (exists x g) = ap₂ exists (var_zero x) (goal_zero g)
goal_zero (new a g) = ap₂ new (name_zero a) (goal_zero g)

-- Lengths.
pub kinds_length : (xs ys : List Kind) → map kind_of xs ≡ map kind_of ys → length xs ≡ length ys
kinds_length xs ys e = sym (length-map xs kind_of) ∙ ap length e ∙ length-map ys kind_of

pub locals_length : (xs : List Kind) (ls : List Local) → map kind_of xs ≡ kinds_of (locals_of ls) → length xs ≡ length ls
locals_length xs ls e = sym (length-map xs kind_of) ∙ ap length e ∙ length-map (locals_of ls) (λ l. l.kind) ∙ length-map ls _

pub kinds_count : (xs : List Kind) (ls : List NominalLocal) → map kind_of xs ≡ kinds_of ls → length xs ≡ length ls
kinds_count xs ls e = sym (length-map xs kind_of) ∙ ap length e ∙ length-map ls (λ l. l.kind)
