-- The bytes of a goal, by its form.
use Rattle.std.proofs.Common.{◌≡◌, ℕ, ◌+◌, ◌≤◌, ◌<◌, List, ◌++◌, refl, ◌∙◌, append_assoc, arith}
use Rattle.std.specs.Prelude.{codes, reverse}
use Rattle.std.proofs.lemmas.List.{append-nil, reverse-append}
use Rattle.ap_trees.specs.Terms.{Term}
use Rattle.ap_trees.specs.Goals.{Goal, Atom, Equation, Freshness, Both, Either, Some_variable, New_name}
use Rattle.ap_unparse.specs.declared.side.Side.{Side}
use Rattle.ap_unparse.specs.declared.side.Side.TheVariants.{Alone, OnLeft, BehindComma}
use Rattle.ap_unparse.specs.Written.{bytes_of}
use Rattle.ap_unparse.specs.WrittenTerms.{written_term}
use Rattle.ap_unparse.specs.WrittenGoals.{written_goal_at, arguments_of, both_opening, both_closing, either_opening, either_closing}
use Rattle.ap_unparse.proofs.ByteLemmas.{bytes_of-append}

-- What is written, what is left of a goal, and what is kept, in the order in which they will stand.
abbrev pub all_goal : List ℕ → Side → Goal → List ℕ → List ℕ
all_goal out side g closers = out ++ (bytes_of (written_goal_at side g) ++ reverse closers)

both_bytes : (side : Side) (g h : Goal)
    → bytes_of (written_goal_at side (Both g h)) ≡ both_opening side ++ (bytes_of (written_goal_at OnLeft g) ++ (codes ", " ++ (bytes_of (written_goal_at BehindComma h) ++ both_closing side)))
both_bytes Alone g h = simp (bytes_of-append, append-nil)
both_bytes OnLeft g h = simp (bytes_of-append, append_assoc)
both_bytes BehindComma g h = simp (bytes_of-append, append-nil)

either_bytes : (side : Side) (g h : Goal)
    → bytes_of (written_goal_at side (Either g h)) ≡ either_opening side ++ (bytes_of (written_goal_at OnLeft g) ++ (codes " ; " ++ (bytes_of (written_goal_at Alone h) ++ either_closing side)))
either_bytes Alone g h = simp (bytes_of-append, append-nil)
either_bytes OnLeft g h = simp (bytes_of-append, append_assoc)
either_bytes BehindComma g h = simp (bytes_of-append, append_assoc)

both_turned : (side : Side) → reverse (both_closing side) ≡ both_closing side
both_turned Alone = refl
both_turned OnLeft = refl
both_turned BehindComma = refl

either_turned : (side : Side) → reverse (either_closing side) ≡ either_closing side
either_turned Alone = refl
either_turned OnLeft = refl
either_turned BehindComma = refl

pub both_goes_on : (side : Side) (w g h : Goal) (o o1 o2 o3 k k1 : List ℕ) → w ≡ Both g h → o1 ≡ o ++ both_opening side → k1 ≡ k ++ both_closing side
    → o2 ≡ o1 ++ bytes_of (written_goal_at OnLeft g) → o3 ≡ o2 ++ codes ", " → all_goal o3 BehindComma h k1 ≡ all_goal o side w k
both_goes_on side w g h o o1 o2 o3 k k1 e a b d f =
    rw (f, d, a, b, e, both_bytes side g h, reverse-append k (both_closing side), both_turned side) (simp append_assoc)

pub either_goes_on : (side : Side) (w g h : Goal) (o o1 o2 o3 k k1 : List ℕ) → w ≡ Either g h → o1 ≡ o ++ either_opening side → k1 ≡ k ++ either_closing side
    → o2 ≡ o1 ++ bytes_of (written_goal_at OnLeft g) → o3 ≡ o2 ++ codes " ; " → all_goal o3 Alone h k1 ≡ all_goal o side w k
either_goes_on side w g h o o1 o2 o3 k k1 e a b d f =
    rw (f, d, a, b, e, either_bytes side g h, reverse-append k (either_closing side), either_turned side) (simp append_assoc)

pub some_goes_on : (side : Side) (w : Goal) (word : List ℕ) (g : Goal) (o o1 k k1 : List ℕ) → w ≡ Some_variable word g → o1 ≡ o ++ (codes "exists " ++ (word ++ codes " (")) → k1 ≡ k ++ codes ")"
    → all_goal o1 Alone g k1 ≡ all_goal o side w k
some_goes_on side w word g o o1 k k1 e a b = rw (a, b, e, reverse-append k (codes ")")) (simp (bytes_of-append, append_assoc))

pub new_goes_on : (side : Side) (w : Goal) (word : List ℕ) (g : Goal) (o o1 k k1 : List ℕ) → w ≡ New_name word g → o1 ≡ o ++ (codes "new " ++ (word ++ codes " (")) → k1 ≡ k ++ codes ")"
    → all_goal o1 Alone g k1 ≡ all_goal o side w k
new_goes_on side w word g o o1 k k1 e a b = rw (a, b, e, reverse-append k (codes ")")) (simp (bytes_of-append, append_assoc))

ends : (side : Side) (g : Goal) (o o1 o2 k all : List ℕ) → o1 ≡ o ++ bytes_of (written_goal_at side g) → o2 ≡ o1 ++ reverse k → all_goal o side g k ≡ all → o2 ≡ all
ends side g o o1 o2 k all a b h = let whole : o2 ≡ all_goal o side g k = rw (b, a) (append_assoc o (bytes_of (written_goal_at side g)) (reverse k)) in whole ∙ h

pub atom_ends : (side : Side) (w : Goal) (word : List ℕ) (ts : List Term) (o o1 o2 o3 k all : List ℕ) → w ≡ Atom word ts → o1 ≡ o ++ word → o2 ≡ o1 ++ bytes_of (arguments_of ts)
    → o3 ≡ o2 ++ reverse k → all_goal o side w k ≡ all → o3 ≡ all
atom_ends side w word ts o o1 o2 o3 k all e a b d h = ends side w o o2 o3 k all (rw (b, a, e) (append_assoc o word (bytes_of (arguments_of ts)))) d h

pub equation_ends : (side : Side) (w : Goal) (t u : Term) (o o1 o2 k all : List ℕ) → w ≡ Equation t u → o1 ≡ o ++ (bytes_of (written_term t) ++ (codes " = " ++ bytes_of (written_term u)))
    → o2 ≡ o1 ++ reverse k → all_goal o side w k ≡ all → o2 ≡ all
equation_ends side w t u o o1 o2 k all e a b h = ends side w o o1 o2 k all (rw (a, e) (simp bytes_of-append)) b h

pub freshness_ends : (side : Side) (w : Goal) (t u : Term) (o o1 o2 k all : List ℕ) → w ≡ Freshness t u → o1 ≡ o ++ (bytes_of (written_term t) ++ (codes " # " ++ bytes_of (written_term u)))
    → o2 ≡ o1 ++ reverse k → all_goal o side w k ≡ all → o2 ≡ all
freshness_ends side w t u o o1 o2 k all e a b h = ends side w o o1 o2 k all (rw (a, e) (simp bytes_of-append)) b h

abbrev pub goal_size : Goal → ℕ
goal_size (Atom w ts) = 1
goal_size (Equation t u) = 1
goal_size (Freshness t u) = 1
goal_size (Both g h) = 1 + goal_size g + goal_size h
goal_size (Either g h) = 1 + goal_size g + goal_size h
goal_size (Some_variable w g) = 1 + goal_size g
goal_size (New_name w g) = 1 + goal_size g

pub both_smaller : (w g h : Goal) (n : ℕ) → w ≡ Both g h → goal_size w ≤ n → (goal_size g < n) × (goal_size h ≤ n)
both_smaller w g h n e l = let l' : goal_size (Both g h) ≤ n = rw e at l in (omega arith, omega arith)

pub either_smaller : (w g h : Goal) (n : ℕ) → w ≡ Either g h → goal_size w ≤ n → (goal_size g < n) × (goal_size h ≤ n)
either_smaller w g h n e l = let l' : goal_size (Either g h) ≤ n = rw e at l in (omega arith, omega arith)

pub some_smaller : (w : Goal) (word : List ℕ) (g : Goal) (n : ℕ) → w ≡ Some_variable word g → goal_size w ≤ n → goal_size g ≤ n
some_smaller w word g n e l = let l' : goal_size (Some_variable word g) ≤ n = rw e at l in omega arith

pub new_smaller : (w : Goal) (word : List ℕ) (g : Goal) (n : ℕ) → w ≡ New_name word g → goal_size w ≤ n → goal_size g ≤ n
new_smaller w word g n e l = let l' : goal_size (New_name word g) ≤ n = rw e at l in omega arith
