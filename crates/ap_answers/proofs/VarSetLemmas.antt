-- Variables whose numbers follow one another.
use Rattle.std.proofs.Common.{◌≡◌, ℕ, zero, suc, ◌+◌, ◌-◌, ◌<◌, ◌≤◌, Bool, true, false, List, [], ◌∷◌, ◌++◌, length, nat_lt, cond, refl, sym, ap, ◌∙◌, arith}
use Rattle.std.specs.Prelude.{None, Some, is_some, position}
use Rattle.std.specs.List.{position_or_len}
use Rattle.std.proofs.lemmas.List.{append-nil}
use Rattle.std.proofs.lemmas.Bool.Decides.{nat_tests}
use Rattle.ap_defs.specs.declared.terms.Var.{Var}
use Rattle.ap_defs.specs.Freshness.{var_eq}
use Rattle.ap_defs.specs.Unification.{has_var}
use Rattle.ap_theory.proofs.BooleanLemmas.{or_if_right}
use Rattle.ap_answers.specs.declared.var_sets.Run.{Run}
use Rattle.ap_answers.specs.Occurring.{more_vars}
use Rattle.ap_answers.specs.VarSets.{vars_from, vars_of_run}

abbrev numbered : ℕ → Var
numbered n = record { num = n }

eq_yes : (x : Var) (n : ℕ) → x.num ≡ n → var_eq x (record { num = n }) ≡ true
eq_yes x n e = grind (arith, nat_tests, e)

eq_below : (x : Var) (n : ℕ) → x.num < n → var_eq x (record { num = n }) ≡ false
eq_below x n l = grind (arith, nat_tests, l)

eq_above : (x : Var) (n : ℕ) → n < x.num → var_eq x (record { num = n }) ≡ false
eq_above x n l = grind (arith, nat_tests, l)

pub length_from : (first n : ℕ) → length (vars_from first n) ≡ n
length_from first zero = refl
length_from first (suc n) = ap suc (length_from (suc first) n)

-- where a variable first stands
below : (first n : ℕ) (x : Var) → x.num < first → position_or_len (var_eq x) (vars_from first n) ≡ n
below first zero x l = refl
below first (suc n) x l = rw (eq_below x first l, below (suc first) n x (omega (arith, l))) (omega arith)

past : (first n : ℕ) (x : Var) → first + n ≤ x.num → position_or_len (var_eq x) (vars_from first n) ≡ n
past first zero x l = refl
past first (suc n) x l = rw (eq_above x first (omega (arith, l)), past (suc first) n x (omega (arith, l))) (omega arith)

inside : (first n k : ℕ) (x : Var) → x.num ≡ first + k → k < n → position_or_len (var_eq x) (vars_from first n) ≡ k
inside first zero k x e l = absurd (omega arith)
inside first (suc n) zero x e l = rw (eq_yes x first (omega (arith, e))) refl
inside first (suc n) (suc k) x e l =
    rw (eq_above x first (omega (arith, e)), inside (suc first) n k x (omega (arith, e)) (omega (arith, l))) (omega arith)

nowhere : (first n : ℕ) (x : Var) → position_or_len (var_eq x) (vars_from first n) ≡ n → position (var_eq x) (vars_from first n) ≡ None
nowhere first n x e =
    let no : nat_lt n n ≡ false = grind (arith, nat_tests) in rw (e, length_from first n, no) refl

somewhere : (first n k : ℕ) (x : Var) → k < n → position_or_len (var_eq x) (vars_from first n) ≡ k → position (var_eq x) (vars_from first n) ≡ Some k
somewhere first n k x l e =
    let yes : nat_lt k n ≡ true = grind (arith, nat_tests, l) in rw (e, length_from first n, yes) refl

pub place_below : (r : Run) (x : Var) → x.num < r.first → position (var_eq x) (vars_of_run r) ≡ None
place_below r x l = nowhere r.first (r.end - r.first) x (below r.first (r.end - r.first) x l)

pub place_past : (r : Run) (x : Var) → r.first ≤ x.num → r.end ≤ x.num → position (var_eq x) (vars_of_run r) ≡ None
place_past r x l h = nowhere r.first (r.end - r.first) x (past r.first (r.end - r.first) x (omega (arith, l, h)))

pub place_there : (r : Run) (x : Var) → r.first ≤ x.num → x.num < r.end → position (var_eq x) (vars_of_run r) ≡ Some (x.num - r.first)
place_there r x l h =
    somewhere r.first (r.end - r.first) (x.num - r.first) x (omega (arith, l, h))
    (inside r.first (r.end - r.first) (x.num - r.first) x (omega (arith, l)) (omega (arith, l, h)))

-- which variables are there
has_not : (first n : ℕ) (x : Var) → first + n ≤ x.num → has_var x (vars_from first n) ≡ false
has_not first zero x l = refl
has_not first (suc n) x l = rw (eq_above x first (omega (arith, l)), has_not (suc first) n x (omega (arith, l))) refl

has_inside : (first n k : ℕ) (x : Var) → x.num ≡ first + k → k < n → has_var x (vars_from first n) ≡ true
has_inside first zero k x e l = absurd (omega arith)
has_inside first (suc n) zero x e l = rw (eq_yes x first (omega (arith, e))) refl
has_inside first (suc n) (suc k) x e l =
    or_if_right (var_eq x (record { num = first })) (has_var x (vars_from (suc first) n)) (has_inside (suc first) n k x (omega (arith, e)) (omega (arith, l)))

is_numbered : (x : Var) (n : ℕ) → x.num ≡ n → x ≡ numbered n
is_numbered x n e = ap numbered e

-- one more behind the last
pub from_end : (first n : ℕ) (x : Var) → x.num ≡ first + n → vars_from first n ++ x ∷ [] ≡ vars_from first (suc n)
from_end first zero x e = ap (λ (y : Var). y ∷ []) (is_numbered x first (omega (arith, e)))
from_end first (suc n) x e = ap (λ (ys : List Var). numbered first ∷ ys) (from_end (suc first) n x (omega (arith, e)))

pub more_at_end : (first n : ℕ) (x : Var) → x.num ≡ first + n → more_vars (vars_from first n) (x ∷ []) ≡ vars_from first (suc n)
more_at_end first n x e = rw (has_not first n x (omega (arith, e))) (from_end first n x e)

nothing_more : (first n k : ℕ) (x : Var) → x.num ≡ first + k → k < n → more_vars (vars_from first n) (x ∷ []) ≡ vars_from first n
nothing_more first n k x e l = rw (has_inside first n k x e l) (append-nil (vars_from first n))

pub run_has : (r : Run) (x : Var) → r.first ≤ x.num → x.num < r.end → vars_of_run r ≡ more_vars (vars_of_run r) (x ∷ [])
run_has r x l h = sym (nothing_more r.first (r.end - r.first) (x.num - r.first) x (omega (arith, l)) (omega (arith, l, h)))

pub run_begins : (r s : Run) (x : Var) → r.end ≤ r.first → s.first ≡ x.num → s.end ≡ x.num + 1 → vars_of_run s ≡ more_vars (vars_of_run r) (x ∷ [])
run_begins r s x l e d =
    let none : r.end - r.first ≡ zero = omega (arith, l) in
    let one : s.end - s.first ≡ suc zero = omega (arith, e, d) in
    rw (none, one) (ap (λ (y : Var). y ∷ []) (sym (is_numbered x s.first (sym e))))

pub run_goes_on : (r s : Run) (x : Var) → r.first ≤ r.end → x.num ≡ r.end → s.first ≡ r.first → s.end ≡ x.num + 1 → vars_of_run s ≡ more_vars (vars_of_run r) (x ∷ [])
run_goes_on r s x l e f d =
    let longer : s.end - s.first ≡ suc (r.end - r.first) = omega (arith, l, e, f, d) in
    rw (longer, f) (sym (more_at_end r.first (r.end - r.first) x (omega (arith, l, e))))

-- a variable that has a place is there
lower : (m n : ℕ) → nat_lt (1 + m) (suc n) ≡ nat_lt m n
lower m n = grind (arith, nat_tests)

begins_or_not : (b : Bool) (y : Var) (ys : List Var) (x : Var) → var_eq x y ≡ b → nat_lt (position_or_len (var_eq x) ys) (length ys) ≡ has_var x ys
    → nat_lt (position_or_len (var_eq x) (y ∷ ys)) (length (y ∷ ys)) ≡ has_var x (y ∷ ys)
begins_or_not true y ys x e h = let first : nat_lt 0 (suc (length ys)) ≡ true = grind (arith, nat_tests) in rw (e, first) refl
begins_or_not false y ys x e h = rw (e, lower (position_or_len (var_eq x) ys) (length ys)) h

before_end : (xs : List Var) (x : Var) → nat_lt (position_or_len (var_eq x) xs) (length xs) ≡ has_var x xs
before_end [] x = refl
before_end (y ∷ ys) x = begins_or_not (var_eq x y) y ys x refl (before_end ys x)

placed : (b : Bool) (i : ℕ) → is_some (cond b (Some i) None) ≡ b
placed true i = refl
placed false i = refl

pub place_has : (xs : List Var) (x : Var) → is_some (position (var_eq x) xs) ≡ has_var x xs
place_has xs x = placed (nat_lt (position_or_len (var_eq x) xs) (length xs)) (position_or_len (var_eq x) xs) ∙ before_end xs x

pub place_some : (xs : List Var) (x : Var) (i : ℕ) → position (var_eq x) xs ≡ Some i → has_var x xs ≡ true
place_some xs x i e = sym (place_has xs x) ∙ ap is_some e

pub place_none : (xs : List Var) (x : Var) → position (var_eq x) xs ≡ None → has_var x xs ≡ false
place_none xs x e = sym (place_has xs x) ∙ ap is_some e
