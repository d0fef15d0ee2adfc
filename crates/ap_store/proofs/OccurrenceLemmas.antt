-- What is found of a variable in a term tells what was not found.
use Rattle.std.proofs.Common.{◌≡◌, ℕ, List, Bool, true, false, true≢false, refl, sym, ap}
use Rattle.std.specs.Prelude.{if◌then◌else◌}
use Rattle.ap_defs.specs.Renaming.{rename_term}
use Rattle.ap_defs.specs.Substitution.{Binding, occurs, under}
use Rattle.ap_defs.specs.Terms.{NominalTerm, abs, act_term, app, name, pair, susp, unit}
use Rattle.ap_defs.specs.declared.terms.Swap.{Swap}
use Rattle.ap_defs.specs.declared.terms.Var.{Var}
use Rattle.ap_store.specs.Founds.{does_occur}
use Rattle.ap_store.specs.Marks.{HasNoVars, IsConstant}
use Rattle.ap_store.specs.declared.occurrences.Occurrence.{Occurrence}
use Rattle.ap_store.specs.declared.occurrences.Occurrence.TheVariants as occurrences

-- what is told where all was looked through
abbrev pub told : Bool → Bool → Occurrence
told is_open is_far = if is_open then (if is_far then occurrences.Far else occurrences.Apart) else occurrences.Ground

pub not_found : (is_open is_far : Bool) → does_occur (told is_open is_far) ≡ false
not_found true true = refl
not_found true false = refl
not_found false is_far = refl

abbrev is_shut : Occurrence → Bool
is_shut occurrences.Occurs = false
is_shut occurrences.Apart = false
is_shut occurrences.Far = false
is_shut occurrences.Ground = true
is_shut (occurrences.Like w) = false

abbrev is_like : Occurrence → Bool
is_like occurrences.Occurs = false
is_like occurrences.Apart = false
is_like occurrences.Far = false
is_like occurrences.Ground = false
is_like (occurrences.Like w) = true

pub apart_not_ground : occurrences.Apart ≡ occurrences.Ground → ⊥
apart_not_ground e = true≢false (sym (ap is_shut e))

pub like_not_ground : (w : Var) → occurrences.Like w ≡ occurrences.Ground → ⊥
like_not_ground w e = true≢false (sym (ap is_shut e))

pub occurs_not_ground : occurrences.Occurs ≡ occurrences.Ground → ⊥
occurs_not_ground e = true≢false (sym (ap is_shut e))

pub ground_not_like : (w : Var) → occurrences.Ground ≡ occurrences.Like w → ⊥
ground_not_like w e = true≢false (sym (ap is_like e))

pub apart_not_like : (w : Var) → occurrences.Apart ≡ occurrences.Like w → ⊥
apart_not_like w e = true≢false (sym (ap is_like e))

pub occurs_not_like : (w : Var) → occurrences.Occurs ≡ occurrences.Like w → ⊥
occurs_not_like w e = true≢false (sym (ap is_like e))

far_not_ground : occurrences.Far ≡ occurrences.Ground → ⊥
far_not_ground e = true≢false (sym (ap is_shut e))

far_not_like : (w : Var) → occurrences.Far ≡ occurrences.Like w → ⊥
far_not_like w e = true≢false (sym (ap is_like e))

pub shut_if_ground : (is_open is_far : Bool) → told is_open is_far ≡ occurrences.Ground → is_open ≡ false
shut_if_ground false is_far e = refl
shut_if_ground true true e = absurd (far_not_ground e)
shut_if_ground true false e = absurd (apart_not_ground e)

pub without_like : (is_open is_far : Bool) (w : Var) → told is_open is_far ≡ occurrences.Like w → ⊥
without_like true true w e = far_not_like w e
without_like true false w e = apart_not_like w e
without_like false is_far w e = ground_not_like w e

abbrev var_or : Var → Occurrence → Var
var_or v occurrences.Occurs = v
var_or v occurrences.Apart = v
var_or v occurrences.Far = v
var_or v occurrences.Ground = v
var_or v (occurrences.Like w) = w

pub same_like : (u w : Var) → occurrences.Like u ≡ occurrences.Like w → u ≡ w
same_like u w e = ap (var_or u) e

-- a constant has no variables, whatever acts on it and is bound
pub constant_no_vars : (s : List Binding) (p : List Swap) (base : ℕ) (t : NominalTerm) → IsConstant t → HasNoVars (under s (act_term p (rename_term base t)))
constant_no_vars s p base unit h = λ y. refl
constant_no_vars s p base (name a) h = λ y. refl
constant_no_vars s p base (app f t) h = λ y. ap (λ u. occurs y (under s (act_term p (rename_term base u)))) h
constant_no_vars s p base (pair t u) h = absurd h
constant_no_vars s p base (abs a t) h = absurd h
constant_no_vars s p base (susp q x) h = absurd h
