-- What is among names and variables without doubles.
use Rattle.std.proofs.Common.{◌≡◌, Bool, true, false, ◌&&◌, ◌||◌, List, [], ◌∷◌, ◌++◌, refl, sym, ap, ap₂, ◌∙◌, inl, inr, zero}
use Rattle.std.specs.Prelude.{if◌then◌else◌, filter}
use Rattle.ap_defs.specs.declared.terms.Name.{Name}
use Rattle.ap_defs.specs.declared.terms.Var.{Var}
use Rattle.ap_defs.specs.declared.terms.Cond.{Cond}
use Rattle.ap_defs.specs.Permutations.{name_eq, has_name}
use Rattle.ap_defs.specs.Freshness.{var_eq}
use Rattle.ap_defs.specs.Unification.{has_var}
use Rattle.ap_defs.specs.Terms.{NominalTerm}
use Rattle.ap_defs.specs.Types.{NominalLocal}
use Rattle.ap_defs.specs.Renaming.{local_names}
use Rattle.ap_defs.specs.Occurrences.{names_of_terms, vars_of_terms}
use Rattle.ap_defs.specs.Printing.{first_names, first_vars}
use Rattle.ap_defs.specs.Lines.{is_shown_cond}
use Rattle.ap_theory.proofs.PermutationLemmas.{name_tells}
use Rattle.ap_answers.specs.Occurring.{more_names, more_vars}
use Rattle.ap_answers.specs.Conditions.{occurs_in}
use Rattle.ap_answers.proofs.OccurrenceLemmas.{name_moved, var_moved, more_names_none, more_vars_none}
use Rattle.ap_answers.proofs.ConditionLemmas.{var_tells}

or_none : (b : Bool) → (b || false) ≡ b
or_none true = refl
or_none false = refl

or_turned : (p q r : Bool) → ((p || q) || r) ≡ (q || (p || r))
or_turned true true r = refl
or_turned true false r = refl
or_turned false q r = refl

or_flipped : (p q : Bool) → (p || q) ≡ (q || p)
or_flipped true true = refl
or_flipped true false = refl
or_flipped false true = refl
or_flipped false false = refl

name_seen : (c a : Name) (ks xs : List Name) → has_name a ks ≡ true → has_name c (ks ++ first_names ks xs) ≡ (has_name c ks || has_name c xs) → has_name c (ks ++ first_names ks xs) ≡ (has_name c ks || (name_eq c a || has_name c xs))
name_seen c a ks xs h i = elim (name_tells c a) [
  | inl e ↦ let there : has_name c ks ≡ true = ap (λ x. has_name x ks) e.1 ∙ h in rw (i, there) refl
  | inr e ↦ rw (e.0, i) refl
]

name_more : (c a : Name) (ks xs : List Name) → (b : Bool) → has_name a ks ≡ b → has_name c (ks ++ first_names ks xs) ≡ (has_name c ks || has_name c xs) → has_name c (a ∷ (ks ++ first_names (a ∷ ks) xs)) ≡ ((name_eq c a || has_name c ks) || has_name c xs)
    → has_name c (ks ++ (if b then first_names ks xs else (a ∷ first_names (a ∷ ks) xs))) ≡ (has_name c ks || (name_eq c a || has_name c xs))
name_more c a ks xs true h i j = name_seen c a ks xs h i
name_more c a ks xs false h i j = sym (name_moved c a ks (first_names (a ∷ ks) xs)) ∙ j ∙ or_turned (name_eq c a) (has_name c ks) (has_name c xs)

-- what occurs further on is there, once, beside what was there
has_name_more : (c : Name) (ks xs : List Name) → has_name c (more_names ks xs) ≡ (has_name c ks || has_name c xs)
has_name_more c ks [] = rw (more_names_none ks) (sym (or_none (has_name c ks)))
has_name_more c ks (a ∷ xs) = name_more c a ks xs (has_name a ks) refl (has_name_more c ks xs) (has_name_more c (a ∷ ks) xs)

var_seen : (c a : Var) (ks xs : List Var) → has_var a ks ≡ true → has_var c (ks ++ first_vars ks xs) ≡ (has_var c ks || has_var c xs) → has_var c (ks ++ first_vars ks xs) ≡ (has_var c ks || (var_eq c a || has_var c xs))
var_seen c a ks xs h i = elim (var_tells c a) [
  | inl e ↦ let there : has_var c ks ≡ true = ap (λ x. has_var x ks) e.1 ∙ h in rw (i, there) refl
  | inr e ↦ rw (e.0, i) refl
]

var_more : (c a : Var) (ks xs : List Var) → (b : Bool) → has_var a ks ≡ b → has_var c (ks ++ first_vars ks xs) ≡ (has_var c ks || has_var c xs) → has_var c (a ∷ (ks ++ first_vars (a ∷ ks) xs)) ≡ ((var_eq c a || has_var c ks) || has_var c xs)
    → has_var c (ks ++ (if b then first_vars ks xs else (a ∷ first_vars (a ∷ ks) xs))) ≡ (has_var c ks || (var_eq c a || has_var c xs))
var_more c a ks xs true h i j = var_seen c a ks xs h i
var_more c a ks xs false h i j = sym (var_moved c a ks (first_vars (a ∷ ks) xs)) ∙ j ∙ or_turned (var_eq c a) (has_var c ks) (has_var c xs)

-- what occurs further on is there, once, beside what was there
has_var_more : (c : Var) (ks xs : List Var) → has_var c (more_vars ks xs) ≡ (has_var c ks || has_var c xs)
has_var_more c ks [] = rw (more_vars_none ks) (sym (or_none (has_var c ks)))
has_var_more c ks (a ∷ xs) = var_more c a ks xs (has_var a ks) refl (has_var_more c ks xs) (has_var_more c (a ∷ ks) xs)

same_filter : (p q : Cond → Bool) (cs : List Cond) → ((c : Cond) → p c ≡ q c) → filter p cs ≡ filter q cs
same_filter p q [] h = refl
same_filter p q (c ∷ cs) h = rw (h c) (ap (λ (ds : List Cond). if q c then (c ∷ ds) else ds) (same_filter p q cs h))

-- the conditions that are shown are those on what occurs
pub shown_filter : (locals : List NominalLocal) (ts : List NominalTerm) (cs : List Cond)
    → filter (occurs_in (more_names (local_names zero locals) (names_of_terms ts)) (first_vars [] (vars_of_terms ts))) cs ≡ filter (is_shown_cond locals ts) cs
shown_filter locals ts cs =
    same_filter _ (is_shown_cond locals ts) cs (λ c.
    ap₂ (λ p q. p && q) (has_var_more c.var [] (vars_of_terms ts))
    (has_name_more c.name (local_names zero locals) (names_of_terms ts) ∙ or_flipped (has_name c.name (local_names zero locals)) (has_name c.name (names_of_terms ts))))
