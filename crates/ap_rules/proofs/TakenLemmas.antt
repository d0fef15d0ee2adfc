-- Conditions that are taken out are not lost.
use Rattle.std.proofs.Common.{◌≡◌, Bool, true, false, ◌||◌, List, [], ◌∷◌, ◌++◌, refl, sym, ap, ◌∙◌}
use Rattle.std.specs.Prelude.{not, filter, if◌then◌else◌}
use Rattle.ap_defs.specs.Freshness.{Conds, cond_eq, has_cond, var_eq}
use Rattle.ap_defs.specs.declared.terms.Cond.{Cond}
use Rattle.ap_defs.specs.declared.terms.Var.{Var}
use Rattle.ap_store.specs.Triples.{is_apart, is_on}
use Rattle.ap_theory.proofs.BooleanLemmas.{or_swap}
use Rattle.ap_theory.proofs.ConditionSetLemmas.{has_cond-append}

taken_apart : (c : Cond) (x : Var) (ds : Conds) → has_cond c ds ≡ (has_cond c (filter (is_apart x) ds) || has_cond c (filter (is_on x) ds))
taken_apart c x [] = refl
taken_apart c x (d ∷ ds) =
    elim (var_eq d.var x) as (λ v. (cond_eq c d || has_cond c ds) ≡ (has_cond c (if not v then (d ∷ filter (is_apart x) ds) else filter (is_apart x) ds) || has_cond c (if v then (d ∷ filter (is_on x) ds) else filter (is_on x) ds))) [
      | true ↦ ap (λ z. cond_eq c d || z) (taken_apart c x ds) ∙ or_swap (cond_eq c d) (has_cond c (filter (is_apart x) ds)) (has_cond c (filter (is_on x) ds))
      | false ↦ ap (λ z. cond_eq c d || z) (taken_apart c x ds) ∙ sym (or_assoc (cond_eq c d) (has_cond c (filter (is_apart x) ds)) (has_cond c (filter (is_on x) ds)))
    ]
  where
    or_assoc : (x y z : Bool) → ((x || y) || z) ≡ (x || (y || z))
    or_assoc true y z = refl
    or_assoc false y z = refl

or_exchange : (x y z : Bool) → ((x || y) || z) ≡ (x || (z || y))
or_exchange true y z = refl
or_exchange false true true = refl
or_exchange false true false = refl
or_exchange false false true = refl
or_exchange false false false = refl

pub taken_more : (ds kept taken : List Cond) (x : Var) → ((c : Cond) → has_cond c ds ≡ has_cond c (kept ++ taken))
    → (c : Cond) → has_cond c ds ≡ has_cond c (filter (is_apart x) kept ++ (taken ++ filter (is_on x) kept))
taken_more ds kept taken x same c =
    same c ∙ has_cond-append c kept taken ∙ ap (λ z. z || has_cond c taken) (taken_apart c x kept)
    ∙ or_exchange (has_cond c (filter (is_apart x) kept)) (has_cond c (filter (is_on x) kept)) (has_cond c taken)
    ∙ ap (λ z. has_cond c (filter (is_apart x) kept) || z) (sym (has_cond-append c taken (filter (is_on x) kept)))
    ∙ sym (has_cond-append c (filter (is_apart x) kept) (taken ++ filter (is_on x) kept))
