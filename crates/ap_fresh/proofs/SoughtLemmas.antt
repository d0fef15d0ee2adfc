-- Names that are kept in a set of keys.
use Rattle.std.proofs.Common.{◌≡◌, ◌⊎◌, ℕ, Bool, true, false, ◌==◌, ◌&&◌, if◌then◌else◌, inl, inr, refl, sym, ap₂, ◌∙◌, arith}
use Rattle.std.proofs.lemmas.Bool.Decides.{nat_tests}
use Rattle.std.specs.Ordering.{is_eq, nat_cmp, ordering_then}
use Rattle.std.specs.declared.cmp.Ordering.{Ordering}
use Rattle.std.specs.declared.cmp.Ordering.TheVariants.{Less, Equal, Greater}
use Rattle.ap_defs.specs.Freshness.{cond_eq}
use Rattle.ap_defs.specs.Permutations.{name_eq}
use Rattle.ap_defs.specs.declared.terms.Cond.{Cond}
use Rattle.ap_theory.proofs.ConditionSetLemmas.{cond_eq_tells}
use Rattle.ap_fresh.specs.Sought.{cond_key, cond_key_cmp}

at_number : (k x : ℕ) → is_eq (nat_cmp k x) ≡ (k == x)
at_number k x = grind (arith, nat_tests)

eq_then : (a b : Ordering) → is_eq (ordering_then a b) ≡ (is_eq a && is_eq b)
eq_then Less b = refl
eq_then Equal b = refl
eq_then Greater b = refl

-- keys are the same of the same name in the same variable
key_eq : (c d : Cond) → is_eq (cond_key_cmp (cond_key c) (cond_key d)) ≡ cond_eq c d
unfolding name_eq
key_eq c d =
    eq_then (nat_cmp c.var.num d.var.num) (ordering_then (nat_cmp c.name.sort d.name.sort) (nat_cmp c.name.num d.name.num))
    ∙ ap₂ ◌&&◌ (at_number c.var.num d.var.num)
    (eq_then (nat_cmp c.name.sort d.name.sort) (nat_cmp c.name.num d.name.num) ∙ ap₂ ◌&&◌ (at_number c.name.sort d.name.sort) (at_number c.name.num d.name.num))

-- one more key
pub one_more : (c d : Cond) (old new : ℕ × (ℕ × ℕ) → Bool) → new (cond_key d) ≡ (if is_eq (cond_key_cmp (cond_key c) (cond_key d)) then true else old (cond_key d))
    → new (cond_key d) ≡ true → (old (cond_key d) ≡ true) ⊎ (d ≡ c)
one_more c d old new put h =
    (elim (is_eq (cond_key_cmp (cond_key c) (cond_key d))) as (λ b. is_eq (cond_key_cmp (cond_key c) (cond_key d)) ≡ b → (if b then true else old (cond_key d)) ≡ true → (old (cond_key d) ≡ true) ⊎ (d ≡ c)) [
      | true ↦ λ e k. inr (sym (cond_eq_tells c d (sym (key_eq c d) ∙ e)))
      | false ↦ λ e k. inl k
    ] refl) (sym put ∙ h)

pub still_kept : (c d : Cond) (old new : ℕ × (ℕ × ℕ) → Bool) → new (cond_key d) ≡ (if is_eq (cond_key_cmp (cond_key c) (cond_key d)) then true else old (cond_key d))
    → old (cond_key d) ≡ true → new (cond_key d) ≡ true
still_kept c d old new put h = put ∙ kept (is_eq (cond_key_cmp (cond_key c) (cond_key d)))
  where
    kept : (b : Bool) → (if b then true else old (cond_key d)) ≡ true
    kept true = refl
    kept false = h
