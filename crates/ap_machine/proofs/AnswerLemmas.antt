-- Answers of states that were found.
use Rattle.std.proofs.Common.{◌≡◌, ◌≤◌, ℕ, zero, suc, List, [], ◌∷◌, length, refl, sym, ap, ◌∙◌, arith}
use Rattle.std.specs.Prelude.{None, Some, is_some}
use Rattle.ap_defs.specs.Answers.{binds_in, closed_term, kind_at, typed_vars}
use Rattle.ap_defs.specs.Canonical.{canonical_term}
use Rattle.ap_defs.specs.Freshness.{Conds}
use Rattle.ap_defs.specs.Resolution.{State}
use Rattle.ap_defs.specs.Substitution.{under}
use Rattle.ap_defs.specs.Terms.{NominalTerm, susp}
use Rattle.ap_defs.specs.Types.{NominalKind, NominalLocal, NominalType}
use Rattle.ap_defs.specs.declared.terms.Var.{Var}
use Rattle.ap_perm.proofs.SwappingLemmas.{canonical_none}
use Rattle.ap_store.proofs.FollowLemmas.{unbound_under}
use Rattle.ap_store.proofs.StoreLemmas.{next_counts, store_sound}
use Rattle.ap_store.specs.Views.{bindings_of, kinds, present, raw_bound}
use Rattle.ap_store.specs.declared.store.Store.{Store}
use Rattle.ap_theory.proofs.TermLemmas.{act_term_none}
use Rattle.ap_theory.specs.Variables.{is_bound}
use Rattle.ap_machine.specs.Unbound.{answer_by_unbound, unbound_vars, vars_besides}
use Rattle.ap_machine.specs.Views.{state_in}

-- what is not bound stands for itself
pub closed_unbound : (s : Store) (x : Var) → raw_bound s x ≡ None → susp [] x ≡ closed_term (state_in s) (susp [] x)
closed_unbound s x e = sym (ap canonical_term (unbound_under s [] x e) ∙ ap (λ p. susp p x) canonical_none)

-- and what is bound for what its binding stands for
pub closed_bound : (s : Store) (x : Var) (v : NominalTerm) → raw_bound s x ≡ Some v → canonical_term (under (bindings_of s) v) ≡ closed_term (state_in s) (susp [] x)
closed_bound s x v e = sym (ap canonical_term ((store_sound s).follows [] x v e ∙ act_term_none (under (bindings_of s) v)))

past_kinds : (ks : List NominalKind) (n : ℕ) → length ks ≤ n → kind_at ks n ≡ None
past_kinds [] n h = refl
past_kinds (k ∷ ks) zero h = absurd (omega arith)
past_kinds (k ∷ ks) (suc n) h = past_kinds ks n (omega arith)

pub no_kind : (s : Store) (n : ℕ) → (present s).next ≤ n → kind_at (kinds s) n ≡ None
no_kind s n l = let e : length (kinds s) ≡ (present s).next = next_counts s in past_kinds (kinds s) n (omega (arith, e, l))

-- the table tells what is bound
pub bound_tells : (s : Store) (x : Var) → is_bound x (bindings_of s) ≡ is_some (raw_bound s x)
bound_tells s x = (store_sound s).same x

module _ (locals : List NominalLocal) (s : State) (brought others : List Var) where
  pub answer_is : (binds : List NominalTerm) (conds : Conds) (vars : List (Var × NominalType)) → others ≡ unbound_vars s brought
      → binds ≡ binds_in locals s → conds ≡ s.conditions → vars ≡ typed_vars s.kinds (vars_besides binds s.conditions others)
      → record { binds = binds; conds = conds; vars = vars } ≡ answer_by_unbound locals s brought
  answer_is binds conds vars h b c v =
      let w : vars ≡ typed_vars s.kinds (vars_besides (binds_in locals s) s.conditions (unbound_vars s brought)) =
      v ∙ ap (λ ts. typed_vars s.kinds (vars_besides ts s.conditions others)) b ∙ ap (λ xs. typed_vars s.kinds (vars_besides (binds_in locals s) s.conditions xs)) h in
      ap (λ ts. record { binds = ts; conds = conds; vars = vars }) b
      ∙ ap (λ cs. record { binds = binds_in locals s; conds = cs; vars = vars }) c
      ∙ ap (λ vs. record { binds = binds_in locals s; conds = s.conditions; vars = vs }) w
