-- What the changes of a store keep: its triples are well formed, and bound variables stand for what their closures stand for.
use Rattle.std.proofs.Common.{◌≡◌, ◌<◌, ◌≤◌, ◌+◌, ℕ, zero, suc, Bool, true, false, ◌||◌, List, [], ◌∷◌, refl, sym, ap, ap₂, ◌∙◌, subst, arith, true≢false}
use Rattle.std.specs.Prelude.{Option, Some, None, is_some, if◌then◌else◌}
use Rattle.ap_defs.specs.Freshness.{Conds, var_eq}
use Rattle.ap_defs.specs.Renaming.{AreBindingsBelow, IsBelow}
use Rattle.ap_defs.specs.Substitution.{Binding, bound_term, moved, occurs, put, under}
use Rattle.ap_defs.specs.Terms.{NominalTerm, act_term, susp}
use Rattle.ap_defs.specs.declared.terms.Swap.{Swap}
use Rattle.ap_defs.specs.declared.terms.Var.{Var}
use Rattle.ap_perm.specs.Lookups as lookups
use Rattle.ap_perm.specs.Lookups.{IsRanked, carried_out, depth_of, followed, stands_for}
use Rattle.ap_perm.proofs.LookupLemmas.{occurs_depth}
use Rattle.ap_theory.proofs.BooleanLemmas.{or_false}
use Rattle.ap_theory.proofs.IdempotenceLemmas.{bound_term_unbound, under_each}
use Rattle.ap_theory.proofs.SubstitutionLemmas.{applied_local, put_absent, put_act, under_applied}
use Rattle.ap_theory.proofs.TermLemmas.{act_term_none, same_var, var_same}
use Rattle.ap_theory.specs.Substitutions.{applied, bound_or_itself, substitution_of}
use Rattle.ap_theory.specs.Variables.{IsIdempotent, IsUnbound, is_bound}
use Rattle.ap_store.specs.Changes.{AreChanges, Change, Made, Bound, Added, Taken, IsChange, after, empty, has_on, is_ascending, present_after, with_bound}
use Rattle.ap_store.specs.Trails.{no_rank, nothing_bound, rank_after, rank_step, raw_after, raw_step}
use Rattle.ap_store.specs.Triples.{AreOnUnbound, Triple, is_apart}
use Rattle.ap_store.specs.WellFormed.{IsWellFormed}
use Rattle.ap_store.proofs.AscendingLemmas.{ascending_add_all, ascending_filter, on_unbound_add_all, on_unbound_filter}
use Rattle.ap_store.proofs.BelowLemmas.{below_more, bindings_below_more, bindings_below_put, under_below}
use Rattle.ap_store.proofs.BindLemmas.{bound_in, idempotent_bind, is_bound_put, occurs_through, under_bind}

pub record IsSound (b : lookups.Bound) (a : Triple) (r : Var → ℕ) : Type 0 where
  pub well_formed : IsWellFormed a
  pub follows : (p : List Swap) (x : Var) (t : NominalTerm) → b x ≡ Some t → under a.bindings (susp p x) ≡ act_term p (under a.bindings t)
  pub same : (x : Var) → is_bound x a.bindings ≡ is_some (b x)
  pub below : (x : Var) (t : NominalTerm) → b x ≡ Some t → IsBelow a.next t
  pub ranked : IsRanked b r

-- More numbers.
on_unbound_more : (a c : Triple) → a.next ≤ c.next → a.bindings ≡ c.bindings → (ds : Conds) → AreOnUnbound a ds → AreOnUnbound c ds
on_unbound_more a c l e [] h = tt
on_unbound_more a c l e (d ∷ ds) h =
    ((omega arith, omega arith, ap (is_bound d.var) (sym e) ∙ h.0.2), on_unbound_more a c l e ds h.1)

sound_made : (b : lookups.Bound) (a : Triple) (r : Var → ℕ) (n : ℕ) → IsSound b a r → IsSound b (after (Made n) a) r
sound_made b a r n s =
    let l : a.next ≤ a.next + n = omega arith in
    record {
      well_formed = record {
        idempotent = s.well_formed.idempotent;
        below = bindings_below_more (a.next + n) a.next l a.bindings s.well_formed.below;
        unbound = on_unbound_more a (after (Made n) a) l refl a.conditions s.well_formed.unbound;
        ascending = s.well_formed.ascending;
      };
      follows = s.follows;
      same = s.same;
      below = λ x t e. below_more (a.next + n) a.next l t (s.below x t e);
      ranked = s.ranked;
    }

sound_replaced : (b : lookups.Bound) (a c : Triple) (r : Var → ℕ) → c.bindings ≡ a.bindings → c.next ≡ a.next → AreOnUnbound a c.conditions → is_ascending c.conditions ≡ true
    → IsSound b a r → IsSound b c r
sound_replaced b a c r e f h k s =
    let l : a.next ≤ c.next = omega (arith, f) in
    record {
      well_formed = record {
        idempotent = subst IsIdempotent (sym e) s.well_formed.idempotent;
        below = subst (λ (bs : List Binding). AreBindingsBelow c.next bs) (sym e) (bindings_below_more c.next a.next l a.bindings s.well_formed.below);
        unbound = on_unbound_more a c l (sym e) c.conditions h;
        ascending = k;
      };
      follows = λ p x t g. subst (λ (bs : List Binding). under bs (susp p x) ≡ act_term p (under bs t)) (sym e) (s.follows p x t g);
      same = λ x. ap (is_bound x) e ∙ s.same x;
      below = λ x t g. below_more c.next a.next l t (s.below x t g);
      ranked = s.ranked;
    }

-- One more binding.
module _ (b : lookups.Bound) (a : Triple) (r : Var → ℕ) (s : IsSound b a r) (x : Var) (t : NominalTerm) (made : x.num < a.next) (free : IsUnbound a.bindings x) (fits : IsBelow a.next t)
    (absent : occurs x (under a.bindings t) ≡ false) (apart : has_on x a.conditions ≡ false) where
  abbrev v : NominalTerm
  v = under a.bindings t

  abbrev more : lookups.Bound
  more z = if var_eq z x then Some t else b z

  abbrev reaches : Var → Bool
  reaches z = occurs x (under a.bindings (susp [] z))

  abbrev higher : Var → ℕ
  higher z = if reaches z then (r z + suc (depth_of r t)) else r z

  some_same : {u w : NominalTerm} → Some u ≡ Some w → u ≡ w
  some_same k = cc

  bound_follows : (p : List Swap) (z : Var) (u : NominalTerm) → more z ≡ Some u → under (bound_in x v a.bindings) (susp p z) ≡ act_term p (under (bound_in x v a.bindings) u)
  bound_follows p z u e =
      elim (var_eq z x) as (λ c. var_eq z x ≡ c → (if c then Some t else b z) ≡ Some u → under (bound_in x v a.bindings) (susp p z) ≡ act_term p (under (bound_in x v a.bindings) u)) [
        | true ↦ λ k h.
            rw k (ap (act_term p) (sym (put_absent x v v absent) ∙ sym (under_bind x v a.bindings free t)) ∙ ap (λ w. act_term p (under (bound_in x v a.bindings) w)) (some_same h))
        | false ↦ λ k h.
            under_bind x v a.bindings free (susp p z) ∙ ap (put x v) (s.follows p z u h) ∙ put_act x v p (under a.bindings u) ∙ ap (act_term p) (sym (under_bind x v a.bindings free u))
      ] refl e

  bound_same : (z : Var) → is_bound z (bound_in x v a.bindings) ≡ is_some (more z)
  bound_same z =
      ap (λ c. var_eq z x || c) (is_bound_put x v z a.bindings ∙ s.same z)
      ∙ (elim (var_eq z x) as (λ c. (c || is_some (b z)) ≡ is_some (if c then Some t else b z)) [ true ↦ refl | false ↦ refl ])

  bound_below : (z : Var) (u : NominalTerm) → more z ≡ Some u → IsBelow a.next u
  bound_below z u e =
      elim (var_eq z x) as (λ c. (if c then Some t else b z) ≡ Some u → IsBelow a.next u) [
        | true ↦ λ h. subst (λ (w : NominalTerm). IsBelow a.next w) (some_same h) fits
        | false ↦ λ h. s.below z u h
      ] e

  reached : (y z : Var) (u : NominalTerm) → b z ≡ Some u → occurs y u ≡ true → reaches y ≡ true → reaches z ≡ true
  reached y z u e i h =
      ap (occurs x) (s.follows [] z u e ∙ act_term_none (under a.bindings u)) ∙ occurs_through a.bindings x y u i h

  itself_reaches : reaches x ≡ true
  itself_reaches = ap (λ o. occurs x (moved [] x o)) (bound_term_unbound a.bindings x free) ∙ same_var x x refl

  not_reached : (y : Var) → occurs y t ≡ true → reaches y ≡ false
  not_reached y i = false_if (reaches y) (λ h. true≢false (sym (occurs_through a.bindings x y t i h) ∙ absent))
    where
      false_if : (c : Bool) → (c ≡ true → ⊥) → c ≡ false
      false_if true f = absurd (f refl)
      false_if false f = refl

  higher_new : (y : Var) → occurs y t ≡ true → higher y < higher x
  higher_new y i = let l : r y < depth_of r t = occurs_depth r y t i in rw (not_reached y i, itself_reaches) (omega arith)

  higher_old : (y z : Var) → (reaches y ≡ true → reaches z ≡ true) → r y < r z → higher y < higher z
  higher_old y z f l =
      elim (reaches y) as (λ c. reaches y ≡ c → (if c then (r y + suc (depth_of r t)) else r y) < higher z) [
        | true ↦ λ e. rw (f e) (omega arith)
        | false ↦ λ e. elim (reaches z) as (λ c. r y < (if c then (r z + suc (depth_of r t)) else r z)) [ true ↦ omega arith | false ↦ l ]
      ] refl

  bound_ranked : IsRanked more higher
  bound_ranked z y u e i =
      elim (var_eq z x) as (λ c. var_eq z x ≡ c → (if c then Some t else b z) ≡ Some u → higher y < higher z) [
        | true ↦ λ k h. subst (λ (w : Var). higher y < higher w) (sym (var_same z x k)) (higher_new y (ap (occurs y) (some_same h) ∙ i))
        | false ↦ λ k h. higher_old y z (reached y z u h i) (s.ranked z y u h i)
      ] refl e

  on_unbound_bound : (ds : Conds) → has_on x ds ≡ false → AreOnUnbound a ds → AreOnUnbound (with_bound x v a) ds
  on_unbound_bound [] h k = tt
  on_unbound_bound (d ∷ ds) h k =
      let l = or_false (var_eq d.var x) (has_on x ds) h in
      ((k.0.0, k.0.1, ap₂ ◌||◌ l.0 (is_bound_put x v d.var a.bindings ∙ k.0.2)), on_unbound_bound ds l.1 k.1)

  sound_bound : IsSound more (with_bound x v a) higher
  sound_bound =
      let w : IsBelow a.next v = under_below a.next a.bindings s.well_formed.below t fits in
      record {
        well_formed = record {
          idempotent = idempotent_bind x v a.bindings free (under_each a.bindings s.well_formed.idempotent t) absent s.well_formed.idempotent;
          below = ((made, w), bindings_below_put a.next x v w a.bindings s.well_formed.below);
          unbound = on_unbound_bound a.conditions apart s.well_formed.unbound;
          ascending = s.well_formed.ascending;
        };
        follows = bound_follows;
        same = bound_same;
        below = bound_below;
        ranked = bound_ranked;
      }

pub sound_step : (c : Change) (b : lookups.Bound) (a : Triple) (r : Var → ℕ) → IsChange c a → IsSound b a r → IsSound (raw_step c b) (after c a) (rank_step c a r)
sound_step (Made n) b a r h s = sound_made b a r n s
sound_step (Bound x t) b a r h s = sound_bound b a r s x t h.0 h.1 h.2 h.3 h.4
sound_step (Added c) b a r h s =
    sound_replaced b a (after (Added c) a) r refl refl (on_unbound_add_all a (c ∷ []) a.conditions h s.well_formed.unbound) (ascending_add_all (c ∷ []) a.conditions s.well_formed.ascending) s
sound_step (Taken x cs) b a r h s =
    sound_replaced b a (after (Taken x cs) a) r refl refl (on_unbound_filter (is_apart x) a a.conditions s.well_formed.unbound) (ascending_filter (is_apart x) a.conditions s.well_formed.ascending) s

pub sound_after : (cs : List Change) (b : lookups.Bound) (a : Triple) (r : Var → ℕ) → AreChanges cs a → IsSound b a r → IsSound (raw_after cs b) (present_after cs a) (rank_after cs a r)
sound_after [] b a r h s = s
sound_after (c ∷ cs) b a r h s = sound_after cs (raw_step c b) (after c a) (rank_step c a r) h.1 (sound_step c b a r h.0 s)

sound_empty : IsSound nothing_bound empty no_rank
sound_empty = record {
  well_formed = record { idempotent = (tt, tt); below = tt; unbound = tt; ascending = refl };
  follows = λ p x t e. cc;
  same = λ x. refl;
  below = λ x t e. cc;
  ranked = λ x y t e i. cc;
}

-- all changes of a store
pub sound : (cs : List Change) → AreChanges cs empty → IsSound (raw_after cs nothing_bound) (present_after cs empty) (rank_after cs empty no_rank)
sound cs h = sound_after cs nothing_bound empty no_rank h sound_empty

pub ranked_after : (cs : List Change) → AreChanges cs empty → IsRanked (raw_after cs nothing_bound) (rank_after cs empty no_rank)
ranked_after cs h = (sound cs h).ranked

-- A term with every binding carried out is the term under the bindings.
module _ (b : lookups.Bound) (a : Triple) (r : Var → ℕ) (s : IsSound b a r) where
  moved_or_itself : (x : Var) (o : Option NominalTerm) → moved [] x o ≡ bound_or_itself x o
  moved_or_itself x None = refl
  moved_or_itself x (Some t) = act_term_none t

  unbound_where : (x : Var) → b x ≡ None → IsUnbound a.bindings x
  unbound_where x e = s.same x ∙ ap is_some e

  follow_bound : (n : ℕ) (x : Var) (o : Option NominalTerm) → b x ≡ o → ((t : NominalTerm) → b x ≡ Some t → applied (stands_for b n) t ≡ under a.bindings t)
      → followed (stands_for b n) x o ≡ substitution_of a.bindings x
  follow_bound n x None e f = sym (ap (bound_or_itself x) (bound_term_unbound a.bindings x (unbound_where x e)))
  follow_bound n x (Some t) e f = f t e ∙ sym (act_term_none (under a.bindings t)) ∙ sym (s.follows [] x t e) ∙ moved_or_itself x (bound_term a.bindings x)

  stands_bound : (n : ℕ) (x : Var) → r x < n → stands_for b n x ≡ substitution_of a.bindings x
  stands_bound zero x l = absurd (omega arith)
  stands_bound (suc n) x l =
      follow_bound n x (b x) refl
      (λ t e. applied_local (stands_for b n) (substitution_of a.bindings) t (λ y i. let k = s.ranked x y t e i in stands_bound n y (omega arith)) ∙ sym (under_applied a.bindings t))

  pub carried_out_bound : (t : NominalTerm) → carried_out b r t ≡ under a.bindings t
  unfolding carried_out
  carried_out_bound t =
      applied_local (stands_for b (depth_of r t)) (substitution_of a.bindings) t (λ y i. stands_bound (depth_of r t) y (occurs_depth r y t i)) ∙ sym (under_applied a.bindings t)
