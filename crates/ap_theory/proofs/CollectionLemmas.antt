-- Conditions may be collected in any order, and problems reduced as soon as they arise.
use Rattle.std.proofs.Common.{◌≡◌, Bool, true, false, ◌||◌, List, [], ◌∷◌, map, refl, sym, ap, ap₂, ◌∙◌, inl, inr, true≢false}
use Rattle.std.specs.Prelude.{is_none, Option, Some, None}
use Rattle.ap_defs.specs.Freshness.{add_conds, both, cond_eq, has_cond, reduce}
use Rattle.ap_defs.specs.Substitution.{Binding, Problem, under, ◌#◌}
use Rattle.ap_defs.specs.Terms.{NominalTerm, susp}
use Rattle.ap_defs.specs.Unification.{problem_of, reduce_all}
use Rattle.ap_defs.specs.declared.terms.Cond.{Cond}
use Rattle.ap_theory.specs.StatementsOnConditions.{collected, joined_conditions, reduce_again}
use Rattle.ap_theory.proofs.BooleanLemmas.{or_cases, or_false, or_if_left, or_if_right, or_nothing, same_test}
use Rattle.ap_theory.proofs.ConditionSetLemmas.{add_conds-append, add_conds_same, cond_eq_tells, has_cond-append, has_cond_add_all}
use Rattle.ap_theory.proofs.ReductionLemmas.{both_again, is_none_both, reduce_under}
use Rattle.ap_theory.proofs.TermLemmas.{cond_eq_itself}

abbrev has_in : Cond → Option (List Cond) → Bool
has_in c None = false
has_in c (Some cs) = has_cond c cs

has_in_both : (b : Cond) (o p : Option (List Cond)) → is_none (both o p) ≡ false → has_in b (both o p) ≡ (has_in b o || has_in b p)
has_in_both b None p h = cc
has_in_both b (Some cs) None h = cc
has_in_both b (Some cs) (Some ds) h = has_cond-append b cs ds

-- What the conditions of a list reduce to, under bindings.
module _ (bs : List Binding) where
  abbrev reduced_cond : Cond → Option (List Cond)
  reduced_cond c = reduce c.name (under bs (susp [] c.var))

  abbrev reduced_conds : List Cond → Option (List Cond)
  reduced_conds cs = reduce_all bs (map problem_of cs)

  some_parts : (c : Cond) (cs : List Cond) → is_none (reduced_conds (c ∷ cs)) ≡ false → is_none (reduced_conds cs) ≡ false
  some_parts c cs h = (or_false (is_none (reduced_cond c)) (is_none (reduced_conds cs)) (sym (is_none_both (reduced_cond c) (reduced_conds cs)) ∙ h)).1

  none_of_member : (c : Cond) (ds : List Cond) → has_cond c ds ≡ true → is_none (reduced_cond c) ≡ true → is_none (reduced_conds ds) ≡ true
  none_of_member c [] m h = cc
  none_of_member c (d ∷ ds) m h =
      is_none_both (reduced_cond d) (reduced_conds ds)
      ∙ elim (or_cases (cond_eq c d) (has_cond c ds) m) [
        | inl e ↦ or_if_left (is_none (reduced_cond d)) (is_none (reduced_conds ds)) (ap (λ b. is_none (reduced_cond b)) (sym (cond_eq_tells c d e)) ∙ h)
        | inr k ↦ or_if_right (is_none (reduced_cond d)) (is_none (reduced_conds ds)) (none_of_member c ds k h)
      ]

  none_of_part : (cs ds : List Cond) → ((c : Cond) → has_cond c cs ≡ true → has_cond c ds ≡ true) → is_none (reduced_conds cs) ≡ true
      → is_none (reduced_conds ds) ≡ true
  none_of_part [] ds m h = cc
  none_of_part (c ∷ cs) ds m h =
      elim (or_cases (is_none (reduced_cond c)) (is_none (reduced_conds cs)) (sym (is_none_both (reduced_cond c) (reduced_conds cs)) ∙ h)) [
        | inl e ↦ none_of_member c ds (m c (or_if_left (cond_eq c c) (has_cond c cs) (cond_eq_itself c))) e
        | inr e ↦ none_of_part cs ds (λ b k. m b (or_if_right (cond_eq b c) (has_cond b cs) k)) e
      ]

  in_of_member : (b c : Cond) (ds : List Cond) → is_none (reduced_conds ds) ≡ false → has_cond c ds ≡ true → has_in b (reduced_cond c) ≡ true
      → has_in b (reduced_conds ds) ≡ true
  in_of_member b c [] n m h = cc
  in_of_member b c (d ∷ ds) n m h =
      has_in_both b (reduced_cond d) (reduced_conds ds) n
      ∙ elim (or_cases (cond_eq c d) (has_cond c ds) m) [
        | inl e ↦ or_if_left (has_in b (reduced_cond d)) (has_in b (reduced_conds ds)) (ap (λ z. has_in b (reduced_cond z)) (sym (cond_eq_tells c d e)) ∙ h)
        | inr k ↦ or_if_right (has_in b (reduced_cond d)) (has_in b (reduced_conds ds)) (in_of_member b c ds (some_parts d ds n) k h)
      ]

  in_of_part : (b : Cond) (cs ds : List Cond) → ((c : Cond) → has_cond c cs ≡ true → has_cond c ds ≡ true) → is_none (reduced_conds cs) ≡ false
      → is_none (reduced_conds ds) ≡ false
      → has_in b (reduced_conds cs) ≡ true → has_in b (reduced_conds ds) ≡ true
  in_of_part b [] ds m k n h = cc
  in_of_part b (c ∷ cs) ds m k n h =
      elim (or_cases (has_in b (reduced_cond c)) (has_in b (reduced_conds cs)) (sym (has_in_both b (reduced_cond c) (reduced_conds cs) k) ∙ h)) [
        | inl e ↦ in_of_member b c ds n (m c (or_if_left (cond_eq c c) (has_cond c cs) (cond_eq_itself c))) e
        | inr e ↦ in_of_part b cs ds (λ z l. m z (or_if_right (cond_eq z c) (has_cond z cs) l)) (some_parts c cs k) n e
      ]

  none_same : (cs ds : List Cond) → ((c : Cond) → has_cond c cs ≡ has_cond c ds) → is_none (reduced_conds cs) ≡ is_none (reduced_conds ds)
  none_same cs ds m =
      same_test (is_none (reduced_conds cs)) (is_none (reduced_conds ds))
      (none_of_part cs ds (λ c h. sym (m c) ∙ h)) (none_of_part ds cs (λ c h. m c ∙ h))

  -- lists of the same conditions reduce to the same conditions
  pub collected_same : (cs ds : List Cond) → ((c : Cond) → has_cond c cs ≡ has_cond c ds) → collected (reduced_conds cs) ≡ collected (reduced_conds ds)
  collected_same cs ds m =
      collected_by (reduced_conds cs) (reduced_conds ds) (none_same cs ds m)
      (λ b k n. same_test (has_in b (reduced_conds cs)) (has_in b (reduced_conds ds)) (in_of_part b cs ds (λ c h. sym (m c) ∙ h) k n) (in_of_part b ds cs (λ c h. m c ∙ h) n k))
    where
      collected_by : (o p : Option (List Cond)) → is_none o ≡ is_none p
          → ((b : Cond) → is_none o ≡ false → is_none p ≡ false → has_in b o ≡ has_in b p) → collected o ≡ collected p
      collected_by None None h k = refl
      collected_by None (Some es) h k = absurd (true≢false h)
      collected_by (Some es) None h k = absurd (true≢false (sym h))
      collected_by (Some es) (Some fs) h k = ap Some (add_conds_same es fs (λ b. k b refl refl))

-- problems that were reduced under bindings, reduced again under bindings that extend them
pub reduce_all_again : (bs cs : List Binding) → ((t : NominalTerm) → under cs (under bs t) ≡ under cs t) → (ps : List Problem)
    → reduce_all cs ps ≡ reduce_again cs (reduce_all bs ps)
reduce_all_again bs cs e [] = refl
reduce_all_again bs cs e ((a # t) ∷ ps) =
    ap₂ both (ap (reduce a) (sym (e t)) ∙ reduce_under cs a (under bs t)) (reduce_all_again bs cs e ps)
    ∙ both_again cs (reduce a (under bs t)) (reduce_all bs ps)

-- the set that is kept of reduced problems is all that is needed
pub collected_again : (bs cs : List Binding) → ((t : NominalTerm) → under cs (under bs t) ≡ under cs t) → (ps : List Problem)
    → collected (reduce_all cs ps) ≡ collected (reduce_again cs (collected (reduce_all bs ps)))
collected_again bs cs e ps = ap collected (reduce_all_again bs cs e ps) ∙ kept (reduce_all bs ps)
  where
    kept : (o : Option (List Cond)) → collected (reduce_again cs o) ≡ collected (reduce_again cs (collected o))
    kept None = refl
    kept (Some es) = collected_same cs es (add_conds es []) (λ c. sym (has_cond_add_all c es [] ∙ or_nothing (has_cond c es)))

-- and it can be added up
pub collected_both : (o p : Option (List Cond)) → collected (both o p) ≡ joined_conditions (collected o) (collected p)
collected_both None p = refl
collected_both (Some cs) None = refl
collected_both (Some cs) (Some ds) = ap Some (add_conds-append cs ds)
