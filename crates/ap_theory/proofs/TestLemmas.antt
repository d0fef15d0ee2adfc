-- The tests of freshness and equality under a list of conditions hold just where what they test does.
use Rattle.std.proofs.Common.{subst, ◌≡◌, true, ◌&&◌, not, List, [], ◌∷◌, refl, sym, ap, ◌∙◌, inl, inr, true≢false, eqb, ◌↔◌}
use Rattle.ap_defs.specs.Freshness.{Conds, all_fresh, alpha_under, fresh_under, has_cond, var_eq}
use Rattle.ap_defs.specs.Permutations.{disagreement, has_name, name_eq}
use Rattle.ap_defs.specs.Terms.{NominalTerm, abs, app, name, pair, susp, unit}
use Rattle.ap_defs.specs.declared.terms.Name.{Name}
use Rattle.ap_defs.specs.declared.terms.Var.{Var}
use Rattle.ap_theory.specs.Contexts.{Equal, Fresh, listed_context}
use Rattle.ap_theory.proofs.BooleanLemmas.{and_both, and_left, and_right, or_cases, or_if_left, or_if_right, or_right}
use Rattle.ap_theory.proofs.DisagreementLemmas.{differing_disagree, disagree_differing, has_front}
use Rattle.ap_theory.proofs.PermutationLemmas.{name_decided, name_eq_itself, name_eq_same, name_tells, not_name}
use Rattle.ap_theory.proofs.TermLemmas.{number_same, same_number, same_var, swapped, var_same}

pub fresh_under_Fresh : (ds : Conds) (a : Name) (t : NominalTerm) → fresh_under ds a t ≡ true → Fresh (listed_context ds) a t
fresh_under_Fresh ds a unit h = tt
fresh_under_Fresh ds a (name b) h = λ e. true≢false (sym h ∙ ap not (ap (λ x. name_eq x b) e ∙ name_eq_itself b))
fresh_under_Fresh ds a (pair t u) h = (fresh_under_Fresh ds a t (and_left _ (fresh_under ds a u) h), fresh_under_Fresh ds a u (and_right (fresh_under ds a t) _ h))
fresh_under_Fresh ds a (app f t) h = fresh_under_Fresh ds a t h
fresh_under_Fresh ds a (abs b t) h =
    elim (name_decided a b) [
      | inl e ↦ inl e
      | inr n ↦ inr (fresh_under_Fresh ds a t (or_right (name_eq a b) (fresh_under ds a t) (not_name a b n) h))
    ]
fresh_under_Fresh ds a (susp p x) h = h

pub Fresh_fresh_under : (ds : Conds) (a : Name) (t : NominalTerm) → Fresh (listed_context ds) a t → fresh_under ds a t ≡ true
Fresh_fresh_under ds a unit h = refl
Fresh_fresh_under ds a (name b) h = ap not (not_name a b h)
Fresh_fresh_under ds a (pair t u) h = and_both _ _ (Fresh_fresh_under ds a t h.0) (Fresh_fresh_under ds a u h.1)
Fresh_fresh_under ds a (app f t) h = Fresh_fresh_under ds a t h
Fresh_fresh_under ds a (abs b t) (inl e) = or_if_left (name_eq a b) (fresh_under ds a t) (ap (name_eq a) (sym e) ∙ name_eq_itself a)
Fresh_fresh_under ds a (abs b t) (inr h) = or_if_right (name_eq a b) (fresh_under ds a t) (Fresh_fresh_under ds a t h)
Fresh_fresh_under ds a (susp p x) h = h

all_fresh_each : (ds : Conds) (cs : List Name) (x : Var) → all_fresh ds cs x ≡ true → (c : Name) → has_name c cs ≡ true → listed_context ds c x
all_fresh_each ds [] x h c m = cc
all_fresh_each ds (b ∷ bs) x h c m =
    elim (or_cases (name_eq c b) (has_name c bs) m) [
      | inl e ↦ subst (λ (z : Name). listed_context ds z x) (sym (name_eq_same c b e)) (and_left (has_cond (record { name = b; var = x }) ds) (all_fresh ds bs x) h)
      | inr k ↦ all_fresh_each ds bs x (and_right (has_cond (record { name = b; var = x }) ds) (all_fresh ds bs x) h) c k
    ]

each_all_fresh : (ds : Conds) (cs : List Name) (x : Var) → ((c : Name) → has_name c cs ≡ true → listed_context ds c x) → all_fresh ds cs x ≡ true
each_all_fresh ds [] x h = refl
each_all_fresh ds (b ∷ bs) x h =
    and_both _ _ (h b (has_front b bs)) (each_all_fresh ds bs x (λ c m. h c (or_if_right (name_eq c b) (has_name c bs) m)))

pub alpha_under_Equal : (ds : Conds) (t u : NominalTerm) → alpha_under ds t u ≡ true → Equal (listed_context ds) t u
alpha_under_Equal ds unit unit h = tt
alpha_under_Equal ds (name a) (name b) h = name_eq_same a b h
alpha_under_Equal ds (pair t u) (pair v w) h = (alpha_under_Equal ds t v (and_left _ (alpha_under ds u w) h), alpha_under_Equal ds u w (and_right (alpha_under ds t v) _ h))
alpha_under_Equal ds (app f t) (app g u) h = (number_same f g (and_left _ (alpha_under ds t u) h), alpha_under_Equal ds t u (and_right (eqb f g) _ h))
alpha_under_Equal ds (abs a t) (abs b u) h =
    elim (name_tells a b) [
      | inl w ↦ inl (w.1, alpha_under_Equal ds t u (rw w.0 at h))
      | inr w ↦
          let k : (eqb a.sort b.sort && (fresh_under ds a u && alpha_under ds t (swapped a b u))) ≡ true = rw w.0 at h in
          let m : (fresh_under ds a u && alpha_under ds t (swapped a b u)) ≡ true = and_right (eqb a.sort b.sort) _ k in
          inr (w.1, number_same a.sort b.sort (and_left _ (fresh_under ds a u && alpha_under ds t (swapped a b u)) k), alpha_under_Equal ds t (swapped a b u) (and_right (fresh_under ds a u) _ m), fresh_under_Fresh ds a u (and_left _ (alpha_under ds t (swapped a b u)) m))
    ]
alpha_under_Equal ds (susp p x) (susp q y) h = (
  var_same x y (and_left _ (all_fresh ds (disagreement p q) x) h),
  λ c n. all_fresh_each ds (disagreement p q) x (and_right (var_eq x y) _ h) c (differing_disagree p q c n),
)
alpha_under_Equal ds _ _ h = absurd (true≢false (sym h))

pub Equal_alpha_under : (ds : Conds) (t u : NominalTerm) → Equal (listed_context ds) t u → alpha_under ds t u ≡ true
Equal_alpha_under ds unit unit h = refl
Equal_alpha_under ds (name a) (name b) h = ap (name_eq a) (sym h) ∙ name_eq_itself a
Equal_alpha_under ds (pair t u) (pair v w) h = and_both _ _ (Equal_alpha_under ds t v h.0) (Equal_alpha_under ds u w h.1)
Equal_alpha_under ds (app f t) (app g u) h = and_both _ _ (same_number f g h.0) (Equal_alpha_under ds t u h.1)
Equal_alpha_under ds (abs a t) (abs b u) (inl h) = rw (← h.0, name_eq_itself a) (Equal_alpha_under ds t u h.1)
Equal_alpha_under ds (abs a t) (abs b u) (inr h) =
    rw (not_name a b h.0)
    (and_both _ _ (same_number a.sort b.sort h.1) (and_both _ _ (Fresh_fresh_under ds a u h.3) (Equal_alpha_under ds t (swapped a b u) h.2)))
Equal_alpha_under ds (susp p x) (susp q y) h =
    and_both _ _ (same_var x y h.0) (each_all_fresh ds (disagreement p q) x (λ c m. h.1 c (disagree_differing p q c m)))
Equal_alpha_under ds _ _ h = absurd h

pub fresh_under_iff : (ds : Conds) (a : Name) (t : NominalTerm) → fresh_under ds a t ≡ true ↔ Fresh (listed_context ds) a t
fresh_under_iff ds a t = (fresh_under_Fresh ds a t, Fresh_fresh_under ds a t)

pub alpha_under_iff : (ds : Conds) (t u : NominalTerm) → alpha_under ds t u ≡ true ↔ Equal (listed_context ds) t u
alpha_under_iff ds t u = (alpha_under_Equal ds t u, Equal_alpha_under ds t u)
