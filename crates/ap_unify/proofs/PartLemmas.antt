-- The rules for parts of terms on which no swappings wait.
use Rattle.std.proofs.Common.{◌≡◌, ◌<◌, ◌≤◌, ℕ, true, false, true≢false, List, [], ◌∷◌, ◌++◌, length, map, refl, reverse, sym, subst, ap, ap₂, ◌∙◌, arith}
use Rattle.std.proofs.lemmas.Bool.Decides.{nat_tests}
use Rattle.std.specs.Prelude.{Some, nat_lt, if◌then◌else◌}
use Rattle.ap_defs.specs.Freshness.{var_eq}
use Rattle.ap_defs.specs.Renaming.{rename_term, rename_var}
use Rattle.ap_defs.specs.Substitution.{Binding, Equation, Problem, occurs, under}
use Rattle.ap_defs.specs.Terms.{NominalTerm, abs, app, pair, susp, term_of}
use Rattle.ap_defs.specs.Unification.{Rule, apply_rule, bind, clash, next, replace, rule, unless_occurs}
use Rattle.ap_defs.specs.declared.terms.Name.{Name}
use Rattle.ap_defs.specs.declared.terms.Swap.{Swap}
use Rattle.ap_defs.specs.declared.terms.Term.{Term}
use Rattle.ap_defs.specs.declared.terms.Term.TheVariants as code
use Rattle.ap_defs.specs.declared.terms.Var.{Var}
use Rattle.ap_perm.proofs.LookupLemmas.{depth_ranked}
use Rattle.ap_perm.specs.Lookups.{depth_of}
use Rattle.ap_store.proofs.StoreLemmas.{store_ranked, store_sound}
use Rattle.ap_store.specs.Heads.{HasForm, IsHeadUnbound}
use Rattle.ap_store.specs.Views.{bindings_of, present, rank, raw_bound}
use Rattle.ap_store.specs.declared.store.Store.{Store}
use Rattle.ap_theory.proofs.BooleanLemmas.{or_false}
use Rattle.ap_theory.proofs.TermLemmas.{act_term_none}
use Rattle.ap_theory.specs.Variables.{IsUnbound}
use Rattle.ap_rules.proofs.RunLemmas.{bind_in_under, bound_in, dropped}
use Rattle.ap_rules.proofs.SuspensionLemmas.{form_under, head_var_stays, rule_binds_left, rule_binds_right}
use Rattle.ap_rules.proofs.WorkLemmas.{pairs_below-append, put_last}
use Rattle.ap_unify.specs.Parts.{AreTurnMarksTrue, IsFurther, IsHead, IsMarkTrue, IsTurnBelow, PairReading, PutsNothing}
use Rattle.ap_equations.specs.Plain.{plain_term}
use Rattle.ap_rules.specs.Runs.{equation_under, problem_under, stage_under}
use Rattle.ap_rules.specs.Work.{ArePairsBelow, IsPairBelow, pair_equation}
use Rattle.ap_unify.specs.declared.heads.Head.{Head}
use Rattle.ap_unify.specs.declared.heads.Head.TheVariants as heads
use Rattle.ap_unify.specs.declared.parts.Ahead.{Ahead}
use Rattle.ap_unify.specs.declared.parts.Turn.{Turn}
use Rattle.ap_unify.specs.declared.parts.Turn.TheVariants as turns
use Rattle.ap_rules.specs.declared.pairs.ClosurePair.{ClosurePair}
use Rattle.ap_equations.specs.declared.plain.Plain.{Plain}

-- a suspension of a variable on which no swappings wait
pub plain_susp : (p : Plain) (q : List Swap) (x : Var) → p.term.now ≡ code.Susp q x → length q ≡ 0 → plain_term p ≡ susp [] (rename_var p.base x)
plain_susp p [] x e n = ap (λ (t : Term). rename_term p.base (term_of t)) e
plain_susp p (s ∷ q) x e n = cc

-- what its variable is bound to
further : (s : Store) (x : Var) (v : NominalTerm) → raw_bound s x ≡ Some v → IsFurther (present s) (rank s) (susp [] x) v
further s x v e =
    let l : depth_of (rank s) v ≤ rank s x = depth_ranked (raw_bound s) (rank s) (store_ranked s) x v e in (
      sym ((store_sound s).follows [] x v e ∙ act_term_none (under (bindings_of s) v)),
      (λ h. (store_sound s).below x v e),
      omega arith,
    )

pub found_further : (s : Store) (x : Var) (v t u : NominalTerm) → t ≡ susp [] x → u ≡ v → raw_bound s x ≡ Some v → IsFurther (present s) (rank s) t u
found_further s x v t u e f b =
    subst (λ w. IsFurther (present s) (rank s) t w) (sym f) (subst (λ w. IsFurther (present s) (rank s) w v) (sym e) (further s x v b))

-- what is known of a head
pub head_free : (s : List Binding) (t : NominalTerm) (h : Head) (x : Var) → IsHead s t h → h ≡ heads.Free x → (t ≡ susp [] x) × IsUnbound s x
head_free s t h x k e = subst (IsHead s t) e k

pub head_form : (s : List Binding) (t : NominalTerm) (h : Head) → IsHead s t h → h ≡ heads.Form → HasForm t
head_form s t h k e = subst (IsHead s t) e k

module _ (s : List Binding) where
  -- an unbound variable stays
  pub free_stays : (x : Var) (t : NominalTerm) → t ≡ susp [] x → IsUnbound s x → under s t ≡ susp [] x
  free_stays x t e h = head_var_stays s t [] x e (subst (IsHeadUnbound s) (sym e) h)

  pub free_absent : (y x : Var) (t : NominalTerm) → t ≡ susp [] x → IsUnbound s x → var_eq y x ≡ false → occurs y (under s t) ≡ false
  free_absent y x t e h k = ap (occurs y) (free_stays x t e h) ∙ k

module _ (s : List Binding) where
  -- an unbound variable on the left, or on the right
  pub bound_left : (x : Var) (l r : NominalTerm) → (l ≡ susp [] x) × IsUnbound s x → HasForm r → unless_occurs x (under s r) (under s r) ≡ rule (under s l) (under s r)
  bound_left x l r (e, h) f =
      sym (ap (λ t. rule t (under s r)) (free_stays s x l e h) ∙ rule_binds_left [] x (under s r) (form_under s r f) ∙ ap (unless_occurs x (under s r)) (act_term_none (under s r)))

  pub bound_right : (y : Var) (l r : NominalTerm) → HasForm l → (r ≡ susp [] y) × IsUnbound s y → unless_occurs y (under s l) (under s l) ≡ rule (under s l) (under s r)
  bound_right y l r f (e, h) =
      sym (ap (rule (under s l)) (free_stays s y r e h) ∙ rule_binds_right (under s l) [] y (form_under s l f) ∙ ap (unless_occurs y (under s l)) (act_term_none (under s l)))

  module _ (x y : Var) (l r : NominalTerm) (e : l ≡ susp [] x) (f : r ≡ susp [] y) (h : IsUnbound s x) (k : IsUnbound s y) where
    both_free : rule (susp [] x) (susp [] y) ≡ rule (under s l) (under s r)
    both_free = sym (ap₂ rule (free_stays s x l e h) (free_stays s y r f k))

    pub one_variable : x.num ≡ y.num → replace [] [] ≡ rule (under s l) (under s r)
    one_variable i =
        let v : var_eq x y ≡ true = grind (arith, nat_tests) in
        let m : replace [] [] ≡ rule (susp [] x) (susp [] y) = rw v refl in
        m ∙ both_free

    pub left_older : x.num < y.num → bind y (under s l) ≡ rule (under s l) (under s r)
    left_older i =
        let v : var_eq x y ≡ false = grind (arith, nat_tests) in
        let w : nat_lt x.num y.num ≡ true = grind (arith, nat_tests) in
        let m : bind y (susp [] x) ≡ rule (susp [] x) (susp [] y) = rw (v, w) refl in
        ap (bind y) (free_stays s x l e h) ∙ m ∙ both_free

    pub right_older : y.num < x.num → bind x (under s r) ≡ rule (under s l) (under s r)
    right_older i =
        let v : var_eq x y ≡ false = grind (arith, nat_tests) in
        let w : nat_lt x.num y.num ≡ false = grind (arith, nat_tests) in
        let m : bind x (susp [] y) ≡ rule (susp [] x) (susp [] y) = rw (v, w) refl in
        ap (bind x) (free_stays s y r f k) ∙ m ∙ both_free

-- a rule is carried out, whatever is behind
pub carried_drop : (s : List Binding) (q : Rule) → replace [] [] ≡ q → (es : List Equation) (ps : List Problem) → next (stage_under s es ps) ≡ apply_rule q (map (equation_under s) es) (map (problem_under s) ps) s
carried_drop s q e es ps = dropped s es ps ∙ ap (λ r. apply_rule r (map (equation_under s) es) (map (problem_under s) ps) s) e

pub carried_bind : (s r : List Binding) (x : Var) (v : NominalTerm) → IsUnbound s x → r ≡ bound_in x v s → (es : List Equation) (ps : List Problem)
    → next (stage_under r es ps) ≡ apply_rule (bind x v) (map (equation_under s) es) (map (problem_under s) ps) s
carried_bind s r x v u e es ps = rw e (ap next (sym (bind_in_under x v s u es ps)))

-- a variable is bound unless it occurs
pub clash_if_occurs : (x : Var) (t : NominalTerm) → occurs x t ≡ true → unless_occurs x t t ≡ clash
clash_if_occurs x t e = ap (λ v. if v then clash else bind x t) e

pub bind_if_absent : (x : Var) (t : NominalTerm) → occurs x t ≡ false → unless_occurs x t t ≡ bind x t
bind_if_absent x t e = ap (λ v. if v then clash else bind x t) e

-- a turn that puts nothing ahead
pub nothing_below : (q : PairReading) (n : ℕ) (t : Turn) (f : Ahead) → PutsNothing t → IsTurnBelow q n t f
nothing_below q n turns.Clash f h = tt
nothing_below q n turns.Done f h = tt
nothing_below q n turns.On f h = absurd h
nothing_below q n turns.Both f h = absurd h
nothing_below q n turns.Other f h = absurd h

pub nothing_marked : (s : List Binding) (t : Turn) (f : Ahead) → PutsNothing t → AreTurnMarksTrue s t f
nothing_marked s turns.Clash f h = tt
nothing_marked s turns.Done f h = tt
nothing_marked s turns.On f h = absurd h
nothing_marked s turns.Both f h = absurd h
nothing_marked s turns.Other f h = absurd h

-- what is not known to be ground
pub unmarked : (s : List Binding) (p : Plain) → p.is_ground ≡ false → IsMarkTrue s p
unmarked s p e = λ g. absurd (true≢false (sym g ∙ e))

-- a part of what is known to be ground is so too
module _ (s : List Binding) (p q : Plain) (m : q.is_ground ≡ p.is_ground) (h : IsMarkTrue s p) where
  pub first_mark : (t u : NominalTerm) → plain_term p ≡ pair t u → plain_term q ≡ t → IsMarkTrue s q
  first_mark t u e f = λ g y.
      ap (λ v. occurs y (under s v)) f ∙ (or_false (occurs y (under s t)) (occurs y (under s u)) (sym (ap (λ v. occurs y (under s v)) e) ∙ h (sym m ∙ g) y)).0

  pub second_mark : (t u : NominalTerm) → plain_term p ≡ pair t u → plain_term q ≡ u → IsMarkTrue s q
  second_mark t u e f = λ g y.
      ap (λ v. occurs y (under s v)) f ∙ (or_false (occurs y (under s t)) (occurs y (under s u)) (sym (ap (λ v. occurs y (under s v)) e) ∙ h (sym m ∙ g) y)).1

  pub app_mark : (n : ℕ) (t : NominalTerm) → plain_term p ≡ app n t → plain_term q ≡ t → IsMarkTrue s q
  app_mark n t e f = λ g y. ap (λ v. occurs y (under s v)) f ∙ sym (ap (λ v. occurs y (under s v)) e) ∙ h (sym m ∙ g) y

  pub abs_mark : (a : Name) (t : NominalTerm) → plain_term p ≡ abs a t → plain_term q ≡ t → IsMarkTrue s q
  abs_mark a t e f = λ g y. ap (λ v. occurs y (under s v)) f ∙ sym (ap (λ v. occurs y (under s v)) e) ∙ h (sym m ∙ g) y

-- an equation of closures is put in front
module _ (es fs : List ClosurePair) (e : ClosurePair) (q : Equation) (i : pair_equation e ≡ q) (h : fs ≡ es ++ e ∷ []) where
  pub put_front : map pair_equation (reverse fs) ≡ q ∷ map pair_equation (reverse es)
  put_front = ap (λ gs. map pair_equation (reverse gs)) h ∙ put_last es e ∙ ap (λ r. r ∷ map pair_equation (reverse es)) i

  pub put_below : (n : ℕ) → IsPairBelow n e → ArePairsBelow n es → ArePairsBelow n fs
  put_below n k m = subst (ArePairsBelow n) (sym h) (pairs_below-append n es (e ∷ []) m (k, tt))
