-- The work that is left, where equations and problems are put to it.
use Rattle.std.proofs.Common.{subst, ◌≡◌, ◌<◌, ℕ, zero, suc, arith, List, [], ◌∷◌, ◌++◌, drop, get_or, length, map, refl, reverse, sym, ap, ap₂, ◌∙◌, append_assoc}
use Rattle.std.proofs.lemmas.List.{append-nil, length-map, reverse-append}
use Rattle.std.specs.Prelude.{filter, IfOk, Result, Ok, Err}
use Rattle.ap_defs.specs.Freshness.{has_cond}
use Rattle.ap_defs.specs.Renaming.{AreBelow, IsBelow, rename_term}
use Rattle.ap_defs.specs.Substitution.{Binding, Equation, Problem, moved, put, put_binding, under, ◌#◌, ◌:=◌}
use Rattle.ap_defs.specs.Terms.{NominalTerm, term_of}
use Rattle.ap_defs.specs.Unification.{Progress, Rule, apply_rule, bind, fresh_for, next, replace}
use Rattle.ap_defs.specs.declared.terms.Name.{Name}
use Rattle.ap_defs.specs.declared.terms.Term.{Term}
use Rattle.ap_defs.specs.declared.terms.Var.{Var}
use Rattle.ap_perm.specs.Closures.{opened_term}
use Rattle.ap_perm.specs.declared.closures.Opened.{Opened}
use Rattle.ap_perm.specs.declared.closures.Opened.TheVariants as parts
use Rattle.ap_store.specs.Heads.{IsHeadUnbound}
use Rattle.ap_store.specs.Marks.{HasNoVars}
use Rattle.ap_store.specs.Triples.{IsPrefixOf, Triple, is_on, with_binding}
use Rattle.ap_theory.proofs.IdempotenceLemmas.{bound_term_unbound}
use Rattle.ap_theory.proofs.SubstitutionLemmas.{put_absent}
use Rattle.ap_theory.specs.Variables.{IsUnbound}
use Rattle.ap_rules.proofs.TakenLemmas.{taken_more}
use Rattle.ap_rules.proofs.RunLemmas.{bind_in_under, names_under, replaced, under_bind}
use Rattle.ap_rules.specs.Runs.{equation_under, problem_under, stage_under}
use Rattle.ap_rules.specs.Work.{ArePairsBelow, GoOn, IsPairBelow, opened_under, pair_equation, pair_under, problem_for}
use Rattle.ap_rules.specs.declared.pairs.ClosurePair.{ClosurePair}
use Rattle.ap_rules.specs.declared.pairs.FreshFor.{FreshFor}
use Rattle.ap_rules.specs.declared.pairs.Work.{Work}

-- a closure whose head is unbound, seen under the bindings
pub opened_as : (s : List Binding) (o : Opened) → IsHeadUnbound s (opened_term o) → under s (opened_term o) ≡ opened_under s o
opened_as s parts.Unit h = refl
opened_as s (parts.Name a) h = refl
opened_as s (parts.Pair c d) h = refl
opened_as s (parts.App f c) h = refl
opened_as s (parts.Abs a c) h = refl
opened_as s (parts.Susp p x) h = ap (moved p.items x) (bound_term_unbound s x h)

-- equations that are put at the end come first
pub put_last : (es : List ClosurePair) (e : ClosurePair) → map pair_equation (reverse (es ++ e ∷ [])) ≡ pair_equation e ∷ map pair_equation (reverse es)
put_last es e = ap (map pair_equation) (reverse-append es (e ∷ []))

pub put_both : (es : List ClosurePair) (e f : ClosurePair) → map pair_equation (reverse (es ++ f ∷ e ∷ [])) ≡ pair_equation e ∷ pair_equation f ∷ map pair_equation (reverse es)
put_both es e f = ap (map pair_equation) (reverse-append es (f ∷ e ∷ []))

module _ (n : ℕ) where
  pub pairs_below-append : (es fs : List ClosurePair) → ArePairsBelow n es → ArePairsBelow n fs → ArePairsBelow n (es ++ fs)
  pairs_below-append [] fs h k = k
  pairs_below-append (e ∷ es) fs h k = (h.0, pairs_below-append es fs h.1 k)

  pub pairs_below_front : (es fs : List ClosurePair) → ArePairsBelow n (es ++ fs) → ArePairsBelow n es
  pairs_below_front [] fs h = tt
  pairs_below_front (e ∷ es) fs h = (h.0, pairs_below_front es fs h.1)

  pub pairs_below_last : (es : List ClosurePair) (e : ClosurePair) → ArePairsBelow n (es ++ e ∷ []) → IsPairBelow n e
  pairs_below_last [] e h = h.0
  pairs_below_last (f ∷ es) e h = pairs_below_last es e h.1

-- What is known of a closure that was taken apart.
module _ (o : Opened) (t : NominalTerm) (e : opened_term o ≡ t) where
  pub opened_meets : (s : List Binding) → IsHeadUnbound s t → under s t ≡ opened_under s o
  opened_meets s h = ap (under s) (sym e) ∙ opened_as s o (subst (IsHeadUnbound s) (sym e) h)

  pub opened_head : (s : List Binding) → IsHeadUnbound s t → IsHeadUnbound s (opened_term o)
  opened_head s h = subst (IsHeadUnbound s) (sym e) h

  pub opened_below : (n : ℕ) → IsBelow n t → IsBelow n (opened_term o)
  opened_below n h = subst (IsBelow n) (sym e) h

-- What is carried out of a move, where it changes no binding.
module _ (s : List Binding) (es fs : List ClosurePair) (ps qs : List FreshFor) where
  abbrev stage_after : Progress
  stage_after = next (stage_under s (map pair_equation (reverse fs)) (map problem_for qs))

  abbrev by_rule : Rule → Progress
  by_rule r = apply_rule r (map (equation_under s) (map pair_equation (reverse es))) (map (problem_under s) (map problem_for ps)) s

  with_replaced : (new : List Equation) (more : List Problem) → map pair_equation (reverse fs) ≡ new ++ map pair_equation (reverse es) → map problem_for qs ≡ map problem_for ps ++ more
      → stage_after ≡ by_rule (replace (map (equation_under s) new) (map (problem_under s) more))
  with_replaced new more h k = ap₂ (λ gs rs. next (stage_under s gs rs)) h k ∙ replaced s (map pair_equation (reverse es)) (map problem_for ps) new more

  same_problems : qs ≡ ps → map problem_for qs ≡ map problem_for ps ++ []
  same_problems h = ap (map problem_for) h ∙ sym (append-nil (map problem_for ps))

  pub carried_one : (e : ClosurePair) → fs ≡ es ++ e ∷ [] → qs ≡ ps → stage_after ≡ by_rule (replace (pair_under s e ∷ []) [])
  carried_one e h k = with_replaced (pair_equation e ∷ []) [] (ap (λ gs. map pair_equation (reverse gs)) h ∙ put_last es e) (same_problems k)

  pub carried_two : (e f : ClosurePair) → fs ≡ es ++ f ∷ e ∷ [] → qs ≡ ps → stage_after ≡ by_rule (replace (pair_under s e ∷ pair_under s f ∷ []) [])
  carried_two e f h k = with_replaced (pair_equation e ∷ pair_equation f ∷ []) [] (ap (λ gs. map pair_equation (reverse gs)) h ∙ put_both es e f) (same_problems k)

  pub carried_swapped : (e : ClosurePair) (a : Name) (t : NominalTerm) → fs ≡ es ++ e ∷ [] → map problem_for qs ≡ map problem_for ps ++ (a # t) ∷ []
      → stage_after ≡ by_rule (replace (pair_under s e ∷ []) ((a # under s t) ∷ []))
  carried_swapped e a t h k = with_replaced (pair_equation e ∷ []) ((a # t) ∷ []) (ap (λ gs. map pair_equation (reverse gs)) h ∙ put_last es e) k

  pub carried_names : (x : Var) (as' : List Name) → IsUnbound s x → fs ≡ es → map problem_for qs ≡ map problem_for ps ++ map (fresh_for x) as'
      → stage_after ≡ by_rule (replace [] (map (fresh_for x) as'))
  carried_names x as' u h k =
      with_replaced [] (map (fresh_for x) as') (ap (λ gs. map pair_equation (reverse gs)) h) k
      ∙ ap (λ rs. by_rule (replace [] rs)) (names_under s x u as')

-- A variable is bound.
pub carried_bound : (s r : List Binding) (x : Var) (v : NominalTerm) (es fs : List ClosurePair) (ps qs : List FreshFor) → IsUnbound s x → r ≡ (x := v) ∷ map (put_binding x v) s → fs ≡ es → qs ≡ ps
    → next (stage_under r (map pair_equation (reverse fs)) (map problem_for qs)) ≡ apply_rule (bind x v) (map (equation_under s) (map pair_equation (reverse es))) (map (problem_under s) (map problem_for ps)) s
carried_bound s r x v es fs ps qs u e h k =
    rw (e, h, k) (ap next (sym (bind_in_under x v s u (map pair_equation (reverse es)) (map problem_for ps))))

-- How triples and work go on.
pub go_same : (a : Triple) (w v : Work) → (ArePairsBelow a.next w.equations.items → ArePairsBelow a.next v.equations.items) → v.taken.items ≡ w.taken.items → GoOn a w a v
go_same a w v h e = record { next = refl; pairs = h; conditions = λ ds k c. k c ∙ ap (λ ts. has_cond c (a.conditions ++ ts)) (sym e); no_vars = λ t k. k; same = λ t u k. k }

-- no binding brings a variable where none is left
no_vars_stay : (bs : List Binding) (x : Var) (v : NominalTerm) → IsUnbound bs x → (t : NominalTerm) → HasNoVars (under bs t) → HasNoVars (under ((x := v) ∷ map (put_binding x v) bs) t)
no_vars_stay bs x v u t h = subst HasNoVars (sym (under_bind x v bs u t ∙ put_absent x v (under bs t) (h x))) h

-- what stands for one term does so once a variable is bound
same_stay : (bs : List Binding) (x : Var) (v : NominalTerm) → IsUnbound bs x → (t u : NominalTerm) → under bs t ≡ under bs u → under ((x := v) ∷ map (put_binding x v) bs) t ≡ under ((x := v) ∷ map (put_binding x v) bs) u
same_stay bs x v i t u h = under_bind x v bs i t ∙ ap (put x v) h ∙ sym (under_bind x v bs i u)

pub go_bound : (a b : Triple) (w v : Work) (x : Var) (t : NominalTerm) → IsUnbound a.bindings x → b ≡ with_binding x t a → v.equations.items ≡ w.equations.items
    → v.taken.items ≡ w.taken.items ++ filter (is_on x) a.conditions → GoOn a w b v
go_bound a b w v x t i e h k = record {
  next = ap (λ (c : Triple). c.next) e;
  pairs = λ p. subst (ArePairsBelow a.next) (sym h) p;
  conditions = λ ds m c.
      taken_more ds a.conditions w.taken.items x m c
      ∙ ap₂ (λ cs ts. has_cond c (cs ++ ts)) (sym (ap (λ (d : Triple). d.conditions) e)) (sym k);
  no_vars = λ u m. subst (λ (d : Triple). HasNoVars (under d.bindings u)) (sym e) (no_vars_stay a.bindings x t i u m);
  same = λ l m q. subst (λ (d : Triple). under d.bindings l ≡ under d.bindings m) (sym e) (same_stay a.bindings x t i l m q);
}

pub go_on_on : (a b c : Triple) (u v w : Work) → GoOn a u b v → GoOn b v c w → GoOn a u c w
go_on_on a b c u v w h k = record {
  next = k.next ∙ h.next;
  pairs = λ p. subst (λ n. ArePairsBelow n w.equations.items) h.next (k.pairs (subst (λ n. ArePairsBelow n v.equations.items) (sym h.next) (h.pairs p)));
  conditions = λ ds p. k.conditions ds (h.conditions ds p);
  no_vars = λ t p. k.no_vars t (h.no_vars t p);
  same = λ t l p. k.same t l (h.same t l p);
}

pub goes_on_on : (as' bs cs : List Triple) → IsPrefixOf as' bs → IsPrefixOf bs cs → IsPrefixOf as' cs
goes_on_on as' bs cs (es, e) (fs, f) = (es ++ fs, f ∙ ap (λ z. z ++ fs) e ∙ append_assoc as' es fs)

-- the first of the later terms is below
below_dropped : (n i : ℕ) (ts : List NominalTerm) → AreBelow n ts → AreBelow n (drop i ts)
below_dropped n zero ts h = h
below_dropped n (suc i) [] h = tt
below_dropped n (suc i) (t ∷ ts) h = below_dropped n i ts h.1

pub below_first : (n i : ℕ) (ts : List NominalTerm) (t : NominalTerm) (us : List NominalTerm) → AreBelow n ts → drop i ts ≡ t ∷ us → IsBelow n t
below_first n i ts t us h e = let k : AreBelow n (t ∷ us) = subst (AreBelow n) e (below_dropped n i ts h) in k.0

-- what follows from a fact about the value of a success
pub if_ok : {T E : Type 0} (r : Result T E) {P Q : T → Type 0} → ((x : T) → P x → Q x) → IfOk r P → IfOk r Q
if_ok (Ok x) f h = f x h
if_ok (Err e) f h = h

-- terms of a list that is shared
pub terms_length : (base : ℕ) (ts : List Term) → length (map (rename_term base) (map term_of ts)) ≡ length ts
terms_length base ts = length-map (map term_of ts) (rename_term base) ∙ length-map ts term_of

pub term_below_at : (n base : ℕ) (ts : List Term) (j : ℕ) (d : Term) → j < length ts → AreBelow n (map (rename_term base) (map term_of ts)) → IsBelow n (rename_term base (term_of (get_or ts j d)))
term_below_at n base [] j d l h = absurd (omega arith)
term_below_at n base (u ∷ ts) zero d l h = h.0
term_below_at n base (u ∷ ts) (suc j) d l h = term_below_at n base ts j d (omega arith) h.1

pub term_at_place : (base : ℕ) (ts : List Term) (j : ℕ) (d : Term) → j < length ts → rename_term base (term_of (get_or ts j d)) ≡ get_or (map (rename_term base) (map term_of ts)) j (rename_term base (term_of d))
term_at_place base [] j d l = absurd (omega arith)
term_at_place base (u ∷ ts) zero d l = refl
term_at_place base (u ∷ ts) (suc j) d l = term_at_place base ts j d (omega arith)
