-- Equations of suspensions that were solved stay so, and nothing is left of them.
use Rattle.std.proofs.Common.{◌≡◌, ◌==◌, ◌&&◌, ◌<◌, ◌≤◌, ◌+◌, Bool, true, ℕ, zero, suc, List, [], ◌∷◌, ◌++◌, get_or, inr, length, map, refl, reverse, sym, subst, ap, ◌∙◌, ◌↔◌, arith}
use Rattle.std.proofs.lemmas.Bool.Decides.{Decides-eqb}
use Rattle.std.proofs.lemmas.List.{length-map, length-reverse}
use Rattle.std.specs.Prelude.{Some, slice_get, slice_set}
use Rattle.ap_defs.specs.Canonical.{canonical}
use Rattle.ap_defs.specs.Freshness.{Conds}
use Rattle.ap_defs.specs.Permutations.{inverse}
use Rattle.ap_defs.specs.SameTerm.{SameTerm}
use Rattle.ap_defs.specs.Substitution.{Binding, Equation, Problem, under, ◌#◌, ◌≐◌}
use Rattle.ap_defs.specs.Terms.{NominalTerm, act_term, susp}
use Rattle.ap_defs.specs.Unification.{Progress, Stage, done, failed, next, reduce_all}
use Rattle.ap_defs.specs.declared.terms.Swap.{Swap}
use Rattle.ap_theory.proofs.BooleanLemmas.{and_left, and_right}
use Rattle.ap_theory.proofs.CanonicalLemmas.{canonical_act}
use Rattle.ap_theory.proofs.EqualityLemmas.{Equal_move, Equal_same}
use Rattle.ap_theory.proofs.IdempotenceLemmas.{under_under}
use Rattle.ap_theory.proofs.LogicLemmas.{iff_same, iff_trans}
use Rattle.ap_theory.proofs.MostGeneralLemmas.{under_Agrees}
use Rattle.ap_theory.proofs.SolvingLemmas.{Equal_both}
use Rattle.ap_theory.proofs.SameTermLemmas.{act_same, same_itself, same_sym}
use Rattle.ap_theory.proofs.SubstitutionLemmas.{applied_act}
use Rattle.ap_theory.proofs.TermLemmas.{act_term-append}
use Rattle.ap_theory.specs.Contexts.{Equal, listed_context}
use Rattle.ap_theory.specs.StatementsOnConditions.{collected}
use Rattle.ap_theory.specs.Substitutions.{Equates, Substitution, applied}
use Rattle.ap_theory.specs.Variables.{IsIdempotent}
use Rattle.ap_rules.specs.Runs.{equation_under, problem_under, stage_under}
use Rattle.ap_rules.specs.Work.{pair_equation, work_stage}
use Rattle.ap_rules.specs.declared.pairs.Work.{Work}
use Rattle.ap_unify.proofs.AlikeLemmas.{alike_itself, under_none}
use Rattle.ap_unify.proofs.SoundLemmas.{awaited_follows, awaits_on, follows_on, front_first}
use Rattle.ap_unify.specs.Needless.{Follows, all_but_last}
use Rattle.ap_unify.specs.Parts.{LeadsTo}
use Rattle.ap_unify.specs.Solved.{AllAwaited, AllKnown, AreSolved, AreSolvedAfter, IsAwaited, IsSolvedIn, IsSolvedBefore, put_there, suspensions_equation}
use Rattle.ap_unify.specs.declared.solved.Awaited.{Awaited}
use Rattle.ap_unify.specs.declared.solved.Solved.{Solved}
use Rattle.ap_unify.specs.declared.solved.Suspensions.{Suspensions}

abbrev one_swapping : Swap → Swap → Bool
one_swapping s r = (s.sort == r.sort) && ((s.left == r.left) && (s.right == r.right))

swapping_parts : (s r : Swap) → s.sort ≡ r.sort → s.left ≡ r.left → s.right ≡ r.right → s ≡ r
swapping_parts s r d e f = λ i. record { sort = d i; left = e i; right = f i }

told_one : (s r : Swap) → one_swapping s r ≡ true → s ≡ r
told_one s r h =
    let k = and_right (s.sort == r.sort) ((s.left == r.left) && (s.right == r.right)) h in
    swapping_parts s r ((Decides-eqb s.sort r.sort).0 (and_left (s.sort == r.sort) ((s.left == r.left) && (s.right == r.right)) h))
    ((Decides-eqb s.left r.left).0 (and_left (s.left == r.left) (s.right == r.right) k)) ((Decides-eqb s.right r.right).0 (and_right (s.left == r.left) (s.right == r.right) k))

one_itself : (s : Swap) → one_swapping s s ≡ true
one_itself s = rw ((Decides-eqb s.sort s.sort).1 refl, (Decides-eqb s.left s.left).1 refl) ((Decides-eqb s.right s.right).1 refl)

pub swap_decides : (s r : Swap) → (one_swapping s r ≡ true → s ≡ r) × (s ≡ r → one_swapping s r ≡ true)
swap_decides s r = (told_one s r, λ e. subst (λ t. one_swapping s t ≡ true) e (one_itself s))

module _ (a b : Stage) (h : LeadsTo a (next b)) where
  known_on : (es : List Suspensions) → AllKnown a es → AllKnown b es
  known_on [] k = tt
  known_on (e ∷ es) k = (follows_on a b h (susp [] e.x) (act_term e.swaps.items (susp [] e.y)) k.0, known_on es k.1)

  awaited_on : (as' : List Awaited) → AllAwaited a as' → AllAwaited b as'
  awaited_on [] k = tt
  awaited_on (e ∷ as') k = (awaits_on a b h e.behind (susp [] e.pair.x) (act_term e.pair.swaps.items (susp [] e.pair.y)) k.0, awaited_on as' k.1)

-- what is solved stays so in more steps
pub solved_on : (a : Stage) (p : Progress) → LeadsTo a p → (k : Solved) → AreSolved a k → AreSolvedAfter p k
solved_on a done h k s = tt
solved_on a failed h k s = tt
solved_on a (next b) h k s = (known_on a b h k.known.items s.0, awaited_on a b h k.awaited.items s.1)

-- Swappings that wait on both sides, and what is between them.
module _ (p q : List Swap) (t u : NominalTerm) where
  between_sides : (ds : Conds) (s : Substitution) → Equal (listed_context ds) (applied s (act_term p t)) (applied s (act_term q u)) ↔ Equal (listed_context ds) (applied s t) (applied s (act_term (canonical (inverse p ++ q)) u))
  between_sides ds s =
      let d = listed_context ds in
      let v = applied s t in
      let w = applied s u in
      let c = canonical (inverse p ++ q) in
      let same : SameTerm (act_term (inverse p) (act_term q w)) (act_term c w) =
      subst (λ (z : NominalTerm). SameTerm z (act_term c w)) (act_term-append (inverse p) q w) (same_sym (act_same c (inverse p ++ q) (canonical_act (inverse p ++ q)) (same_itself w))) in
      iff_trans (iff_same (λ (z : NominalTerm). Equal d z (applied s (act_term q u))) (applied_act s p t))
      (iff_trans (iff_same (λ (z : NominalTerm). Equal d (act_term p v) z) (applied_act s q u))
      (iff_trans (Equal_move d p v (act_term q w))
      (iff_trans ((λ h. Equal_same d v same h), (λ h. Equal_same d v (same_sym same) h)) (iff_same (λ (z : NominalTerm). Equal d v z) (sym (applied_act s c u))))))

  pub known_between : (r : Stage) (qs : List Swap) → qs ≡ canonical (inverse p ++ q) → IsSolvedIn r (t ≐ act_term qs u) → IsSolvedIn r (act_term p t ≐ act_term q u)
  known_between r qs e h = λ ds s a f. (between_sides ds s).1 (subst (λ z. Equal (listed_context ds) (applied s t) (applied s (act_term z u))) e (h ds s a f))

  pub awaited_between : (r : Stage) (j : ℕ) (qs : List Swap) → qs ≡ canonical (inverse p ++ q) → IsSolvedBefore r j (act_term p t ≐ act_term q u) → IsSolvedBefore r j (t ≐ act_term qs u)
  awaited_between r j qs e h = λ ds s a f g. subst (λ z. Equal (listed_context ds) (applied s t) (applied s (act_term z u))) (sym e) ((between_sides ds s).0 (h ds s a f g))

module _ (r : Stage) where
  pub known_at : (es : List Suspensions) (i : ℕ) (d : Suspensions) → i < length es → AllKnown r es → IsSolvedIn r (suspensions_equation (get_or es i d))
  known_at [] i d l h = absurd (omega arith)
  known_at (e ∷ es) zero d l h = h.0
  known_at (e ∷ es) (suc i) d l h = known_at es i d (omega arith) h.1

  known_more : (es : List Suspensions) (e : Suspensions) → AllKnown r es → IsSolvedIn r (suspensions_equation e) → AllKnown r (es ++ e ∷ [])
  known_more [] e h k = (k, tt)
  known_more (f ∷ es) e h k = (h.0, known_more es e h.1 k)

  awaited_more : (as' : List Awaited) (a : Awaited) → AllAwaited r as' → IsAwaited r a → AllAwaited r (as' ++ a ∷ [])
  awaited_more [] a h k = (k, tt)
  awaited_more (b ∷ as') a h k = (h.0, awaited_more as' a h.1 k)

  awaited_last : (as' : List Awaited) (a : Awaited) → AllAwaited r (as' ++ a ∷ []) → AllAwaited r as' × IsAwaited r a
  awaited_last [] a h = (tt, h.0)
  awaited_last (b ∷ as') a h = let k = awaited_last as' a h.1 in ((h.0, k.0), k.1)

  known_put : (es : List Suspensions) (i : ℕ) (e : Suspensions) → AllKnown r es → IsSolvedIn r (suspensions_equation e) → AllKnown r (put_there es i e)
  known_put [] zero e h k = (k, tt)
  known_put [] (suc i) e h k = (k, tt)
  known_put (f ∷ es) zero e h k = (k, h.1)
  known_put (f ∷ es) (suc i) e h k = (h.0, known_put es i e h.1 k)

  -- the last one that is awaited is known once no more equations are left than were behind it
  pub last_known : (k m : Solved) (i : ℕ) (a : Awaited) → length r.equations ≤ a.behind → k.awaited.items ≡ m.awaited.items ++ a ∷ []
      → m.known.items ≡ put_there k.known.items i a.pair → AreSolved r k → AreSolved r m
  last_known k m i a l e f h =
      let s = awaited_last m.awaited.items a (subst (AllAwaited r) e h.1) in
      let t = susp [] a.pair.x in
      let u = act_term a.pair.swaps.items (susp [] a.pair.y) in
      (subst (AllKnown r) (sym f) (known_put k.known.items i a.pair h.0 (awaited_follows r a.behind t u l s.1)), s.0)

  -- one more is awaited
  pub one_awaited : (as' bs : List Awaited) (a : Awaited) → bs ≡ as' ++ a ∷ [] → AllAwaited r as' → IsAwaited r a → AllAwaited r bs
  one_awaited as' bs a e h i = subst (AllAwaited r) (sym e) (awaited_more as' a h i)

-- suspensions at a place, and behind the others
pub set_there : (es : List Suspensions) (i : ℕ) (e : Suspensions) → i < length es → slice_set es i e ≡ put_there es i e
set_there [] i e l = absurd (omega arith)
set_there (f ∷ es) zero e l = refl
set_there (f ∷ es) (suc i) e l = ap (λ (zs : List Suspensions). f ∷ zs) (set_there es i e (omega arith))

pub behind_there : (es : List Suspensions) (i : ℕ) (e : Suspensions) → length es ≤ i → es ++ e ∷ [] ≡ put_there es i e
behind_there [] zero e l = refl
behind_there [] (suc i) e l = refl
behind_there (f ∷ es) zero e l = absurd (omega arith)
behind_there (f ∷ es) (suc i) e l = ap (λ (zs : List Suspensions). f ∷ zs) (behind_there es i e (omega arith))

pub set_stands : (es : List Suspensions) (i : ℕ) (e : Suspensions) → i < length es → slice_get (slice_set es i e) i ≡ Some e
set_stands [] i e l = absurd (omega arith)
set_stands (f ∷ es) zero e l = refl
set_stands (f ∷ es) (suc i) e l = set_stands es i e (omega arith)

pub set_length : (es : List Suspensions) (i : ℕ) (e : Suspensions) → length (slice_set es i e) ≡ length es
set_length [] zero e = refl
set_length [] (suc i) e = refl
set_length (f ∷ es) zero e = refl
set_length (f ∷ es) (suc i) e = ap suc (set_length es i e)

pub behind_stands : (es : List Suspensions) (e : Suspensions) → slice_get (es ++ e ∷ []) (length es) ≡ Some e
behind_stands [] e = refl
behind_stands (f ∷ es) e = behind_stands es e

module _ (s : List Binding) where
  -- the equation in front is solved once those before the ones behind it are
  pub solved_before : (e : Equation) (es : List Equation) (ps : List Problem) (j : ℕ) → j ≤ length es → IsSolvedBefore (stage_under s (e ∷ es) ps) j e
  solved_before (t ≐ u) es ps j l = λ ds r g f h.
      let d = listed_context ds in
      let fs = map (equation_under s) es in
      let q = under s t ≐ under s u in
      let k : all_but_last j (q ∷ fs) ≡ q ∷ all_but_last j fs = front_first j q fs (subst (λ n. j ≤ n) (sym (length-map es (equation_under s))) l) in
      let i : Equates d r (q ∷ all_but_last j fs) = subst (Equates d r) k h in
      (Equal_both d r (applied r t) (applied r (under s t)) (applied r u) (applied r (under s u)) (under_Agrees d r s g t) (under_Agrees d r s g u)).1 i.0

  problems_set : (idempotent : IsIdempotent s) (ps : List Problem) → reduce_all s (map (problem_under s) ps) ≡ reduce_all [] (map (problem_under s) ps)
  problems_set i [] = refl
  problems_set i ((a # t) ∷ ps) = rw (under_under s i t, under_none (under s t), problems_set i ps) refl

  -- nothing is left of an equation that is solved
  pub solved_way : IsIdempotent s → (e : Equation) (es : List Equation) (ps : List Problem) → IsSolvedIn (stage_under s (e ∷ es) ps) e
      → LeadsTo (stage_under s (e ∷ es) ps) (next (stage_under s es ps))
  solved_way i (t ≐ u) es ps h =
      let under_follows : Follows s (map (problem_under s) ps) (under s t) (under s u) = λ ds r g f.
      let d = listed_context ds in
      (Equal_both d r (applied r t) (applied r (under s t)) (applied r u) (applied r (under s u)) (under_Agrees d r s g t) (under_Agrees d r s g u)).0 (h ds r g f) in
      (0, next (stage_under s es ps), inr (refl, (under_follows, i, under_under s i t, under_under s i u, ap collected (problems_set i ps))), alike_itself (next (stage_under s es ps)))

pub stage_length : (s : List Binding) (w : Work) → length (work_stage s w).equations ≡ length w.equations.items
stage_length s w =
    length-map (map pair_equation (reverse w.equations.items)) (equation_under s) ∙ length-map (reverse w.equations.items) pair_equation ∙ length-reverse w.equations.items
