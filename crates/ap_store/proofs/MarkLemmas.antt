-- Marked variables stand for terms without variables, as changes are made and undone.
use Rattle.std.proofs.Common.{◌≡◌, ℕ, Bool, true, false, true≢false, List, [], ◌∷◌, ◌++◌, refl, sym, ap, ◌∙◌, subst}
use Rattle.std.specs.Prelude.{◌==◌, if◌then◌else◌, Some, None, is_some}
use Rattle.ap_defs.specs.Freshness.{var_eq}
use Rattle.ap_defs.specs.Substitution.{Binding, under, ◌:=◌}
use Rattle.ap_defs.specs.Terms.{NominalTerm, act_term, susp}
use Rattle.ap_defs.specs.declared.terms.Swap.{Swap}
use Rattle.ap_defs.specs.declared.terms.Var.{Var}
use Rattle.ap_perm.specs.Lookups as lookups
use Rattle.ap_theory.proofs.SubstitutionLemmas.{put_absent}
use Rattle.ap_theory.proofs.TermLemmas.{number_same, occurs_act, same_number, var_eq_flip}
use Rattle.ap_store.proofs.BindLemmas.{under_bind}
use Rattle.ap_store.proofs.StoredLemmas.{looked_up}
use Rattle.ap_store.proofs.TableLemmas.{marked_is_bound}
use Rattle.ap_store.specs.Changes.{AreChanges, Change, IsChange, Made, Bound, Added, Taken, after, empty, present_after}
use Rattle.ap_store.specs.Marks.{AreGroundMarks, HasNoVars, IsGroundMark, ground_in}
use Rattle.ap_store.specs.Slots.{noted_change}
use Rattle.ap_store.specs.Trails.{nothing_bound, raw_after, raw_step}
use Rattle.ap_store.specs.Triples.{Triple}
use Rattle.ap_store.specs.Views.{bindings_of, changes}
use Rattle.ap_store.specs.declared.changes.Noted.{Noted}
use Rattle.ap_store.specs.declared.changes.Noted.TheVariants as notes
use Rattle.ap_store.specs.declared.slots.Slot.{Slot}
use Rattle.ap_store.specs.declared.store.Store.{Store}

pub no_vars_act : (p : List Swap) (t : NominalTerm) → HasNoVars t → HasNoVars (act_term p t)
no_vars_act p t h = λ y. occurs_act y p t ∙ h y

-- no change brings a variable where none is left
no_vars_stay : (c : Change) (a : Triple) → IsChange c a → (t : NominalTerm) → HasNoVars (under a.bindings t) → HasNoVars (under (after c a).bindings t)
no_vars_stay (Made n) a i t h = h
no_vars_stay (Bound x u) a i t h =
    let v = under a.bindings u in
    subst HasNoVars (sym (under_bind x v a.bindings i.1 t ∙ put_absent x v (under a.bindings t) (h x))) h
no_vars_stay (Added d) a i t h = h
no_vars_stay (Taken x ds) a i t h = h

pub bound_here : (x y : Var) (v : NominalTerm) (bs : List Binding) → var_eq x y ≡ true → under ((y := v) ∷ bs) (susp [] x) ≡ act_term [] v
bound_here x y v bs e = rw e refl

module _ (m : ℕ → Bool) (x : Var) (e : m x.num ≡ true) where
  one_stands : (c : Change) (b : lookups.Bound) (a : Triple) → IsChange c a → IsGroundMark m c a → (is_some (b x) ≡ true → HasNoVars (under a.bindings (susp [] x)))
      → is_some (raw_step c b x) ≡ true → HasNoVars (under (after c a).bindings (susp [] x))
  one_stands (Made n) b a i h f k = f k
  one_stands (Bound y t) b a i h f k =
      (elim (var_eq x y) as (λ v. var_eq x y ≡ v → is_some (if v then Some t else b x) ≡ true → HasNoVars (under (after (Bound y t) a).bindings (susp [] x))) [
        | true ↦ λ g l. subst HasNoVars (sym (bound_here x y (under a.bindings t) _ g)) (no_vars_act [] (under a.bindings t) (h (ap m (sym (number_same x.num y.num g)) ∙ e)))
        | false ↦ λ g l. no_vars_stay (Bound y t) a i (susp [] x) (f l)
      ] refl) k
  one_stands (Added d) b a i h f k = f k
  one_stands (Taken y ds) b a i h f k = f k

  all_stand : (cs : List Change) (b : lookups.Bound) (a : Triple) → AreChanges cs a → AreGroundMarks m cs a → (is_some (b x) ≡ true → HasNoVars (under a.bindings (susp [] x)))
      → is_some (raw_after cs b x) ≡ true → HasNoVars (under (present_after cs a).bindings (susp [] x))
  all_stand [] b a i h f k = f k
  all_stand (c ∷ cs) b a i h f k = all_stand cs (raw_step c b) (after c a) i.1 h.1 (one_stands c b a i.0 h.0 f) k

pub marked_stands : (s : Store) (x : Var) → ground_in s.table.items x.num ≡ true → HasNoVars (under (bindings_of s) (susp [] x))
marked_stands s x e =
    all_stand (ground_in s.table.items) x e (changes s) nothing_bound empty s.stored.0 s.marked (λ k. absurd (true≢false (sym k)))
    (ap is_some (looked_up s.table.items s.trail.items s.noted.items s.reach s.stored x) ∙ marked_is_bound s.table.items x.num e)

-- One more change, or one less.
marks_more : (m : ℕ → Bool) (cs : List Change) (c : Change) (a : Triple) → AreGroundMarks m cs a → IsGroundMark m c (present_after cs a) → AreGroundMarks m (cs ++ c ∷ []) a
marks_more m [] c a h k = (k, tt)
marks_more m (d ∷ cs) c a h k = (h.0, marks_more m cs c (after d a) h.1 k)

marks_less : (m : ℕ → Bool) (cs : List Change) (c : Change) (a : Triple) → AreGroundMarks m (cs ++ c ∷ []) a → AreGroundMarks m cs a
marks_less m [] c a h = tt
marks_less m (d ∷ cs) c a h = (h.0, marks_less m cs c (after d a) h.1)

-- a variable that is unbound after changes was so before
unbound_before : (c : Change) (b : lookups.Bound) (x : Var) → raw_step c b x ≡ None → b x ≡ None
unbound_before (Made n) b x h = h
unbound_before (Bound y t) b x h =
    (elim (var_eq x y) as (λ v. (if v then Some t else b x) ≡ None → b x ≡ None) [ true ↦ λ k. absurd (true≢false (ap is_some k)) | false ↦ λ k. k ]) h
unbound_before (Added d) b x h = h
unbound_before (Taken y ds) b x h = h

pub unbound_first : (cs : List Change) (b : lookups.Bound) (x : Var) → raw_after cs b x ≡ None → b x ≡ None
unbound_first [] b x h = h
unbound_first (c ∷ cs) b x h = unbound_before c b x (unbound_first cs (raw_step c b) x h)

-- Other marks: of numbers that the changes do not bind they may be any.
module _ (m n : ℕ → Bool) (x : Var) (same : (i : ℕ) → (i == x.num) ≡ false → n i ≡ true → m i ≡ true) where
  other_mark : (c : Change) (b : lookups.Bound) (a : Triple) → raw_step c b x ≡ None → IsGroundMark m c a → IsGroundMark n c a
  other_mark (Made k) b a e h = tt
  other_mark (Bound y t) b a e h =
      (elim (var_eq x y) as (λ v. var_eq x y ≡ v → (if v then Some t else b x) ≡ None → n y.num ≡ true → HasNoVars (under a.bindings t)) [
        | true ↦ λ g k. absurd (true≢false (ap is_some k))
        | false ↦ λ g k l. h (same y.num (var_eq_flip y x ∙ g) l)
      ] refl) e
  other_mark (Added d) b a e h = tt
  other_mark (Taken y ds) b a e h = tt

  other_marks : (cs : List Change) (b : lookups.Bound) (a : Triple) → raw_after cs b x ≡ None → AreGroundMarks m cs a → AreGroundMarks n cs a
  other_marks [] b a e h = tt
  other_marks (c ∷ cs) b a e h = (other_mark c b a (unbound_first cs (raw_step c b) x e) h.0, other_marks cs (raw_step c b) (after c a) e h.1)

fewer_mark : (m n : ℕ → Bool) → ((i : ℕ) → n i ≡ true → m i ≡ true) → (c : Change) (a : Triple) → IsGroundMark m c a → IsGroundMark n c a
fewer_mark m n f (Made k) a h = tt
fewer_mark m n f (Bound x t) a h = λ l. h (f x.num l)
fewer_mark m n f (Added d) a h = tt
fewer_mark m n f (Taken x ds) a h = tt

fewer_marks : (m n : ℕ → Bool) → ((i : ℕ) → n i ≡ true → m i ≡ true) → (cs : List Change) (a : Triple) → AreGroundMarks m cs a → AreGroundMarks n cs a
fewer_marks m n f [] a h = tt
fewer_marks m n f (c ∷ cs) a h = (fewer_mark m n f c a h.0, fewer_marks m n f cs (after c a) h.1)

-- What a change of the store makes of the marks.
module _ (ss us : List Slot) (cs ds : List Change) (h : AreGroundMarks (ground_in ss) cs empty) where
  pub marked_made : (n : ℕ) → ds ≡ cs ++ Made n ∷ [] → ((i : ℕ) → ground_in us i ≡ ground_in ss i) → AreGroundMarks (ground_in us) ds empty
  marked_made n e f =
      subst (λ (es : List Change). AreGroundMarks (ground_in us) es empty) (sym e) (marks_more (ground_in us) cs (Made n) empty (fewer_marks (ground_in ss) (ground_in us) (λ i k. sym (f i) ∙ k) cs empty h) tt)

  pub marked_bound : (x : Var) (t : NominalTerm) (g : Bool) → raw_after cs nothing_bound x ≡ None → ds ≡ cs ++ Bound x t ∷ []
      → ((i : ℕ) → ground_in us i ≡ (if i == x.num then g else ground_in ss i)) → (g ≡ true → HasNoVars (under (present_after cs empty).bindings t)) → AreGroundMarks (ground_in us) ds empty
  marked_bound x t g u e f k =
      let same : (i : ℕ) → (i == x.num) ≡ false → ground_in us i ≡ true → ground_in ss i ≡ true = λ i n l. ap (λ (b : Bool). if b then g else ground_in ss i) (sym n) ∙ sym (f i) ∙ l in
      let here : ground_in us x.num ≡ g = f x.num ∙ ap (λ (b : Bool). if b then g else ground_in ss x.num) (same_number x.num x.num refl) in
      subst (λ (es : List Change). AreGroundMarks (ground_in us) es empty) (sym e)
      (marks_more (ground_in us) cs (Bound x t) empty (other_marks (ground_in ss) (ground_in us) x same cs nothing_bound empty u h) (λ l. k (sym here ∙ l)))

  pub marked_noted : (d : Noted) → ds ≡ cs ++ noted_change d ∷ [] → AreGroundMarks (ground_in ss) ds empty
  marked_noted d e = subst (λ (es : List Change). AreGroundMarks (ground_in ss) es empty) (sym e) (marks_more (ground_in ss) cs (noted_change d) empty h (aside d))
    where
      aside : (n : Noted) → IsGroundMark (ground_in ss) (noted_change n) (present_after cs empty)
      aside (notes.Added c) = tt
      aside (notes.Taken x es) = tt

-- the last change is undone
pub marked_before : (ss us : List Slot) (cs ds : List Change) (c : Change) → AreGroundMarks (ground_in ss) ds empty → ds ≡ cs ++ c ∷ [] → ((i : ℕ) → ground_in us i ≡ true → ground_in ss i ≡ true) → AreGroundMarks (ground_in us) cs empty
marked_before ss us cs ds c h e f =
    fewer_marks (ground_in ss) (ground_in us) f cs empty (marks_less (ground_in ss) cs c empty (subst (λ (es : List Change). AreGroundMarks (ground_in ss) es empty) e h))

-- a mark that is taken off
pub mark_off : (i j : ℕ) (b g : Bool) → g ≡ (if j == i then false else b) → g ≡ true → b ≡ true
mark_off i j b g e h = (elim (j == i) as (λ v. (if v then false else b) ≡ true → b ≡ true) [ true ↦ λ k. absurd (true≢false (sym k)) | false ↦ λ k. k ]) (sym e ∙ h)
