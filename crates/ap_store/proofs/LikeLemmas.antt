-- Variables that are kept for bound ones stand for terms with the same variables, as changes are made and undone.
use Rattle.std.proofs.Common.{◌≡◌, ◌≢◌, ◌≤◌, ◌<◌, ◌⊎◌, ℕ, zero, suc, Bool, true, false, true≢false, List, [], ◌∷◌, ◌++◌, length, inl, inr, refl, sym, ap, ap₂, ◌∙◌, subst, arith}
use Rattle.std.specs.Prelude.{◌==◌, if◌then◌else◌, Some, None, is_some, slice_index_or, slice_set}
use Rattle.std.proofs.lemmas.Bool.Decides.{nat_tests}
use Rattle.ap_defs.specs.Freshness.{var_eq}
use Rattle.ap_defs.specs.HeadKeys.{head_key}
use Rattle.ap_defs.specs.Substitution.{Binding, occurs, put, under}
use Rattle.ap_defs.specs.Terms.{NominalTerm, abs, act_term, app, name, pair, susp, unit}
use Rattle.ap_defs.specs.declared.terms.Swap.{Swap}
use Rattle.ap_defs.specs.declared.terms.Var.{Var}
use Rattle.ap_perm.specs.Lookups as lookups
use Rattle.ap_theory.proofs.BooleanLemmas.{or_cases, or_if_left, or_if_right, same_test}
use Rattle.ap_theory.proofs.HeadKeyLemmas.{key_act}
use Rattle.ap_theory.proofs.SubstitutionLemmas.{put_absent}
use Rattle.ap_theory.proofs.TermLemmas.{act_term_none, number_same, occurs_act, var_eq_flip, var_same}
use Rattle.ap_theory.proofs.VariableLemmas.{each_put}
use Rattle.ap_store.proofs.BindLemmas.{under_bind}
use Rattle.ap_store.proofs.MarkLemmas.{bound_here, unbound_first}
use Rattle.ap_store.specs.Changes.{AreChanges, Change, IsChange, Made, Bound, Added, Taken, after, empty, present_after}
use Rattle.ap_store.specs.Likes.{AreAlike, AreLikes, HaveSameHead, HaveSameVars, IsAlike, IsLike, is_suspended, like_in}
use Rattle.ap_store.specs.Slots.{noted_change, var_at}
use Rattle.ap_store.specs.Trails.{nothing_bound, raw_after, raw_step}
use Rattle.ap_store.specs.Triples.{Triple}
use Rattle.ap_store.specs.Views.{bindings_of, changes, raw_bound}
use Rattle.ap_store.specs.declared.changes.Noted.{Noted}
use Rattle.ap_store.specs.declared.changes.Noted.TheVariants as notes
use Rattle.ap_store.specs.declared.likes.Like.{Like}
use Rattle.ap_store.specs.declared.likes.Like.TheVariants as kept
use Rattle.ap_store.specs.declared.store.Store.{Store}

-- swappings that wait change no variable at the head
pub suspended_act : (y : Var) (p : List Swap) (t : NominalTerm) → is_suspended y (act_term p t) ≡ is_suspended y t
suspended_act y p unit = refl
suspended_act y p (name a) = refl
suspended_act y p (pair t u) = refl
suspended_act y p (app f t) = refl
suspended_act y p (abs a t) = refl
suspended_act y p (susp q x) = refl

-- Where a term is put for a variable in two terms with the same variables, they have the same again.
module _ (x : Var) (v : NominalTerm) where
  stays_put : (y : Var) (t : NominalTerm) → occurs y t ≡ true → x ≢ y → occurs y (put x v t) ≡ true
  stays_put y unit h n = cc
  stays_put y (name a) h n = cc
  stays_put y (pair t u) h n =
      elim (or_cases (occurs y t) (occurs y u) h) [
        | inl i ↦ or_if_left (occurs y (put x v t)) (occurs y (put x v u)) (stays_put y t i n)
        | inr i ↦ or_if_right (occurs y (put x v t)) (occurs y (put x v u)) (stays_put y u i n)
      ]
  stays_put y (app f t) h n = stays_put y t h n
  stays_put y (abs a t) h n = stays_put y t h n
  stays_put y (susp p z) h n =
      elim (var_eq x z) as (λ b. var_eq x z ≡ b → occurs y (if b then act_term p v else susp p z) ≡ true) [
        | true ↦ λ e. absurd (n (var_same x z e ∙ sym (var_same y z h)))
        | false ↦ λ e. h
      ] refl

  comes_put : (y : Var) (t : NominalTerm) → occurs x t ≡ true → occurs y v ≡ true → occurs y (put x v t) ≡ true
  comes_put y unit h k = cc
  comes_put y (name a) h k = cc
  comes_put y (pair t u) h k =
      elim (or_cases (occurs x t) (occurs x u) h) [
        | inl i ↦ or_if_left (occurs y (put x v t)) (occurs y (put x v u)) (comes_put y t i k)
        | inr i ↦ or_if_right (occurs y (put x v t)) (occurs y (put x v u)) (comes_put y u i k)
      ]
  comes_put y (app f t) h k = comes_put y t h k
  comes_put y (abs a t) h k = comes_put y t h k
  comes_put y (susp p z) h k = ap (λ (b : Bool). occurs y (if b then act_term p v else susp p z)) h ∙ occurs_act y p v ∙ k

  within_put : (t u : NominalTerm) → HaveSameVars t u → (y : Var) → occurs y (put x v t) ≡ true → occurs y (put x v u) ≡ true
  within_put t u s =
      elim (occurs x t) as (λ b. occurs x t ≡ b → (y : Var) → occurs y (put x v t) ≡ true → occurs y (put x v u) ≡ true) [
        | true ↦ λ e. each_put (λ y. occurs y u ≡ true) (λ y. occurs y (put x v u) ≡ true) x v (λ y i n. stays_put y u i n) (λ y i. comes_put y u (sym (s x) ∙ e) i) t (λ y i. sym (s y) ∙ i)
        | false ↦ λ e y i. ap (occurs y) (put_absent x v u (sym (s x) ∙ e)) ∙ sym (s y) ∙ ap (occurs y) (sym (put_absent x v t e)) ∙ i
      ] refl

  same_put : (t u : NominalTerm) → HaveSameVars t u → HaveSameVars (put x v t) (put x v u)
  same_put t u s = λ y. same_test (occurs y (put x v t)) (occurs y (put x v u)) (within_put t u s y) (within_put u t (λ z. sym (s z)) y)

  -- and where they begin alike, they do so again
  key_put : (t : NominalTerm) → head_key (put x v t) ≡ (if is_suspended x t then head_key v else head_key t)
  key_put unit = refl
  key_put (name a) = refl
  key_put (pair t u) = refl
  key_put (app f t) = refl
  key_put (abs a t) = refl
  key_put (susp p z) =
      elim (var_eq x z) as (λ b. head_key (if b then act_term p v else susp p z) ≡ (if b then head_key v else 0)) [
        | true ↦ key_act p v
        | false ↦ refl
      ]

  suspended_put : (y : Var) (t : NominalTerm) → is_suspended y (put x v t) ≡ (if is_suspended x t then is_suspended y v else is_suspended y t)
  suspended_put y unit = refl
  suspended_put y (name a) = refl
  suspended_put y (pair t u) = refl
  suspended_put y (app f t) = refl
  suspended_put y (abs a t) = refl
  suspended_put y (susp p z) =
      elim (var_eq x z) as (λ b. is_suspended y (if b then act_term p v else susp p z) ≡ (if b then is_suspended y v else var_eq y z)) [
        | true ↦ suspended_act y p v
        | false ↦ refl
      ]

  head_put : (t u : NominalTerm) → HaveSameHead t u → HaveSameHead (put x v t) (put x v u)
  head_put t u h = (
    key_put t ∙ ap₂ (λ (b : Bool) (n : ℕ). if b then head_key v else n) (h.1 x) h.0 ∙ sym (key_put u),
    λ y. suspended_put y t ∙ ap₂ (λ (b c : Bool). if b then is_suspended y v else c) (h.1 x) (h.1 y) ∙ sym (suspended_put y u),
  )

  alike_put : (t u : NominalTerm) → AreAlike t u → AreAlike (put x v t) (put x v u)
  alike_put t u h = (same_put t u h.0, head_put t u h.1)

-- no change tells them apart
alike_stays : (c : Change) (a : Triple) → IsChange c a → (l : Like) (t : NominalTerm) → IsAlike l a.bindings t → IsAlike l (after c a).bindings t
alike_stays (Made n) a i l t h = h
alike_stays (Bound x w) a i kept.Nothing t h = tt
alike_stays (Bound x w) a i (kept.Vars n) t h =
    let v = under a.bindings w in
    let u = susp [] (var_at n) in
    λ y. ap (occurs y) (under_bind x v a.bindings i.1 t) ∙ same_put x v (under a.bindings t) (under a.bindings u) h y ∙ ap (occurs y) (sym (under_bind x v a.bindings i.1 u))
alike_stays (Bound x w) a i (kept.Head n) t h =
    let v = under a.bindings w in
    let u = susp [] (var_at n) in
    let k = alike_put x v (under a.bindings t) (under a.bindings u) h in
    subst (λ (r : NominalTerm). AreAlike r (under (after (Bound x w) a).bindings u)) (sym (under_bind x v a.bindings i.1 t))
    (subst (AreAlike (put x v (under a.bindings t))) (sym (under_bind x v a.bindings i.1 u)) k)
alike_stays (Added d) a i l t h = h
alike_stays (Taken x ds) a i l t h = h

-- what holds of a term holds of the variable that is bound to it
module _ (x y : Var) (t : NominalTerm) (a : Triple) (i : IsChange (Bound y t) a) (g : var_eq x y ≡ true) where
  abbrev after_it : List Binding
  after_it = (after (Bound y t) a).bindings

  here : under after_it (susp [] x) ≡ under a.bindings t
  here = bound_here x y (under a.bindings t) _ g ∙ act_term_none (under a.bindings t)

  there : (w : ℕ) → HaveSameVars (under a.bindings t) (under a.bindings (susp [] (var_at w))) → under a.bindings (susp [] (var_at w)) ≡ under after_it (susp [] (var_at w))
  there w h =
      let v = under a.bindings t in
      let u = susp [] (var_at w) in
      sym (under_bind y v a.bindings i.1 u ∙ put_absent y v (under a.bindings u) (sym (h y) ∙ i.3))

  alike_bound : (l : Like) → IsAlike l a.bindings t → IsAlike l after_it (susp [] x)
  alike_bound kept.Nothing h = tt
  alike_bound (kept.Vars w) h = subst (λ (r : NominalTerm). HaveSameVars r (under after_it (susp [] (var_at w)))) (sym here) (subst (HaveSameVars (under a.bindings t)) (there w h) h)
  alike_bound (kept.Head w) h = subst (λ (r : NominalTerm). AreAlike r (under after_it (susp [] (var_at w)))) (sym here) (subst (AreAlike (under a.bindings t)) (there w h.0) h)

module _ (m : ℕ → Like) (x : Var) where
  abbrev IsSame : Triple → Type 0
  IsSame a = IsAlike (m x.num) a.bindings (susp [] x)

  one_likes : (c : Change) (b : lookups.Bound) (a : Triple) → IsChange c a → IsLike m c a → (is_some (b x) ≡ true → IsSame a) → is_some (raw_step c b x) ≡ true → IsSame (after c a)
  one_likes (Made n) b a i h f k = f k
  one_likes (Bound y t) b a i h f k =
      (elim (var_eq x y) as (λ v. var_eq x y ≡ v → is_some (if v then Some t else b x) ≡ true → IsSame (after (Bound y t) a)) [
        | true ↦ λ g l. alike_bound x y t a i g (m x.num) (subst (λ (n : ℕ). IsAlike (m n) a.bindings t) (sym (number_same x.num y.num g)) h)
        | false ↦ λ g l. alike_stays (Bound y t) a i (m x.num) (susp [] x) (f l)
      ] refl) k
  one_likes (Added d) b a i h f k = f k
  one_likes (Taken y ds) b a i h f k = f k

  all_like : (cs : List Change) (b : lookups.Bound) (a : Triple) → AreChanges cs a → AreLikes m cs a → (is_some (b x) ≡ true → IsSame a)
      → is_some (raw_after cs b x) ≡ true → IsSame (present_after cs a)
  all_like [] b a i h f k = f k
  all_like (c ∷ cs) b a i h f k = all_like cs (raw_step c b) (after c a) i.1 h.1 (one_likes c b a i.0 h.0 f) k

-- what is kept beside a bound variable holds of it
pub like_stands : (s : Store) (x : Var) → is_some (raw_bound s x) ≡ true → IsAlike (like_in s.likes.items x.num) (bindings_of s) (susp [] x)
like_stands s x k = all_like (like_in s.likes.items) x (changes s) nothing_bound empty s.stored.0 s.likened (λ l. absurd (true≢false (sym l))) k

-- One more change, or one less.
likes_more : (m : ℕ → Like) (cs : List Change) (c : Change) (a : Triple) → AreLikes m cs a → IsLike m c (present_after cs a) → AreLikes m (cs ++ c ∷ []) a
likes_more m [] c a h k = (k, tt)
likes_more m (d ∷ cs) c a h k = (h.0, likes_more m cs c (after d a) h.1 k)

likes_less : (m : ℕ → Like) (cs : List Change) (c : Change) (a : Triple) → AreLikes m (cs ++ c ∷ []) a → AreLikes m cs a
likes_less m [] c a h = tt
likes_less m (d ∷ cs) c a h = (h.0, likes_less m cs c (after d a) h.1)

-- Other ones are kept: of numbers that the changes do not bind they may be any.
module _ (m n : ℕ → Like) (x : Var) (same : (i : ℕ) → (i == x.num) ≡ false → n i ≡ m i) where
  other_like : (c : Change) (b : lookups.Bound) (a : Triple) → raw_step c b x ≡ None → IsLike m c a → IsLike n c a
  other_like (Made k) b a e h = tt
  other_like (Bound y t) b a e h =
      (elim (var_eq x y) as (λ v. var_eq x y ≡ v → (if v then Some t else b x) ≡ None → IsAlike (n y.num) a.bindings t) [
        | true ↦ λ g k. absurd (true≢false (ap is_some k))
        | false ↦ λ g k. subst (λ (l : Like). IsAlike l a.bindings t) (sym (same y.num (var_eq_flip y x ∙ g))) h
      ] refl) e
  other_like (Added d) b a e h = tt
  other_like (Taken y ds) b a e h = tt

  other_likes : (cs : List Change) (b : lookups.Bound) (a : Triple) → raw_after cs b x ≡ None → AreLikes m cs a → AreLikes n cs a
  other_likes [] b a e h = tt
  other_likes (c ∷ cs) b a e h = (other_like c b a (unbound_first cs (raw_step c b) x e) h.0, other_likes cs (raw_step c b) (after c a) e h.1)

-- What a change of the store makes of them.
module _ (m : ℕ → Like) (cs ds : List Change) where
  pub likes_made : AreLikes m cs empty → (n : ℕ) → ds ≡ cs ++ Made n ∷ [] → AreLikes m ds empty
  likes_made h n e = subst (λ (es : List Change). AreLikes m es empty) (sym e) (likes_more m cs (Made n) empty h tt)

  pub likes_noted : AreLikes m cs empty → (d : Noted) → ds ≡ cs ++ noted_change d ∷ [] → AreLikes m ds empty
  likes_noted h d e = subst (λ (es : List Change). AreLikes m es empty) (sym e) (likes_more m cs (noted_change d) empty h (aside d))
    where
      aside : (n : Noted) → IsLike m (noted_change n) (present_after cs empty)
      aside (notes.Added c) = tt
      aside (notes.Taken x es) = tt

  pub likes_bound : AreLikes m cs empty → (n : ℕ → Like) (x : Var) (t : NominalTerm) → raw_after cs nothing_bound x ≡ None → ds ≡ cs ++ Bound x t ∷ []
      → ((i : ℕ) → (i == x.num) ≡ false → n i ≡ m i)
      → IsAlike (n x.num) (present_after cs empty).bindings t → AreLikes n ds empty
  likes_bound h n x t u e f k =
      subst (λ (es : List Change). AreLikes n es empty) (sym e) (likes_more n cs (Bound x t) empty (other_likes m n x f cs nothing_bound empty u h) k)

  -- the last change is undone
  pub likes_before : AreLikes m ds empty → (c : Change) → ds ≡ cs ++ c ∷ [] → AreLikes m cs empty
  likes_before h c e = likes_less m cs c empty (subst (λ (es : List Change). AreLikes m es empty) e h)

pub same_some : (u w : Var) → Some u ≡ Some w → u ≡ w
same_some u w e = cc

-- What is kept in the list.
pub like_in_beyond : (ls : List Like) (i : ℕ) → length ls ≤ i → like_in ls i ≡ kept.Nothing
like_in_beyond [] i h = refl
like_in_beyond (l ∷ ls) zero h = absurd (omega arith)
like_in_beyond (l ∷ ls) (suc i) h = like_in_beyond ls i (omega arith)

pub like_in_apart : (ls : List Like) (i j : ℕ) (l : Like) → (j == i) ≡ false → like_in (slice_set ls i l) j ≡ like_in ls j
like_in_apart [] zero j l h = refl
like_in_apart [] (suc i) j l h = refl
like_in_apart (k ∷ ls) zero zero l h = absurd (true≢false h)
like_in_apart (k ∷ ls) zero (suc j) l h = refl
like_in_apart (k ∷ ls) (suc i) zero l h = refl
like_in_apart (k ∷ ls) (suc i) (suc j) l h = like_in_apart ls i j l (let e : (j == i) ≡ (suc j == suc i) = grind (arith, nat_tests) in e ∙ h)

pub like_in_put : (ls : List Like) (i : ℕ) (l : Like) → i < length ls → like_in (slice_set ls i l) i ≡ l
like_in_put [] i l h = absurd (omega arith)
like_in_put (k ∷ ls) zero l h = refl
like_in_put (k ∷ ls) (suc i) l h = like_in_put ls i l (omega arith)

-- beyond the list nothing is put
pub like_in_here : (ls : List Like) (i : ℕ) (l : Like) → (like_in (slice_set ls i l) i ≡ l) ⊎ (like_in (slice_set ls i l) i ≡ kept.Nothing)
like_in_here [] zero l = inr refl
like_in_here [] (suc i) l = inr refl
like_in_here (k ∷ ls) zero l = inl refl
like_in_here (k ∷ ls) (suc i) l = like_in_here ls i l

-- where what is kept holds of a term, so it does if nothing is kept in its place
pub here_alike : (bs : List Binding) (t : NominalTerm) (k l : Like) → (k ≡ l) ⊎ (k ≡ kept.Nothing) → IsAlike l bs t → IsAlike k bs t
here_alike bs t k l (inl e) h = subst (λ (j : Like). IsAlike j bs t) (sym e) h
here_alike bs t k l (inr e) h = subst (λ (j : Like). IsAlike j bs t) (sym e) tt

-- one more place, where nothing is kept
pub like_in_more : (ls us : List Like) (i : ℕ) → us ≡ ls ++ kept.Nothing ∷ [] → like_in us i ≡ like_in ls i
like_in_more ls us i e = ap (λ (vs : List Like). like_in vs i) e ∙ behind ls i
  where
    alone : (j : ℕ) → like_in (kept.Nothing ∷ []) j ≡ kept.Nothing
    alone zero = refl
    alone (suc j) = refl

    behind : (vs : List Like) (j : ℕ) → like_in (vs ++ kept.Nothing ∷ []) j ≡ like_in vs j
    behind [] j = alone j
    behind (v ∷ vs) zero = refl
    behind (v ∷ vs) (suc j) = behind vs j

pub like_in_index : (ls : List Like) (i : ℕ) → slice_index_or ls i kept.Nothing ≡ like_in ls i
like_in_index [] zero = refl
like_in_index [] (suc i) = refl
like_in_index (l ∷ ls) zero = refl
like_in_index (l ∷ ls) (suc i) = like_in_index ls i
