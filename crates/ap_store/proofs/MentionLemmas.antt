-- A variable that no binding mentions occurs in what a term stands for only where it does in the term itself.
use Rattle.std.proofs.Common.{◌≡◌, ◌≢◌, ◌≤◌, ◌<◌, ◌==◌, ℕ, zero, suc, Bool, true, false, true≢false, List, [], ◌∷◌, ◌++◌, ◌+◌, ◌⊎◌, length, set, take, inl, inr, refl, sym, ap, ◌∙◌, subst, arith}
use Rattle.std.specs.Global.{Global}
use Rattle.std.specs.Prelude.{Err, IfSome, None, Ok, OnOk, Option, Result, Some, Vec, if◌then◌else◌, not}
use Rattle.std.proofs.lemmas.Bool.{cases_order}
use Rattle.ap_defs.specs.Freshness.{var_eq}
use Rattle.ap_defs.specs.Substitution.{Binding, occurs, under}
use Rattle.ap_defs.specs.Terms.{NominalTerm, act_term, unit}
use Rattle.ap_defs.specs.Unification.{has_var}
use Rattle.ap_defs.specs.declared.terms.Swap.{Swap}
use Rattle.ap_defs.specs.declared.terms.Var.{Var}
use Rattle.ap_theory.proofs.BooleanLemmas.{false_if_not, or_cases}
use Rattle.ap_theory.proofs.TermLemmas.{number_same, occurs_act}
use Rattle.ap_theory.specs.Variables.{EachVar}
use Rattle.ap_store.proofs.ReachLemmas.{BindsEach, put_each, under_each}
use Rattle.ap_store.proofs.TableLemmas.{bound_in_beyond}
use Rattle.ap_store.specs.Changes.{Change, Made, Bound, Added, Taken, after, empty, present_after}
use Rattle.ap_store.specs.Marks.{AreGroundMarks, HasNoVars, ground_in}
use Rattle.ap_store.specs.Mentions.{AreMentioned, IsMentioned}
use Rattle.ap_store.specs.Passed.{is_mark_at}
use Rattle.ap_store.specs.Slots.{bound_in, changes_in, term_or_unit}
use Rattle.ap_store.specs.Triples.{Triple}
use Rattle.ap_store.specs.Views.{bindings_of, changes}
use Rattle.ap_store.specs.declared.changes.Entry.{Entry}
use Rattle.ap_store.specs.declared.changes.Entry.TheVariants as entries
use Rattle.ap_store.specs.declared.changes.Noted.{Noted}
use Rattle.ap_store.specs.declared.changes.Noted.TheVariants as notes
use Rattle.ap_store.specs.declared.mentions.Mentions.{Mentions}
use Rattle.ap_store.specs.declared.slots.Slot.{Slot}
use Rattle.ap_store.specs.declared.store.Store.{Store}

module _ (P : Var → Type 0) (g : ℕ → Bool) where
  -- each variable of what is bound has the property, but where that is marked as ground
  abbrev BindsOpen : List Change → Type 0
  BindsOpen [] = Unit {0}
  BindsOpen (Bound x t ∷ cs) = (g x.num ≡ false → EachVar P t) × BindsOpen cs
  BindsOpen (c ∷ cs) = BindsOpen cs

  abbrev TableOpen : List Slot → Type 0
  TableOpen ss = (i : ℕ) → g i ≡ false → EachVar P (term_or_unit (bound_in ss i))

  bound_each : (x : Var) (t : NominalTerm) (bs : List Binding) → (g x.num ≡ true → HasNoVars (under bs t)) → (g x.num ≡ false → EachVar P t) → BindsEach P bs → EachVar P (under bs t)
  bound_each x t bs m l h =
      elim (g x.num) as (λ b. g x.num ≡ b → EachVar P (under bs t)) [
        | true ↦ λ e y o. absurd (true≢false (sym o ∙ m e y))
        | false ↦ λ e. under_each P bs h t (l e)
      ] refl

  each_after : (cs : List Change) (a : Triple) → AreGroundMarks g cs a → BindsOpen cs → BindsEach P a.bindings → BindsEach P (present_after cs a).bindings
  each_after [] a m l h = h
  each_after (Made n ∷ cs) a m l h = each_after cs (after (Made n) a) m.1 l h
  each_after (Bound x t ∷ cs) a m l h =
      let v : EachVar P (under a.bindings t) = bound_each x t a.bindings m.0 l.0 h in
      each_after cs (after (Bound x t) a) m.1 l.1 (v, put_each P x (under a.bindings t) v a.bindings h)
  each_after (Added c ∷ cs) a m l h = each_after cs (after (Added c) a) m.1 l h
  each_after (Taken x es ∷ cs) a m l h = each_after cs (after (Taken x es) a) m.1 l h

  changes_open : (ss : List Slot) (es : List Entry) (ns : List Noted) → TableOpen ss → BindsOpen (changes_in ss es ns)
  changes_open ss [] ns h = tt
  changes_open ss (entries.Made m ∷ es) ns h = changes_open ss es ns h
  changes_open ss (entries.Bound i ∷ es) ns h = (h i, changes_open ss es ns h)
  changes_open ss (entries.Noted ∷ es) [] h = changes_open ss es [] h
  changes_open ss (entries.Noted ∷ es) (notes.Added c ∷ ns) h = changes_open ss es ns h
  changes_open ss (entries.Noted ∷ es) (notes.Taken x cs ∷ ns) h = changes_open ss es ns h

pub unmentioned_absent : (s : Store) (x : Var) → s.mentions.is_kept ≡ true → (IsMentioned s.mentions x → ⊥)
    → (t : NominalTerm) → occurs x t ≡ false → occurs x (under (bindings_of s) t) ≡ false
unmentioned_absent s x k n t h =
    let P : Var → Type 0 = λ y. y ≢ x in
    let g = ground_in s.table.items in
    let others : TableOpen P g s.table.items = λ i l y o e. n (subst (IsMentioned s.mentions) e (s.mentioned k i l y o)) in
    let b = each_after P g (changes s) empty s.marked (changes_open P g s.table.items s.trail.items s.noted.items others) tt in
    let each = under_each P (bindings_of s) b t (λ y o e. true≢false (sym o ∙ ap (λ z. occurs z t) e ∙ h)) in
    false_if_not (occurs x (under (bindings_of s) t)) (λ o. each x o refl)

-- What is mentioned of a table that is changed.
pub no_var : (P : Var → Type 0) → EachVar P unit
no_var P = λ y o. absurd (true≢false (sym o))

put_open : (P : Var → Type 0) (o q r : Option NominalTerm) (g f e b : Bool) → r ≡ (if b then o else q) → e ≡ (if b then g else f)
    → (g ≡ false → EachVar P (term_or_unit o)) → (f ≡ false → EachVar P (term_or_unit q)) → e ≡ false → EachVar P (term_or_unit r)
put_open P o q r g f e true i j h k l = subst (λ (z : Option NominalTerm). EachVar P (term_or_unit z)) (sym i) (h (sym j ∙ l))
put_open P o q r g f e false i j h k l = subst (λ (z : Option NominalTerm). EachVar P (term_or_unit z)) (sym i) (k (sym j ∙ l))

take_open : (P : Var → Type 0) (n : ℕ) (ss : List Slot) (i : ℕ) → (ground_in ss i ≡ false → EachVar P (term_or_unit (bound_in ss i)))
    → ground_in (take n ss) i ≡ false → EachVar P (term_or_unit (bound_in (take n ss) i))
take_open P zero [] i h l = no_var P
take_open P zero (s ∷ ss) i h l = no_var P
take_open P (suc n) [] i h l = no_var P
take_open P (suc n) (s ∷ ss) zero h l = h l
take_open P (suc n) (s ∷ ss) (suc i) h l = take_open P n ss i h l

module _ (m : Mentions) (ss us : List Slot) (h : AreMentioned m ss) where
  pub mentioned_same : ((i : ℕ) → bound_in us i ≡ bound_in ss i) → ((i : ℕ) → ground_in us i ≡ ground_in ss i) → AreMentioned m us
  mentioned_same f e = λ k i l. subst (λ (o : Option NominalTerm). EachVar (IsMentioned m) (term_or_unit o)) (sym (f i)) (h k i (sym (e i) ∙ l))

  pub mentioned_put : (i : ℕ) (o : Option NominalTerm) (g : Bool) → ((j : ℕ) → bound_in us j ≡ (if j == i then o else bound_in ss j))
      → ((j : ℕ) → ground_in us j ≡ (if j == i then g else ground_in ss j)) → (m.is_kept ≡ true → g ≡ false → EachVar (IsMentioned m) (term_or_unit o)) → AreMentioned m us
  mentioned_put i o g f e k = λ kept j l. put_open (IsMentioned m) o (bound_in ss j) (bound_in us j) g (ground_in ss j) (ground_in us j) (j == i) (f j) (e j) (k kept) (h kept j) l

  pub mentioned_take : (n : ℕ) → us ≡ take n ss → AreMentioned m us
  mentioned_take n e = subst (AreMentioned m) (sym e) (λ k i l. take_open (IsMentioned m) n ss i (h k i) l)

-- more is mentioned
pub mentioned_more : (m n : Mentions) (ss : List Slot) → AreMentioned m ss → (n.is_kept ≡ true → m.is_kept ≡ true)
    → (n.is_kept ≡ true → (y : Var) → IsMentioned m y → IsMentioned n y) → AreMentioned n ss
mentioned_more m n ss h k f = λ l i g y o. f l y (h (k l) i g y o)

-- Marks.
pub marks_stay : (ms : List Bool) (i j : ℕ) → is_mark_at ms j ≡ true → is_mark_at (set ms i true) j ≡ true
marks_stay [] zero j h = h
marks_stay [] (suc i) j h = h
marks_stay (m ∷ ms) zero zero h = refl
marks_stay (m ∷ ms) zero (suc j) h = h
marks_stay (m ∷ ms) (suc i) zero h = h
marks_stay (m ∷ ms) (suc i) (suc j) h = marks_stay ms i j h

pub mark_here : (ms : List Bool) (i : ℕ) → i < length ms → is_mark_at (set ms i true) i ≡ true
mark_here [] i l = absurd (omega arith)
mark_here (m ∷ ms) zero l = refl
mark_here (m ∷ ms) (suc i) l = mark_here ms i (omega arith)

pub marks_longer : (ms more : List Bool) (i : ℕ) → more ≡ ms ++ false ∷ [] → is_mark_at ms i ≡ true → is_mark_at more i ≡ true
marks_longer ms more i e h = ap (λ (ns : List Bool). is_mark_at ns i) e ∙ before ms i h
  where
    before : (ns : List Bool) (j : ℕ) → is_mark_at ns j ≡ true → is_mark_at (ns ++ false ∷ []) j ≡ true
    before [] j k = absurd (true≢false (sym k))
    before (n ∷ ns) zero k = k
    before (n ∷ ns) (suc j) k = before ns j k

pub mark_next : (ms more : List Bool) (all rest : List Var) (x y : Var) → all ≡ x ∷ rest → ((i : ℕ) → is_mark_at ms i ≡ true → is_mark_at more i ≡ true)
    → is_mark_at more x.num ≡ true → (is_mark_at ms y.num ≡ true) ⊎ (has_var y all ≡ true) → (is_mark_at more y.num ≡ true) ⊎ (has_var y rest ≡ true)
mark_next ms more all rest x y e stay here (inl h) = inl (stay y.num h)
mark_next ms more all rest x y e stay here (inr h) =
    elim (or_cases (var_eq y x) (has_var y rest) (ap (has_var y) (sym e) ∙ h)) [
      | inl i ↦ inl (ap (is_mark_at more) (number_same y.num x.num i) ∙ here)
      | inr i ↦ inr i
    ]

pub mark_none : (ms : List Bool) (rest : List Var) (y : Var) → rest ≡ [] → (is_mark_at ms y.num ≡ true) ⊎ (has_var y rest ≡ true) → is_mark_at ms y.num ≡ true
mark_none ms rest y e (inl h) = h
mark_none ms rest y e (inr h) = absurd (true≢false (sym h ∙ ap (has_var y) e))

pub not_true : (b : Bool) → not b ≡ true → b ≡ false
not_true true h = sym h
not_true false h = refl

pub on_ok : {T E : Type 0} (r : Result T E) {P Q : Type 0} → (P → Q) → OnOk r P → OnOk r Q
on_ok (Ok x) f h = f h
on_ok (Err e) f h = h

pub some_vars : (t : NominalTerm) (o : Option (Vec Var Global)) (v : Vec Var Global) → o ≡ Some v → IfSome o (λ vars. (y : Var) → has_var y vars.items ≡ occurs y t)
    → (y : Var) → has_var y v.items ≡ occurs y t
some_vars t o v e h = subst (λ (q : Option (Vec Var Global)). IfSome q (λ vars. (y : Var) → has_var y vars.items ≡ occurs y t)) e h

-- One more slot of a table is looked at.
abbrev pub IsMentionedTo : Mentions → List Slot → ℕ → Type 0
IsMentionedTo m ss n = m.is_kept ≡ true → (i : ℕ) → i < n → ground_in ss i ≡ false → EachVar (IsMentioned m) (term_or_unit (bound_in ss i))

here_or_before : (n : Mentions) (ss : List Slot) (k i : ℕ) → ground_in ss i ≡ false → i < k + 1 → (i ≡ k) ⊎ ((i < k) ⊎ (k < i))
    → (ground_in ss k ≡ false → EachVar (IsMentioned n) (term_or_unit (bound_in ss k))) → (i < k → EachVar (IsMentioned n) (term_or_unit (bound_in ss i)))
    → EachVar (IsMentioned n) (term_or_unit (bound_in ss i))
here_or_before n ss k i g b (inl e) here before = subst (λ (j : ℕ). EachVar (IsMentioned n) (term_or_unit (bound_in ss j))) (sym e) (here (ap (ground_in ss) (sym e) ∙ g))
here_or_before n ss k i g b (inr (inl d)) here before = before d
here_or_before n ss k i g b (inr (inr d)) here before = absurd (omega (arith, b, d))

pub one_mentioned : (m n : Mentions) (ss : List Slot) (k : ℕ) → IsMentionedTo m ss k → (n.is_kept ≡ true → m.is_kept ≡ true)
    → (n.is_kept ≡ true → (y : Var) → IsMentioned m y → IsMentioned n y)
    → (n.is_kept ≡ true → ground_in ss k ≡ false → EachVar (IsMentioned n) (term_or_unit (bound_in ss k))) → IsMentionedTo n ss (k + 1)
one_mentioned m n ss k h kept stay here = λ l i b g. here_or_before n ss k i g b (cases_order i k) (here l) (λ d y o. stay l y (h (kept l) i d g y o))

beyond_all : (P : Var → Type 0) (ss : List Slot) (i : ℕ) → length ss ≤ i → EachVar P (term_or_unit (bound_in ss i))
beyond_all P ss i l = subst (λ (o : Option NominalTerm). EachVar P (term_or_unit o)) (sym (bound_in_beyond ss i l)) (no_var P)

before_or_beyond : (P : Var → Type 0) (ss : List Slot) (n i : ℕ) → length ss ≤ n → (i < n → EachVar P (term_or_unit (bound_in ss i))) → (i ≡ n) ⊎ ((i < n) ⊎ (n < i)) → EachVar P (term_or_unit (bound_in ss i))
before_or_beyond P ss n i l f (inl e) = beyond_all P ss i (omega (arith, e, l))
before_or_beyond P ss n i l f (inr (inl b)) = f b
before_or_beyond P ss n i l f (inr (inr b)) = beyond_all P ss i (omega (arith, b, l))

pub all_mentioned : (m : Mentions) (ss : List Slot) (n : ℕ) → length ss ≤ n → IsMentionedTo m ss n → AreMentioned m ss
all_mentioned m ss n l h = λ k i g. before_or_beyond (IsMentioned m) ss n i l (λ b. h k i b g) (cases_order i n)

-- What is found at a binding.
pub found_nothing : (P : Var → Type 0) (o : Option NominalTerm) → o ≡ None → EachVar P (term_or_unit o)
found_nothing P o e = subst (λ (z : Option NominalTerm). EachVar P (term_or_unit z)) (sym e) (no_var P)

pub found_plain : (P : Var → Type 0) (o : Option NominalTerm) (t : NominalTerm) → o ≡ Some t → EachVar P t → EachVar P (term_or_unit o)
found_plain P o t e h = subst (λ (z : Option NominalTerm). EachVar P (term_or_unit z)) (sym e) h

pub found_moved : (P : Var → Type 0) (o : Option NominalTerm) (p : List Swap) (t : NominalTerm) → o ≡ Some (act_term p t) → EachVar P t → EachVar P (term_or_unit o)
found_moved P o p t e h = found_plain P o (act_term p t) e (λ y i. h y (sym (occurs_act y p t) ∙ i))
