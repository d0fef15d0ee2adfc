-- Variables that are too new to occur.
use Rattle.std.proofs.Common.{◌≡◌, ◌<◌, ◌≤◌, ℕ, zero, suc, ◌++◌, length, take, get_or, true, false, List, [], ◌∷◌, map, refl, sym, ap, ◌∙◌, inl, inr, arith}
use Rattle.std.specs.Prelude.{Some, slice_set}
use Rattle.ap_defs.specs.Freshness.{var_eq}
use Rattle.ap_defs.specs.Renaming.{IsBelow, rename_term}
use Rattle.ap_defs.specs.Substitution.{Binding, occurs, put_binding, under, ◌:=◌}
use Rattle.ap_defs.specs.Terms.{NominalTerm, abs, app, name, pair, susp, term_of, unit}
use Rattle.ap_defs.specs.declared.terms.Swap.{Swap}
use Rattle.ap_defs.specs.declared.terms.Var.{Var}
use Rattle.ap_perm.specs.Closures.{closure_term}
use Rattle.ap_perm.specs.declared.closures.Closure.{Closure}
use Rattle.ap_theory.proofs.BooleanLemmas.{false_if_not, or_cases}
use Rattle.ap_theory.proofs.TermLemmas.{occurs_act, same_var, var_same}
use Rattle.ap_theory.proofs.VariableLemmas.{each_act, each_left, each_pair, each_put, each_right, each_susp}
use Rattle.ap_theory.specs.Variables.{EachVar}
use Rattle.ap_store.proofs.BelowLemmas.{below_more}
use Rattle.ap_store.specs.Changes.{Change, Made, Bound, Added, Taken, after, empty, present_after}
use Rattle.ap_store.specs.Slots.{AreKeptBelow, IsKeptBelow, value_term, bound_in, changes_in, kept_term, term_or_unit}
use Rattle.ap_store.specs.Triples.{Triple}
use Rattle.ap_store.specs.Views.{bindings_of, changes, meaning_in}
use Rattle.ap_store.specs.declared.changes.Entry.{Entry}
use Rattle.ap_store.specs.declared.changes.Entry.TheVariants as entries
use Rattle.ap_store.specs.declared.changes.Noted.{Noted}
use Rattle.ap_store.specs.declared.changes.Noted.TheVariants as notes
use Rattle.ap_store.specs.declared.slots.Value.{Value}
use Rattle.ap_store.specs.declared.slots.Value.TheVariants.{Unbound, Plain, Ground, Moved}
use Rattle.ap_store.specs.declared.slots.Slot.{Slot}
use Rattle.ap_store.specs.declared.store.Store.{Store}

pub var_below : (m : ℕ) (t : NominalTerm) → IsBelow m t → (y : Var) → occurs y t ≡ true → y.num < m
var_below m unit h y o = cc
var_below m (name a) h y o = cc
var_below m (pair t u) h y o = elim (or_cases (occurs y t) (occurs y u) o) [ inl i ↦ var_below m t h.0 y i | inr i ↦ var_below m u h.1 y i ]
var_below m (app f t) h y o = var_below m t h y o
var_below m (abs a t) h y o = var_below m t h.1 y o
var_below m (susp p x) h y o = let e : y.num ≡ x.num = ap (λ (z : Var). z.num) (var_same y x o) in omega (arith, e, h.1)

-- Where each variable of what is bound has a property, so has each of what a term with such variables stands for.
module _ (P : Var → Type 0) where
  abbrev pub BindsEach : List Binding → Type 0
  BindsEach [] = Unit {0}
  BindsEach ((x := t) ∷ bs) = EachVar P t × BindsEach bs

  suspension_each : (bs : List Binding) → BindsEach bs → (p : List Swap) (x : Var) → P x → EachVar P (under bs (susp p x))
  suspension_each [] h p x l = each_susp P p x l
  suspension_each ((y := t) ∷ bs) h p x l =
      elim (var_eq x y) as (λ b. var_eq x y ≡ b → EachVar P (under ((y := t) ∷ bs) (susp p x))) [
        | true ↦ λ e. rw e (each_act P p t h.0)
        | false ↦ λ e. rw e (suspension_each bs h.1 p x l)
      ] refl

  pub under_each : (bs : List Binding) → BindsEach bs → (t : NominalTerm) → EachVar P t → EachVar P (under bs t)
  under_each bs h unit k = λ y o. cc
  under_each bs h (name a) k = λ y o. cc
  under_each bs h (pair t u) k = each_pair P (under bs t) (under bs u) (under_each bs h t (each_left P t u k)) (under_each bs h u (each_right P t u k))
  under_each bs h (app f t) k = under_each bs h t k
  under_each bs h (abs a t) k = under_each bs h t k
  under_each bs h (susp p x) k = suspension_each bs h p x (k x (same_var x x refl))

  pub put_each : (x : Var) (v : NominalTerm) → EachVar P v → (bs : List Binding) → BindsEach bs → BindsEach (map (put_binding x v) bs)
  put_each x v h [] k = tt
  put_each x v h ((y := t) ∷ bs) k = (each_put P P x v (λ z l d. l) h t k.0, put_each x v h bs k.1)

module _ (n : ℕ) where
  abbrev IsOlder : Var → Type 0
  IsOlder y = y.num < n

  closure_older : (c : Closure) → c.end ≤ n → EachVar IsOlder (closure_term c)
  closure_older c l y o =
      let k : y.num < c.end = var_below c.end (rename_term c.base (term_of c.term.now)) c.below y (sym (occurs_act y c.swaps.items (rename_term c.base (term_of c.term.now))) ∙ o) in
      omega arith

  abbrev EachBoundOlder : List Change → Type 0
  EachBoundOlder [] = Unit {0}
  EachBoundOlder (Bound x t ∷ cs) = EachVar IsOlder t × EachBoundOlder cs
  EachBoundOlder (c ∷ cs) = EachBoundOlder cs

  older_after : (cs : List Change) (a : Triple) → EachBoundOlder cs → BindsEach IsOlder a.bindings → BindsEach IsOlder (present_after cs a).bindings
  older_after [] a l h = h
  older_after (Made m ∷ cs) a l h = older_after cs (after (Made m) a) l h
  older_after (Bound x t ∷ cs) a l h =
      let v : EachVar IsOlder (under a.bindings t) = under_each IsOlder a.bindings h t l.0 in
      older_after cs (after (Bound x t) a) l.1 (v, put_each IsOlder x (under a.bindings t) v a.bindings h)
  older_after (Added c ∷ cs) a l h = older_after cs (after (Added c) a) l h
  older_after (Taken x es ∷ cs) a l h = older_after cs (after (Taken x es) a) l h

  -- what stands in the table has older variables
  kept_older : (b : Value) → IsKeptBelow n b → EachVar IsOlder (kept_term b)
  kept_older Unbound h = λ y o. cc
  kept_older (Plain m t) h = λ y o. var_below n (rename_term m (term_of t.now)) h y o
  kept_older (Ground m t) h = λ y o. var_below n (rename_term m (term_of t.now)) h y o
  kept_older (Moved c) h = h

  bound_older : (ss : List Slot) (i : ℕ) → AreKeptBelow n ss → EachVar IsOlder (term_or_unit (bound_in ss i))
  bound_older [] i h = λ y o. cc
  bound_older (s ∷ ss) zero h = kept_older s.value h.0
  bound_older (s ∷ ss) (suc i) h = bound_older ss i h.1

  changes_older : (ss : List Slot) (es : List Entry) (ns : List Noted) → AreKeptBelow n ss → EachBoundOlder (changes_in ss es ns)
  changes_older ss [] ns h = tt
  changes_older ss (entries.Made m ∷ es) ns h = changes_older ss es ns h
  changes_older ss (entries.Bound i ∷ es) ns h = (bound_older ss i h, changes_older ss es ns h)
  changes_older ss (entries.Noted ∷ es) [] h = changes_older ss es [] h
  changes_older ss (entries.Noted ∷ es) (notes.Added c ∷ ns) h = changes_older ss es ns h
  changes_older ss (entries.Noted ∷ es) (notes.Taken x cs ∷ ns) h = changes_older ss es ns h

-- what is below a number is below a greater one
pub kept_rises : (m n : ℕ) → m ≤ n → (b : Value) → IsKeptBelow m b → IsKeptBelow n b
kept_rises m n l Unbound h = tt
kept_rises m n l (Plain b t) h = below_more n m l (rename_term b (term_of t.now)) h
kept_rises m n l (Ground b t) h = below_more n m l (rename_term b (term_of t.now)) h
kept_rises m n l (Moved c) h = λ y o. let k : y.num < m = h y o in omega (arith, k, l)

pub all_kept_rises : (m n : ℕ) → m ≤ n → (ss : List Slot) → AreKeptBelow m ss → AreKeptBelow n ss
all_kept_rises m n l [] h = tt
all_kept_rises m n l (s ∷ ss) h = (kept_rises m n l s.value h.0, all_kept_rises m n l ss h.1)

-- where each term that is bound is below a number, so is what is kept
some_kept : (n : ℕ) (b : Value) → ((t : NominalTerm) → value_term b ≡ Some t → IsBelow n t) → IsKeptBelow n b
some_kept n Unbound f = tt
some_kept n (Plain b t) f = f (rename_term b (term_of t.now)) refl
some_kept n (Ground b t) f = f (rename_term b (term_of t.now)) refl
some_kept n (Moved c) f = λ y o. var_below n (closure_term c.value) (f (closure_term c.value) refl) y o

pub all_kept : (n : ℕ) (ss : List Slot) → ((i : ℕ) (t : NominalTerm) → bound_in ss i ≡ Some t → IsBelow n t) → AreKeptBelow n ss
all_kept n [] f = tt
all_kept n (s ∷ ss) f = (some_kept n s.value (f 0), all_kept n ss (λ i. f (suc i)))

pub kept_at : (n : ℕ) (ss : List Slot) (i : ℕ) (d : Slot) → i < length ss → AreKeptBelow n ss → IsKeptBelow n (get_or ss i d).value
kept_at n [] i d l h = absurd (omega arith)
kept_at n (s ∷ ss) zero d l h = h.0
kept_at n (s ∷ ss) (suc i) d l h = kept_at n ss i d (omega arith) h.1

pub kept_append : (n : ℕ) (ss us : List Slot) → AreKeptBelow n ss → AreKeptBelow n us → AreKeptBelow n (ss ++ us)
kept_append n [] us h k = k
kept_append n (s ∷ ss) us h k = (h.0, kept_append n ss us h.1 k)

pub kept_set : (n : ℕ) (ss : List Slot) (i : ℕ) (s : Slot) → IsKeptBelow n s.value → AreKeptBelow n ss → AreKeptBelow n (slice_set ss i s)
kept_set n [] zero s h k = tt
kept_set n [] (suc i) s h k = tt
kept_set n (t ∷ ss) zero s h k = (h, k.1)
kept_set n (t ∷ ss) (suc i) s h k = (k.0, kept_set n ss i s h k.1)

pub kept_take : (n m : ℕ) (ss : List Slot) → AreKeptBelow n ss → AreKeptBelow n (take m ss)
kept_take n zero [] h = tt
kept_take n zero (s ∷ ss) h = tt
kept_take n (suc m) [] h = tt
kept_take n (suc m) (s ∷ ss) h = (h.0, kept_take n m ss h.1)

-- the variables of a closure's term
pub closure_vars : (c : Closure) → EachVar (λ y. y.num < c.end) (closure_term c)
closure_vars c = closure_older c.end c (omega arith)

-- a variable that is not below what was bound nor below the closure's end does not occur
pub new_is_absent : (s : Store) (x : Var) (c : Closure) → s.reach ≤ x.num → c.end ≤ x.num → occurs x (meaning_in s c) ≡ false
new_is_absent s x c l k =
    let kept = all_kept_rises s.reach x.num l s.table.items s.stored.4 in
    let h = older_after x.num (changes s) empty (changes_older x.num s.table.items s.trail.items s.noted.items kept) tt in
    let each = under_each (IsOlder x.num) (bindings_of s) h (closure_term c) (closure_older x.num c k) in
    false_if_not (occurs x (meaning_in s c)) (λ o. let e : x.num < x.num = each x o in absurd (omega arith))
