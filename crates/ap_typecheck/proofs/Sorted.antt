-- Sorts and kinds change nothing of where identifiers stand.
use Rattle.std.proofs.Common.{◌≡◌, ◌⊎◌, inl, inr, ℕ, zero, suc, ◌<◌, ◌≤◌, Bool, true, false, not, ◌&&◌, ◌||◌, ◌==◌, List, [], ◌∷◌, ◌++◌, length, refl, sym, ap, subst, ◌∙◌, arith, true≢false}
use Rattle.std.proofs.lemmas.List.{length-map}
use Rattle.std.proofs.lemmas.Bool.Decides.{Decides-eqb}
use Rattle.ap_defs.specs.declared.terms.Id.{Id}
use Rattle.ap_defs.specs.declared.terms.Id.TheVariants as ids
use Rattle.ap_defs.specs.RawTerms as raw
use Rattle.ap_defs.specs.RawTerms.{RawTerm}
use Rattle.ap_defs.specs.Types as types
use Rattle.ap_defs.specs.Types.{NominalKind}
use Rattle.ap_defs.specs.Resolution.{kinds_of}
use Rattle.ap_defs.specs.Goals.{GoalOver, succeed, atom, equal, fresh, both, either, exists, new}
use Rattle.ap_kinds.specs.ItemKinds.{AreOfClasses}
use Rattle.ap_kinds.specs.declared.kinds.IdentKind.{IdentKind}
use Rattle.ap_kinds.specs.declared.kinds.IdentKind.TheVariants as classes
use Rattle.ap_kinds.specs.Sorts.{with_sorts, terms_with_sorts, goal_with_sorts, id_with_sort}
use Rattle.ap_program.specs.Typed.{id_number, brought, stands_in_raw, stands_in_some, stands_free, has_number, EachOnce, is_marked, AreMarked, IsScoped}
use Rattle.ap_scopes.specs.Identifiers.{Found}
use Rattle.ap_typecheck.specs.Declaring.{with_kinds}
use Rattle.ap_typecheck.specs.Checking.{class_of, classes_of}
use Rattle.ap_typecheck.proofs.Scoping.{Each, EachIn, EachFree, IsAt, IsKnown, Ascends, AreBound}

-- with sorts
module _ (P : ℕ → Type 0) (ks : List NominalKind) where
  id-sorted : (i : Id) → P (id_number i) → P (id_number (id_with_sort ks i))
  id-sorted (ids.Name a) h = h
  id-sorted (ids.Var x) h = h

  each-sorted : (t : RawTerm) → Each P t → Each P (with_sorts ks t)
  each-sorted raw.unit h = h
  each-sorted (raw.name a) h = h
  each-sorted (raw.var x) h = h
  each-sorted (raw.pair t u) h = (each-sorted t h.0, each-sorted u h.1)
  each-sorted (raw.app f t) h = each-sorted t h
  each-sorted (raw.abs i t) h = (id-sorted i h.0, each-sorted t h.1)
  each-sorted (raw.swapped i j t) h = (id-sorted i h.0, id-sorted j h.1, each-sorted t h.2)

  pub each_in-sorted : (ts : List RawTerm) → EachIn P ts → EachIn P (terms_with_sorts ks ts)
  each_in-sorted [] h = h
  each_in-sorted (t ∷ ts) h = (each-sorted t h.0, each_in-sorted ts h.1)

pub each_free-sorted : (P : ℕ → Type 0) (ks : List NominalKind) (g : GoalOver RawTerm) → EachFree P g → EachFree P (goal_with_sorts ks g)
each_free-sorted P ks succeed h = h
each_free-sorted P ks (atom p ts) h = each_in-sorted P ks ts h
each_free-sorted P ks (equal t u) h = (each-sorted P ks t h.0, each-sorted P ks u h.1)
each_free-sorted P ks (fresh t u) h = (each-sorted P ks t h.0, each-sorted P ks u h.1)
each_free-sorted P ks (both g k) h = (each_free-sorted P ks g h.0, each_free-sorted P ks k h.1)
each_free-sorted P ks (either g k) h = (each_free-sorted P ks g h.0, each_free-sorted P ks k h.1)
each_free-sorted P ks (exists x g) h = each_free-sorted (λ n. (n ≡ x.num) ⊎ P n) ks g h
each_free-sorted P ks (new a g) h = each_free-sorted (λ n. (n ≡ a.num) ⊎ P n) ks g h

pub brought-sorted : (ks : List NominalKind) (g : GoalOver RawTerm) → brought (goal_with_sorts ks g) ≡ brought g
brought-sorted ks succeed = refl
brought-sorted ks (atom p ts) = refl
brought-sorted ks (equal t u) = refl
brought-sorted ks (fresh t u) = refl
brought-sorted ks (both g k) = ap (λ ns. ns ++ brought (goal_with_sorts ks k)) (brought-sorted ks g) ∙ ap (λ ns. brought g ++ ns) (brought-sorted ks k)
brought-sorted ks (either g k) = ap (λ ns. ns ++ brought (goal_with_sorts ks k)) (brought-sorted ks g) ∙ ap (λ ns. brought g ++ ns) (brought-sorted ks k)
brought-sorted ks (exists x g) = ap (λ ns. x.num ∷ ns) (brought-sorted ks g)
brought-sorted ks (new a g) = ap (λ ns. a.num ∷ ns) (brought-sorted ks g)

-- what does not hold of a number: it stands nowhere
or_false : (a b : Bool) → a ≡ false → b ≡ false → (a || b) ≡ false
or_false false b e f = f
or_false true b e f = absurd (cc)

differs : (P : ℕ → Type 0) (n m : ℕ) → P m → (P n → ⊥) → (n == m) ≡ false
differs P n m h none = by (n == m) refl
  where
    by : (b : Bool) → (n == m) ≡ b → (n == m) ≡ false
    by false e = e
    by true e = absurd (none (subst P (sym ((Decides-eqb n m).0 e)) h))

module _ (P : ℕ → Type 0) (n : ℕ) (none : P n → ⊥) where
  pub absent-raw : (t : RawTerm) → Each P t → stands_in_raw n t ≡ false
  absent-raw raw.unit h = refl
  absent-raw (raw.name a) h = differs P n a.num h none
  absent-raw (raw.var x) h = differs P n x.num h none
  absent-raw (raw.pair t u) h = or_false (stands_in_raw n t) (stands_in_raw n u) (absent-raw t h.0) (absent-raw u h.1)
  absent-raw (raw.app f t) h = absent-raw t h
  absent-raw (raw.abs i t) h = or_false (n == id_number i) (stands_in_raw n t) (differs P n (id_number i) h.0 none) (absent-raw t h.1)
  absent-raw (raw.swapped i j t) h =
      or_false ((n == id_number i) || (n == id_number j)) (stands_in_raw n t)
      (or_false (n == id_number i) (n == id_number j) (differs P n (id_number i) h.0 none) (differs P n (id_number j) h.1 none)) (absent-raw t h.2)

  pub absent-some : (ts : List RawTerm) → EachIn P ts → stands_in_some stands_in_raw n ts ≡ false
  absent-some [] h = refl
  absent-some (t ∷ ts) h = or_false (stands_in_raw n t) (stands_in_some stands_in_raw n ts) (absent-raw t h.0) (absent-some ts h.1)

hidden : (P : ℕ → Type 0) (n m : ℕ) → (P n → ⊥) → (rest : Bool) → ((((n ≡ m) ⊎ P n) → ⊥) → rest ≡ false) → (not (n == m) && rest) ≡ false
hidden P n m none rest h = by (n == m) refl
  where
    neither : ((n == m) ≡ false) → (n ≡ m) ⊎ P n → ⊥
    neither e (inl k) = true≢false (sym ((Decides-eqb n m).1 k) ∙ e)
    neither e (inr k) = none k

    by : (b : Bool) → (n == m) ≡ b → (not b && rest) ≡ false
    by true e = refl
    by false e = h (neither e)

pub absent-free : (P : ℕ → Type 0) (n : ℕ) → (P n → ⊥) → (g : GoalOver RawTerm) → EachFree P g → stands_free stands_in_raw n g ≡ false
absent-free P n none succeed h = refl
absent-free P n none (atom p ts) h = absent-some P n none ts h
absent-free P n none (equal t u) h = or_false (stands_in_raw n t) (stands_in_raw n u) (absent-raw P n none t h.0) (absent-raw P n none u h.1)
absent-free P n none (fresh t u) h = or_false (stands_in_raw n t) (stands_in_raw n u) (absent-raw P n none t h.0) (absent-raw P n none u h.1)
absent-free P n none (both g k) h = or_false (stands_free stands_in_raw n g) (stands_free stands_in_raw n k) (absent-free P n none g h.0) (absent-free P n none k h.1)
absent-free P n none (either g k) h = or_false (stands_free stands_in_raw n g) (stands_free stands_in_raw n k) (absent-free P n none g h.0) (absent-free P n none k h.1)
absent-free P n none (exists x g) h = hidden P n x.num none (stands_free stands_in_raw n g) (λ out. absent-free (λ m. (m ≡ x.num) ⊎ P m) n out g h)
absent-free P n none (new a g) h = hidden P n a.num none (stands_free stands_in_raw n g) (λ out. absent-free (λ m. (m ≡ a.num) ⊎ P m) n out g h)

-- what ascends has no number twice
not_among : (m low : ℕ) → m < low → (ns : List ℕ) → Ascends low ns → has_number m ns ≡ false
not_among m low l [] h = refl
not_among m low l (n ∷ ns) h =
    let first : low ≤ n = h.0 in
    or_false (m == n) (has_number m ns) (differs (λ k. low ≤ k) m n first (λ k. let k' : low ≤ m = k in omega arith)) (not_among m (suc n) (omega arith) ns h.1)

pub each_once : (low : ℕ) (ns : List ℕ) → Ascends low ns → EachOnce ns
each_once low [] h = h
each_once low (n ∷ ns) h = (not_among n (suc n) (omega arith) ns h.1, each_once (suc n) ns h.1)

-- with kinds
same_length : (cs : List IdentKind) (ks : List NominalKind) → AreOfClasses cs ks → length cs ≡ length ks
same_length [] [] h = refl
same_length (classes.Name ∷ cs) (types.name s ∷ ks) h = ap suc (same_length cs ks h)
same_length (classes.Var ∷ cs) (types.var t ∷ ks) h = ap suc (same_length cs ks h)
same_length [] (k ∷ ks) h = absurd h
same_length (classes.Name ∷ cs) [] h = absurd h
same_length (classes.Var ∷ cs) [] h = absurd h
same_length (classes.Name ∷ cs) (types.var t ∷ ks) h = absurd h
same_length (classes.Var ∷ cs) (types.name s ∷ ks) h = absurd h

pub as_many : (found : Found) (ks : List NominalKind) → AreOfClasses (classes_of found) ks → length found ≡ length ks
as_many found ks h = sym (length-map found (λ i. class_of i.spelling)) ∙ same_length (classes_of found) ks h

pub with_kinds_none : (found : Found) → with_kinds found [] ≡ []
with_kinds_none [] = refl
with_kinds_none (i ∷ is) = refl

pub kinds_back : (found : Found) (ks : List NominalKind) → length found ≡ length ks → kinds_of (with_kinds found ks) ≡ ks
kinds_back [] [] e = refl
kinds_back [] (k ∷ ks) e = absurd (omega arith)
kinds_back (i ∷ is) [] e = absurd (omega arith)
kinds_back (i ∷ is) (k ∷ ks) e = ap (λ r. k ∷ r) (kinds_back is ks (omega arith))

pub marked_at : (found : Found) (ks : List NominalKind) → length found ≡ length ks → (n : ℕ) → IsAt true found n → is_marked (with_kinds found ks) n ≡ true
marked_at [] ks e n h = absurd h
marked_at (i ∷ is) [] e n h = absurd (omega arith)
marked_at (i ∷ is) (k ∷ ks) e zero h = h
marked_at (i ∷ is) (k ∷ ks) e (suc n) h = marked_at is ks (omega arith) n h

pub unmarked_at : (found : Found) (ks : List NominalKind) (n : ℕ) → is_marked (with_kinds found ks) n ≡ true → IsAt false found n → ⊥
unmarked_at [] ks n m h = h
unmarked_at (i ∷ is) [] n m h = true≢false (sym m)
unmarked_at (i ∷ is) (k ∷ ks) zero m h = true≢false (sym m ∙ h)
unmarked_at (i ∷ is) (k ∷ ks) (suc n) m h = unmarked_at is ks n m h

pub are_marked : (found : Found) (ks : List NominalKind) → length found ≡ length ks → (ns : List ℕ) → AreBound found ns → AreMarked (with_kinds found ks) ns
are_marked found ks e [] h = h
are_marked found ks e (n ∷ ns) h = (marked_at found ks e n h.0, are_marked found ks e ns h.1)

-- A clause or query with its kinds is scoped.
unknown : (found : Found) (ks : List NominalKind) (n : ℕ) → is_marked (with_kinds found ks) n ≡ true → IsKnown [] found n → ⊥
unknown found ks n m (inl h) = h
unknown found ks n m (inr h) = unmarked_at found ks n m h

pub scoped : (low : ℕ) (found : Found) (ks : List NominalKind) → length found ≡ length ks → (args : List RawTerm) (g : GoalOver RawTerm) → EachIn (IsKnown [] found) args → EachFree (IsKnown [] found) g
    → Ascends low (brought g) → AreBound found (brought g) → IsScoped stands_in_raw (with_kinds found ks) (terms_with_sorts ks args) (goal_with_sorts ks g)
scoped low found ks e args g heads body ascends bound = record {
  marked = subst (AreMarked (with_kinds found ks)) (sym (brought-sorted ks g)) (are_marked found ks e (brought g) bound);
  once = subst EachOnce (sym (brought-sorted ks g)) (each_once low (brought g) ascends);
  inside = λ n m. (
    absent-some (IsKnown [] found) n (unknown found ks n m) (terms_with_sorts ks args) (each_in-sorted (IsKnown [] found) ks args heads),
    absent-free (IsKnown [] found) n (unknown found ks n m) (goal_with_sorts ks g) (each_free-sorted (IsKnown [] found) ks g body),
  );
}
