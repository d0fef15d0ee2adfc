-- What is read is in the grammar, and what is in the grammar is read.
use Rattle.std.proofs.Common.{◌≡◌, ℕ, zero, suc, ◌<◌, ◌≤◌, List, [], ◌∷◌, length, Option, None, Some, IfSome, Result, Ok, Err, IfOk, refl, sym, ap, ◌∙◌, arith, subst}
use Rattle.ap_trees.specs.declared.outcome.ReadError.{ReadError}
use Rattle.ap_trees.specs.Outcomes.{GivesPart}
use Rattle.ap_trees.specs.Readers.{SymbolReader, ◌>>=◌, with_before, further, separated, after_comma, after_lambda, after_close, after_close_list, at_end}
use Rattle.ap_trees.specs.declared.symbols.Symbol.{Symbol}
use Rattle.ap_trees.specs.Symbols.{Sym, Ident, Open, Close, OpenList, CloseList, Comma, Lambda, syms, sym as symbol}
use Rattle.ap_trees.specs.TypeGrammar.{IsType, AreTypes, word, abs, unit, group, array, sole, several}
use Rattle.ap_trees.specs.TypeReader.{read_type, type_after_word, type_of_word, type_after_open, type_of_group, array_of, all_type}
use Rattle.ap_trees.specs.Types.{Ty, Unit, Word, Array, Abs, tuple_type}
use Rattle.std.proofs.lemmas.List.{length-map}
use Rattle.ap_trees.proofs.Lists.{some_is}

-- what holds after two steps
pub bind_if : {A B : Type 0} (r : Option A) (f : A → Option B) (P : A → Type 0) (Q : B → Type 0) → IfSome r P → ((x : A) → P x → IfSome (f x) Q) → IfSome (r >>= f) Q
bind_if None f P Q p next = tt
bind_if (Some x) f P Q p next = next x p

pub close_is : (ts : List Sym) → IfSome (after_close ts) (λ us. ts ≡ Close ∷ us)
close_is (Close ∷ us) = refl
close_is ts = tt

pub close_list_is : (ts : List Sym) → IfSome (after_close_list ts) (λ us. ts ≡ CloseList ∷ us)
close_list_is (CloseList ∷ us) = refl
close_list_is ts = tt

-- a reader whose readings are types
abbrev pub Sound : SymbolReader Ty → Type 0
Sound read = (ts : List Sym) → IfSome (read ts) (λ x. IsType ts x.0 x.1)

further_sound : (others : SymbolReader (List Ty)) → ((us : List Sym) → IfSome (others us) (λ y. AreTypes us y.0 y.1)) → (ts : List Sym) (x : Ty) (after : List Sym) → IsType ts x after
    → IfSome (with_before (x ∷ []) (further after_comma others after)) (λ y. AreTypes ts y.0 y.1)
further_sound others sound ts x (Comma ∷ us) h = bind_if (others us) _ _ _ (sound us) (λ y g. several h g)
further_sound others sound ts x after h = sole h

pub types_sound : (read : SymbolReader Ty) → Sound read → (k : ℕ) (ts : List Sym) → IfSome (separated after_comma read k ts) (λ x. AreTypes ts x.0 x.1)
unfolding separated
types_sound read sound zero ts = tt
types_sound read sound (suc k) ts = bind_if (read ts) _ _ _ (sound ts) (λ first h. further_sound (separated after_comma read k) (types_sound read sound k) ts first.0 first.1 h)

word_sound : (read : SymbolReader Ty) → Sound read → (w : List ℕ) (ts : List Sym) → IfSome (type_after_word read w ts (after_lambda ts)) (λ x. IsType (Ident w ∷ ts) x.0 x.1)
word_sound read sound w (Lambda ∷ us) = bind_if (read us) _ _ _ (sound us) (λ x h. abs h)
word_sound read sound w ts = word

group_sound : (ts : List Sym) (parts : List Ty) (after : List Sym) → AreTypes ts parts after → IfSome {T = Ty × List Sym} (after_close after >>= (λ rest. Some (tuple_type parts, rest))) (λ x. IsType (Open ∷ ts) x.0 x.1)
group_sound ts parts after h = bind_if (after_close after) _ _ _ (close_is after) (λ rest e. group parts (subst (AreTypes ts parts) e h))

open_sound : (others : SymbolReader (List Ty)) → ((us : List Sym) → IfSome (others us) (λ y. AreTypes us y.0 y.1)) → (ts : List Sym) → IfSome (type_after_open others ts (after_close ts)) (λ x. IsType (Open ∷ ts) x.0 x.1)
open_sound others sound (Close ∷ us) = unit
open_sound others sound ts = bind_if (others ts) _ _ _ (sound ts) (λ parts h. group_sound ts parts.0 parts.1 h)

-- What is read is in the grammar.
pub type_sound : (n : ℕ) → Sound (read_type n)
unfolding read_type type_of_word type_of_group array_of
type_sound zero ts = tt
type_sound (suc n) (Ident w ∷ ts) = word_sound (read_type n) (type_sound n) w ts
type_sound (suc n) (Open ∷ ts) = open_sound (separated after_comma (read_type n) (length ts)) (types_sound (read_type n) (type_sound n) (length ts)) ts
type_sound (suc n) (OpenList ∷ ts) =
    bind_if (read_type n ts) _ _ _ (type_sound n ts) (λ x h. bind_if (after_close_list x.1) _ _ _ (close_list_is x.1) (λ rest e. array (subst (IsType ts x.0) e h)))
type_sound (suc n) ts = tt

mutual
  pub type_shrinks : {ts rest : List Sym} {t : Ty} → IsType ts t rest → length rest < length ts
  type_shrinks word = omega arith
  type_shrinks (abs h) = omega (arith, type_shrinks h)
  type_shrinks unit = omega arith
  type_shrinks (group parts h) = omega (arith, types_shrink h)
  type_shrinks (array h) = omega (arith, type_shrinks h)

  pub types_shrink : {ts rest : List Sym} {parts : List Ty} → AreTypes ts parts rest → length rest < length ts
  types_shrink (sole h) = type_shrinks h
  types_shrink (several h g) = omega (arith, type_shrinks h, types_shrink g)

-- What follows what is read is shorter.
pub type_shorter : (n : ℕ) (ts us : List Symbol) (t : Ty) → read_type n (syms ts) ≡ Some (t, syms us) → length us < length ts
type_shorter n ts us t got =
    let h : IsType (syms ts) t (syms us) = some_is (read_type n (syms ts)) (t, syms us) (λ x. IsType (syms ts) x.0 x.1) got (type_sound n (syms ts)) in
    omega (arith, type_shrinks h, length-map ts symbol, length-map us symbol)

-- no type begins with `)`
type_not_close : {ts rest : List Sym} {t : Ty} → IsType ts t rest → after_close ts ≡ None
type_not_close word = refl
type_not_close (abs h) = refl
type_not_close unit = refl
type_not_close (group parts h) = refl
type_not_close (array h) = refl

pub types_not_close : {ts rest : List Sym} {parts : List Ty} → AreTypes ts parts rest → after_close ts ≡ None
types_not_close (sole h) = type_not_close h
types_not_close (several h g) = type_not_close h

-- one step of reading for each form
read_word : (n : ℕ) (w : List ℕ) (ts : List Sym) → after_lambda ts ≡ None → read_type (suc n) (Ident w ∷ ts) ≡ Some (Word w, ts)
unfolding read_type type_of_word
read_word n w ts ends = rw ends refl

read_abs : (n : ℕ) (w : List ℕ) (ts rest : List Sym) (t : Ty) → read_type n ts ≡ Some (t, rest) → read_type (suc n) (Ident w ∷ Lambda ∷ ts) ≡ Some (Abs w t, rest)
unfolding read_type type_of_word
read_abs n w ts rest t got = ap (λ r. r >>= (λ (body : Ty × List Sym). Some (Abs w body.0, body.1))) got

read_unit : (n : ℕ) (ts : List Sym) → read_type (suc n) (Open ∷ Close ∷ ts) ≡ Some (Unit, ts)
unfolding read_type type_of_group
read_unit n ts = refl

read_group : (n : ℕ) (ts rest : List Sym) (parts : List Ty) → after_close ts ≡ None → separated after_comma (read_type n) (length ts) ts ≡ Some (parts, Close ∷ rest) → read_type (suc n) (Open ∷ ts) ≡ Some (tuple_type parts, rest)
unfolding read_type type_of_group
read_group n ts rest parts other got = rw other (rw got refl)

read_array : (n : ℕ) (ts rest : List Sym) (t : Ty) → read_type n ts ≡ Some (t, CloseList ∷ rest) → read_type (suc n) (OpenList ∷ ts) ≡ Some (Array t, rest)
unfolding read_type array_of
read_array n ts rest t got = rw got refl

module _ {A : Type 0} where
  pub read_sole : (after : List Sym → Option (List Sym)) (read : SymbolReader A) (k : ℕ) (ts rest : List Sym) (x : A) → read ts ≡ Some (x, rest) → after rest ≡ None → separated after read (suc k) ts ≡ Some (x ∷ [], rest)
  unfolding separated
  read_sole after read k ts rest x got stops = rw got (rw stops refl)

  pub read_several : (after : List Sym → Option (List Sym)) (read : SymbolReader A) (k : ℕ) (ts us vs rest : List Sym) (x : A) (xs : List A) → read ts ≡ Some (x, us) → after us ≡ Some vs → separated after read k vs ≡ Some (xs, rest) → separated after read (suc k) ts ≡ Some (x ∷ xs, rest)
  unfolding separated
  read_several after read k ts us vs rest x xs got mark others = rw got (rw mark (rw others refl))

-- What is in the grammar is read, where no `\\` follows.
mutual
  pub type_only : {ts rest : List Sym} {t : Ty} → IsType ts t rest → (n : ℕ) → length ts ≤ n → after_lambda rest ≡ None → read_type n ts ≡ Some (t, rest)
  type_only h zero fits ends = absurd (omega (arith, type_shrinks h))
  type_only word (suc n) fits ends = read_word n _ _ ends
  type_only (abs h) (suc n) fits ends = read_abs n _ _ _ _ (type_only h n (omega arith) ends)
  type_only unit (suc n) fits ends = read_unit n _
  type_only (group {ts = ts} parts h) (suc n) fits ends = read_group n _ _ parts (types_not_close h) (types_only h n (length ts) (omega arith) (omega arith) refl refl)
  type_only (array h) (suc n) fits ends = read_array n _ _ _ (type_only h n (omega arith) refl)

  pub types_only : {ts rest : List Sym} {parts : List Ty} → AreTypes ts parts rest → (n k : ℕ) → length ts ≤ n → length ts ≤ k → after_lambda rest ≡ None → after_comma rest ≡ None
      → separated after_comma (read_type n) k ts ≡ Some (parts, rest)
  types_only h n zero fits few ends stops = absurd (omega (arith, types_shrink h))
  types_only (sole h) n (suc k) fits few ends stops = read_sole after_comma (read_type n) k _ _ _ (type_only h n fits ends) stops
  types_only (several h g) n (suc k) fits few ends stops =
      read_several after_comma (read_type n) k _ _ _ _ _ _ (type_only h n fits refl) refl (types_only g n k (omega (arith, type_shrinks h)) (omega (arith, type_shrinks h)) ends stops)

-- There is one reading.
pub one_type : {ts : List Sym} {t u : Ty} → IsType ts t [] → IsType ts u [] → t ≡ u
one_type {ts} {t} {u} h g =
    let both : Some (t, []) ≡ Some (u, []) = sym (type_only h (length ts) (omega arith) refl) ∙ type_only g (length ts) (omega arith) refl in
    let pair : ◌≡◌ {A = Ty × List Sym} (t, []) (u, []) = cc both in
    ap (λ (p : Ty × List Sym). p.0) pair

at_end_sound : {ts : List Sym} {x : Ty} (rest : List Sym) → IsType ts x rest → IfSome (at_end x rest) (λ t. IsType ts t [])
at_end_sound [] h = h
at_end_sound (t ∷ rest) h = tt

pub all_sound : (ts : List Sym) → IfSome (all_type ts) (λ t. IsType ts t [])
unfolding all_type
all_sound ts = bind_if (read_type (length ts) ts) _ _ _ (type_sound (length ts) ts) (λ x h. at_end_sound x.1 h)

pub all_only : (ts : List Sym) (t : Ty) → IsType ts t [] → all_type ts ≡ Some t
unfolding all_type
all_only ts t h = rw (type_only h (length ts) (omega arith) refl) refl

-- from what a function gives to what it says
pub gives_found : {X Y : Type 0} (view : X → Y) (r : Result X ReadError) (read : Option Y) (P : Y → Type 0) → GivesPart view r read → IfSome read P → IfOk r (λ x. P (view x))
gives_found view (Ok x) read P g h = subst (λ o. IfSome o P) g h
gives_found view (Err e) read P g h = tt

pub gives_only : {X Y : Type 0} (view : X → Y) (r : Result X ReadError) (read : Option Y) (t : Y) → GivesPart view r read → read ≡ Some t → GivesPart view r (Some t)
gives_only view r read t g e = subst (GivesPart view r) e g

pub gives_one : {X Y : Type 0} (view : X → Y) (r : Result X ReadError) (read : Option Y) (P : Y → Type 0) → GivesPart view r read → ((u : Y) → P u → read ≡ Some u) → IfOk r (λ x. (u : Y) → P u → u ≡ view x)
gives_one view (Ok x) read P g only = λ u h. let both : Some u ≡ Some (view x) = sym (only u h) ∙ g in cc both
gives_one view (Err e) read P g only = tt
