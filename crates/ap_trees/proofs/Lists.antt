-- Lists with commas between.
use Rattle.std.proofs.Common.{◌≡◌, ◌<◌, ℕ, zero, suc, arith, List, [], ◌∷◌, ◌++◌, Option, None, Some, IfSome, refl, sym, ap, ◌∙◌, append_assoc, append-nil, subst, Result, Ok, Err, IfOk}
use Rattle.ap_trees.specs.declared.outcome.ReadError.{ReadError}
use Rattle.ap_trees.specs.declared.outcome.ReadError.TheVariants as errors
use Rattle.ap_trees.specs.Outcomes.{FailsPart, GivesPart}
use Rattle.ap_trees.specs.Readers.{SymbolReader, with_before, further, separated}
use Rattle.ap_trees.specs.Symbols.{Sym}
use Rattle.ap_trees.specs.Types.{Ty, Pair, tuple_type}

pub tuple_end : (ts : List Ty) (t u : Ty) → tuple_type (ts ++ t ∷ u ∷ []) ≡ tuple_type (ts ++ Pair t u ∷ [])
tuple_end [] t u = refl
tuple_end (s ∷ []) t u = refl
tuple_end (s ∷ r ∷ ts) t u = ap (λ v. Pair s v) (tuple_end (r ∷ ts) t u)

module _ {A : Type 0} where
  pub with_front-nil : (read : Option (List A × List Sym)) → with_before [] read ≡ read
  with_front-nil None = refl
  with_front-nil (Some x) = refl

  pub with_front-append : (front more : List A) (read : Option (List A × List Sym)) → with_before front (with_before more read) ≡ with_before (front ++ more) read
  with_front-append front more None = refl
  with_front-append front more (Some x) = ap (λ all. Some (all, x.1)) (sym (append_assoc front more x.0))

  -- the first thing
  pub separated_first : (after : List Sym → Option (List Sym)) (read : SymbolReader A) (n k : ℕ) (ts rest : List Sym) (x : A) → n ≡ suc k → read ts ≡ Some (x, rest)
      → with_before (x ∷ []) (further after (separated after read k) rest) ≡ separated after read n ts
  unfolding separated
  separated_first after read n k ts rest x e got = rw (e, separated, got) refl

  -- the first thing, and no mark behind it
  pub separated_alone : (after : List Sym → Option (List Sym)) (read : SymbolReader A) (n : ℕ) (ts rest : List Sym) (x : A) → 0 < n → read ts ≡ Some (x, rest) → after rest ≡ None → separated after read n ts ≡ Some (x ∷ [], rest)
  separated_alone after read zero ts rest x some got none = absurd (omega arith)
  separated_alone after read (suc k) ts rest x some got none = sym (separated_first after read (suc k) k ts rest x refl got) ∙ rw none refl

  -- one more thing, after a comma
  pub further_on : (after : List Sym → Option (List Sym)) (read : SymbolReader A) (n k : ℕ) (front : List A) (ts us rest : List Sym) (x : A) → n ≡ suc k → after ts ≡ Some us → read us ≡ Some (x, rest)
      → with_before (front ++ x ∷ []) (further after (separated after read k) rest) ≡ with_before front (further after (separated after read n) ts)
  unfolding separated
  further_on after read n k front ts us rest x e comma got = rw (e, comma, separated, got) (sym (with_front-append front (x ∷ []) (further after (separated after read k) rest)))

  -- nothing more
  pub further_ends : (after : List Sym → Option (List Sym)) (read : SymbolReader A) (n : ℕ) (front : List A) (ts : List Sym) → after ts ≡ None → with_before front (further after (separated after read n) ts) ≡ Some (front, ts)
  further_ends after read n front ts comma = rw comma (ap (λ all. Some (all, ts)) (append-nil front))

  -- nothing of the kind
  pub separated_fails : (after : List Sym → Option (List Sym)) (read : SymbolReader A) (n : ℕ) (ts : List Sym) → read ts ≡ None → separated after read n ts ≡ None
  unfolding separated
  separated_fails after read zero ts got = refl
  separated_fails after read (suc k) ts got = rw (separated, got) refl

  pub further_fails : (after : List Sym → Option (List Sym)) (read : SymbolReader A) (n : ℕ) (front : List A) (ts us : List Sym) → after ts ≡ Some us → read us ≡ None → with_before front (further after (separated after read n) ts) ≡ None
  further_fails after read n front ts us comma got = rw (comma, separated_fails after read n us got) refl

-- what fails where something else does
pub fails_on : {Y Z : Type 0} (e : ReadError) (r : Option Y) (s : Option Z) → (r ≡ None → s ≡ None) → FailsPart e r → FailsPart e s
fails_on errors.Memory r s on f = tt
fails_on errors.Grammar r s on f = on f

-- what a function gives, said of an equal reading
pub gives_as : {X Y : Type 0} (view : X → Y) (r : Result X ReadError) (a b : Option Y) → GivesPart view r a → b ≡ a → GivesPart view r b
gives_as view r a b g e = subst (GivesPart view r) (sym e) g

-- what is read has what any reading has
pub some_is : {A : Type 0} (o : Option A) (x : A) (P : A → Type 0) → o ≡ Some x → IfSome o P → P x
some_is o x P e h = subst (λ s. IfSome s P) e h

-- what is returned has what follows from its being read
pub gives_ok : {X Y : Type 0} (view : X → Y) (Q : X → Type 0) (r : Result X ReadError) (a : Option Y) → GivesPart view r a → ((x : X) → a ≡ Some (view x) → Q x) → IfOk r Q
gives_ok view Q (Ok x) a g also = also x g
gives_ok view Q (Err e) a g also = tt

-- what is returned has what follows from what it has
pub ok_weaker : {X : Type 0} (P Q : X → Type 0) (r : Result X ReadError) → IfOk r P → ((x : X) → P x → Q x) → IfOk r Q
ok_weaker P Q (Ok x) h weaker = weaker x h
ok_weaker P Q (Err e) h weaker = tt
