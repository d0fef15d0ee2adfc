-- One step of reading a term: what is read of it where its parts are.
use Rattle.std.proofs.Common.{◌≡◌, ◌<◌, ℕ, List, [], ◌∷◌, length, None, Some, refl, ap, ◌∙◌}
use Rattle.std.proofs.lemmas.List.{length-map}
use Rattle.ap_trees.specs.declared.symbols.Symbol.{Symbol}
use Rattle.ap_trees.specs.Readers.{SymbolReader, separated, after_comma, after_lambda, after_open, after_close, after_close_list, after_bar}
use Rattle.ap_trees.specs.Symbols.{Sym, CloseList, syms, sym as symbol}
use Rattle.ap_trees.specs.TermReader.{before_close, before_close_list, abstraction, list_within, application, word_term, variable, group, list_end, full_list, list_of, both_sides, swapped}
use Rattle.ap_trees.specs.Terms.{Name, Term, OfWord, OfVar, Unit, Variable, Word, Apply, Nil, Abs, Swapped, Cell, Last, argument_terms, tuple, cells}
use Rattle.ap_trees.proofs.Lists.{separated_alone, separated_fails}

-- the terms with commas between, of as many symbols as the code has
within : (read : SymbolReader Term) (xs : List Symbol) → list_within read (syms xs) ≡ separated after_comma read (length xs) (syms xs)
within read xs = ap (λ n. separated after_comma read n (syms xs)) (length-map xs symbol)

-- what closes a list is no comma and no bar
closes_alone : (ts us : List Sym) → after_close_list ts ≡ Some us → (after_comma ts ≡ None) × (after_bar ts ≡ None)
closes_alone [] us e = (refl, refl)
closes_alone (CloseList ∷ ts) us e = (refl, refl)
closes_alone (t ∷ ts) us e = cc

module _ (read : SymbolReader Term) where
  pub abstraction_fails : (name : Name) (ts : List Sym) → read ts ≡ None → abstraction read name ts ≡ None
  unfolding abstraction
  abstraction_fails name ts got = rw got refl

  pub abstraction_gives : (name : Name) (ts rest : List Sym) (t : Term) → read ts ≡ Some (t, rest) → abstraction read name ts ≡ Some (Abs name t, rest)
  unfolding abstraction
  abstraction_gives name ts rest t got = rw got refl

  pub variable_under : (w : List ℕ) (ts us : List Sym) → after_lambda ts ≡ Some us → variable read w ts ≡ abstraction read (OfVar w) us
  unfolding variable
  variable_under w ts us mark = rw mark refl

  pub variable_alone : (w : List ℕ) (ts : List Sym) → after_lambda ts ≡ None → variable read w ts ≡ Some (Variable w, ts)
  unfolding variable
  variable_alone w ts none = rw none refl

  pub word_under : (w : List ℕ) (ts us : List Sym) → after_lambda ts ≡ Some us → word_term read w ts ≡ abstraction read (OfWord w) us
  unfolding word_term
  word_under w ts us mark = rw mark refl

  pub word_applied : (w : List ℕ) (ts us : List Sym) → after_lambda ts ≡ None → after_open ts ≡ Some us → word_term read w ts ≡ application read w us
  unfolding word_term
  word_applied w ts us none mark = rw (none, mark) refl

  pub word_alone : (w : List ℕ) (ts : List Sym) → after_lambda ts ≡ None → after_open ts ≡ None → word_term read w ts ≡ Some (Word w, ts)
  unfolding word_term
  word_alone w ts none other = rw (none, other) refl

  -- an application of which nothing is read
  pub no_argument : (w : List ℕ) (ts : List Sym) → read ts ≡ None → application read w ts ≡ None
  unfolding application
  no_argument w ts got = rw (separated_fails after_comma read (length ts) ts got) refl

  -- an application of one argument
  pub one_argument : (w : List ℕ) (ts rest : List Sym) (t : Term) → 0 < length ts → read ts ≡ Some (t, rest) → after_comma rest ≡ None
      → application read w ts ≡ before_close (Apply w (Last t)) rest
  unfolding application
  one_argument w ts rest t some got none = rw (separated_alone after_comma read (length ts) ts rest t some got none) refl

  pub no_arguments : (w : List ℕ) (xs : List Symbol) → separated after_comma read (length xs) (syms xs) ≡ None → application read w (syms xs) ≡ None
  unfolding application
  no_arguments w xs got = rw (within read xs ∙ got) refl

  pub some_arguments : (w : List ℕ) (xs : List Symbol) (rest : List Sym) (parts : List Term) → separated after_comma read (length xs) (syms xs) ≡ Some (parts, rest)
      → application read w (syms xs) ≡ before_close (Apply w (argument_terms parts)) rest
  unfolding application
  some_arguments w xs rest parts got = rw (within read xs ∙ got) refl

  pub group_empty : (ts us : List Sym) → after_close ts ≡ Some us → group read ts ≡ Some (Unit, us)
  unfolding group
  group_empty ts us mark = rw mark refl

  pub group_fails : (xs : List Symbol) → after_close (syms xs) ≡ None → separated after_comma read (length xs) (syms xs) ≡ None → group read (syms xs) ≡ None
  unfolding group
  group_fails xs none got = rw (none, within read xs ∙ got) refl

  pub group_gives : (xs : List Symbol) (rest : List Sym) (parts : List Term) → after_close (syms xs) ≡ None → separated after_comma read (length xs) (syms xs) ≡ Some (parts, rest)
      → group read (syms xs) ≡ before_close (tuple parts) rest
  unfolding group
  group_gives xs rest parts none got = rw (none, within read xs ∙ got) refl

  pub list_empty : (ts us : List Sym) → after_close_list ts ≡ Some us → list_of read ts ≡ Some (Nil, us)
  unfolding list_of
  list_empty ts us mark = rw mark refl

  pub list_full : (ts : List Sym) → after_close_list ts ≡ None → list_of read ts ≡ full_list read ts
  unfolding list_of
  list_full ts none = rw none refl

  pub full_none : (ts : List Sym) → read ts ≡ None → full_list read ts ≡ None
  unfolding full_list
  full_none ts got = rw (separated_fails after_comma read (length ts) ts got) refl

  -- a list of one term
  pub full_alone : (ts rest us : List Sym) (t : Term) → 0 < length ts → read ts ≡ Some (t, rest) → after_close_list rest ≡ Some us → full_list read ts ≡ Some (Cell t Nil, us)
  unfolding full_list list_end
  full_alone ts rest us t some got mark =
      let none = closes_alone rest us mark in
      rw (separated_alone after_comma read (length ts) ts rest t some got none.0, none.1, mark) refl

  pub full_fails : (xs : List Symbol) → separated after_comma read (length xs) (syms xs) ≡ None → full_list read (syms xs) ≡ None
  unfolding full_list
  full_fails xs got = rw (within read xs ∙ got) refl

  pub full_endless : (xs : List Symbol) (after : List Sym) (parts : List Term) → separated after_comma read (length xs) (syms xs) ≡ Some (parts, after) → list_end read after ≡ None
      → full_list read (syms xs) ≡ None
  unfolding full_list
  full_endless xs after parts got none = rw (within read xs ∙ got, none) refl

  pub full_gives : (xs : List Symbol) (after rest : List Sym) (parts : List Term) (end : Term) → separated after_comma read (length xs) (syms xs) ≡ Some (parts, after) → list_end read after ≡ Some (end, rest)
      → full_list read (syms xs) ≡ before_close_list (cells parts end) rest
  unfolding full_list
  full_gives xs after rest parts end got last = rw (within read xs ∙ got, last) refl

  pub end_behind : (ts us : List Sym) → after_bar ts ≡ Some us → list_end read ts ≡ read us
  unfolding list_end
  end_behind ts us mark = rw mark refl

  pub end_absent : (ts : List Sym) → after_bar ts ≡ None → list_end read ts ≡ Some (Nil, ts)
  unfolding list_end
  end_absent ts none = rw none refl

  pub swapped_fails : (ts us : List Sym) (both : Name × Name) → both_sides ts ≡ Some (both, us) → read us ≡ None → swapped read ts ≡ None
  unfolding swapped
  swapped_fails ts us both sides got = rw (sides, got) refl

  pub swapped_gives : (ts us rest : List Sym) (both : Name × Name) (t : Term) → both_sides ts ≡ Some (both, us) → read us ≡ Some (t, rest) → swapped read ts ≡ before_close (Swapped both.0 both.1 t) rest
  unfolding swapped
  swapped_gives ts us rest both t sides got = rw (sides, got) refl
