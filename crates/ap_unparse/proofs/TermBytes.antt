-- The bytes of a term, by its form.
use Rattle.std.proofs.Common.{◌≡◌, ℕ, ◌+◌, ◌≤◌, ◌<◌, List, [], ◌∷◌, ◌++◌, refl, sym, ap, ◌∙◌, append_assoc, arith}
use Rattle.std.specs.Prelude.{codes, reverse}
use Rattle.std.proofs.lemmas.List.{append-nil, reverse-append}
use Rattle.ap_trees.specs.Terms.{Name, OfWord, OfVar, Term, Terms, Unit, Variable, Word, Apply, Pair, Nil, Cell, Abs, Swapped, Last, More}
use Rattle.ap_unparse.specs.declared.context.Context.{Context}
use Rattle.ap_unparse.specs.declared.context.Context.TheVariants.{Whole, Part, Rest}
use Rattle.ap_unparse.specs.Written.{Written, bytes_of}
use Rattle.ap_unparse.specs.WrittenTerms.{written_name, name_text, barred_words, tuple_opening, tuple_closing, list_opening, list_closing, swap_opening, abs_opening, apply_opening, term_at, arguments_of}
use Rattle.ap_unparse.proofs.ByteLemmas.{bytes_of-append}

-- What is written, what is left of a term, and what is kept, in the order in which they will stand.
abbrev pub all_term : List ℕ → Context → Term → List ℕ → List ℕ
all_term out context t closers = out ++ (bytes_of (term_at context t) ++ reverse closers)

barred_bytes : (context : Context) (ws : List Written) → bytes_of (barred_words context ws) ≡ bytes_of (barred_words context []) ++ bytes_of ws
barred_bytes Whole ws = refl
barred_bytes Part ws = refl
barred_bytes Rest ws = refl

name_bytes : (name : Name) (ws : List Written) → bytes_of (written_name name ∷ ws) ≡ name_text name ++ bytes_of ws
name_bytes (OfWord w) ws = refl
name_bytes (OfVar w) ws = refl

pair_bytes : (context : Context) (t u : Term)
    → bytes_of (term_at context (Pair t u)) ≡ tuple_opening context ++ (bytes_of (term_at Whole t) ++ (codes "," ++ (bytes_of (term_at Part u) ++ tuple_closing context)))
pair_bytes Whole t u = simp (bytes_of-append, append_assoc)
pair_bytes Part t u = simp (bytes_of-append, append-nil)
pair_bytes Rest t u = simp (bytes_of-append, append_assoc)

cell_bytes : (context : Context) (t u : Term)
    → bytes_of (term_at context (Cell t u)) ≡ list_opening context ++ (bytes_of (term_at Whole t) ++ (bytes_of (term_at Rest u) ++ list_closing context))
cell_bytes Whole t u = simp (bytes_of-append, append_assoc)
cell_bytes Part t u = simp (bytes_of-append, append_assoc)
cell_bytes Rest t u = simp (bytes_of-append, append-nil)

abs_bytes : (context : Context) (name : Name) (t : Term) → bytes_of (term_at context (Abs name t)) ≡ abs_opening context name ++ bytes_of (term_at Whole t)
abs_bytes Whole (OfWord w) t = simp append_assoc
abs_bytes Whole (OfVar w) t = simp append_assoc
abs_bytes Part (OfWord w) t = simp append_assoc
abs_bytes Part (OfVar w) t = simp append_assoc
abs_bytes Rest (OfWord w) t = simp append_assoc
abs_bytes Rest (OfVar w) t = simp append_assoc

swap_bytes : (context : Context) (left right : Name) (t : Term)
    → bytes_of (term_at context (Swapped left right t)) ≡ swap_opening context left right ++ (bytes_of (term_at Whole t) ++ codes ")")
swap_bytes Whole (OfWord v) (OfWord w) t = simp (bytes_of-append, append_assoc)
swap_bytes Whole (OfWord v) (OfVar w) t = simp (bytes_of-append, append_assoc)
swap_bytes Whole (OfVar v) (OfWord w) t = simp (bytes_of-append, append_assoc)
swap_bytes Whole (OfVar v) (OfVar w) t = simp (bytes_of-append, append_assoc)
swap_bytes Part (OfWord v) (OfWord w) t = simp (bytes_of-append, append_assoc)
swap_bytes Part (OfWord v) (OfVar w) t = simp (bytes_of-append, append_assoc)
swap_bytes Part (OfVar v) (OfWord w) t = simp (bytes_of-append, append_assoc)
swap_bytes Part (OfVar v) (OfVar w) t = simp (bytes_of-append, append_assoc)
swap_bytes Rest (OfWord v) (OfWord w) t = simp (bytes_of-append, append_assoc)
swap_bytes Rest (OfWord v) (OfVar w) t = simp (bytes_of-append, append_assoc)
swap_bytes Rest (OfVar v) (OfWord w) t = simp (bytes_of-append, append_assoc)
swap_bytes Rest (OfVar v) (OfVar w) t = simp (bytes_of-append, append_assoc)

apply_bytes : (context : Context) (w : List ℕ) (args : Terms) → bytes_of (term_at context (Apply w args)) ≡ apply_opening context w ++ (bytes_of (arguments_of args) ++ codes ")")
apply_bytes Whole w args = simp (bytes_of-append, append_assoc)
apply_bytes Part w args = simp (bytes_of-append, append_assoc)
apply_bytes Rest w args = simp (bytes_of-append, append_assoc)

tuple_turned : (context : Context) → reverse (tuple_closing context) ≡ tuple_closing context
tuple_turned Whole = refl
tuple_turned Part = refl
tuple_turned Rest = refl

list_turned : (context : Context) → reverse (list_closing context) ≡ list_closing context
list_turned Whole = refl
list_turned Part = refl
list_turned Rest = refl

pub pair_goes_on : (context : Context) (w t u : Term) (o o1 o2 o3 k k1 : List ℕ) → w ≡ Pair t u → o1 ≡ o ++ tuple_opening context → k1 ≡ k ++ tuple_closing context
    → o2 ≡ o1 ++ bytes_of (term_at Whole t) → o3 ≡ o2 ++ codes "," → all_term o3 Part u k1 ≡ all_term o context w k
pair_goes_on context w t u o o1 o2 o3 k k1 e a b d f =
    rw (f, d, a, b, e, pair_bytes context t u, reverse-append k (tuple_closing context), tuple_turned context) (simp append_assoc)

pub cell_goes_on : (context : Context) (w t u : Term) (o o1 o2 k k1 : List ℕ) → w ≡ Cell t u → o1 ≡ o ++ list_opening context → k1 ≡ k ++ list_closing context
    → o2 ≡ o1 ++ bytes_of (term_at Whole t) → all_term o2 Rest u k1 ≡ all_term o context w k
cell_goes_on context w t u o o1 o2 k k1 e a b d =
    rw (d, a, b, e, cell_bytes context t u, reverse-append k (list_closing context), list_turned context) (simp append_assoc)

pub abs_goes_on : (context : Context) (w : Term) (name : Name) (t : Term) (o o1 k : List ℕ) → w ≡ Abs name t → o1 ≡ o ++ abs_opening context name → all_term o1 Whole t k ≡ all_term o context w k
abs_goes_on context w name t o o1 k e a = rw (a, e, abs_bytes context name t) (simp append_assoc)

pub swap_goes_on : (context : Context) (w : Term) (left right : Name) (t : Term) (o o1 k k1 : List ℕ) → w ≡ Swapped left right t → o1 ≡ o ++ swap_opening context left right → k1 ≡ k ++ codes ")"
    → all_term o1 Whole t k1 ≡ all_term o context w k
swap_goes_on context w left right t o o1 k k1 e a b = rw (a, b, e, swap_bytes context left right t, reverse-append k (codes ")")) (simp append_assoc)

-- a term that is written whole, before what is kept
pub apply_ends : (context : Context) (t : Term) (w : List ℕ) (args : Terms) (o o1 o2 o3 o4 k all : List ℕ) → t ≡ Apply w args → o1 ≡ o ++ apply_opening context w → o2 ≡ o1 ++ bytes_of (arguments_of args) → o3 ≡ o2 ++ codes ")"
    → o4 ≡ o3 ++ reverse k → all_term o context t k ≡ all → o4 ≡ all
apply_ends context t w args o o1 o2 o3 o4 k all e a b d f h =
    let whole : o4 ≡ all_term o context t k = rw (f, d, b, a, e, apply_bytes context w args) (simp append_assoc) in whole ∙ h

pub leaf_ends : (context : Context) (t : Term) (o o1 o2 k all : List ℕ) → o1 ≡ o ++ bytes_of (term_at context t) → o2 ≡ o1 ++ reverse k → all_term o context t k ≡ all → o2 ≡ all
leaf_ends context t o o1 o2 k all a b h = let whole : o2 ≡ all_term o context t k = rw (b, a) (append_assoc o (bytes_of (term_at context t)) (reverse k)) in whole ∙ h

pub unit_bytes : (context : Context) (t : Term) → t ≡ Unit → bytes_of (barred_words context []) ++ codes "()" ≡ bytes_of (term_at context t)
unit_bytes Whole t e = rw e refl
unit_bytes Part t e = rw e refl
unit_bytes Rest t e = rw e refl

pub variable_bytes : (context : Context) (t : Term) (w : List ℕ) → t ≡ Variable w → bytes_of (barred_words context []) ++ w ≡ bytes_of (term_at context t)
variable_bytes Whole t w e = rw e (sym (append-nil w))
variable_bytes Part t w e = rw e (sym (append-nil w))
variable_bytes Rest t w e = rw e (ap (λ (bs : List ℕ). codes "|" ++ bs) (sym (append-nil w)))

pub word_bytes : (context : Context) (t : Term) (w : List ℕ) → t ≡ Word w → bytes_of (barred_words context []) ++ w ≡ bytes_of (term_at context t)
word_bytes Whole t w e = rw e (sym (append-nil w))
word_bytes Part t w e = rw e (sym (append-nil w))
word_bytes Rest t w e = rw e (ap (λ (bs : List ℕ). codes "|" ++ bs) (sym (append-nil w)))

abbrev mutual
  pub term_size : Term → ℕ
  term_size Unit = 1
  term_size (Variable w) = 1
  term_size (Word w) = 1
  term_size (Apply w args) = 1 + terms_size args
  term_size (Pair t u) = 1 + term_size t + term_size u
  term_size Nil = 1
  term_size (Cell t u) = 1 + term_size t + term_size u
  term_size (Abs name t) = 1 + term_size t
  term_size (Swapped left right t) = 1 + term_size t

  pub terms_size : Terms → ℕ
  terms_size (Last t) = 1 + term_size t
  terms_size (More t ts) = 1 + term_size t + terms_size ts

pub left_smaller : (w t u : Term) (n : ℕ) → w ≡ Pair t u → term_size w ≤ n → (term_size t < n) × (term_size u ≤ n)
left_smaller w t u n e h = let h' : term_size (Pair t u) ≤ n = rw e at h in (omega arith, omega arith)

pub head_smaller : (w t u : Term) (n : ℕ) → w ≡ Cell t u → term_size w ≤ n → (term_size t < n) × (term_size u ≤ n)
head_smaller w t u n e h = let h' : term_size (Cell t u) ≤ n = rw e at h in (omega arith, omega arith)

pub body_smaller : (w : Term) (name : Name) (t : Term) (n : ℕ) → w ≡ Abs name t → term_size w ≤ n → term_size t ≤ n
body_smaller w name t n e h = let h' : term_size (Abs name t) ≤ n = rw e at h in omega arith

pub swapped_smaller : (w : Term) (left right : Name) (t : Term) (n : ℕ) → w ≡ Swapped left right t → term_size w ≤ n → term_size t ≤ n
swapped_smaller w left right t n e h = let h' : term_size (Swapped left right t) ≤ n = rw e at h in omega arith

pub arguments_smaller : (w : Term) (word : List ℕ) (args : Terms) (n : ℕ) → w ≡ Apply word args → term_size w ≤ n → terms_size args < n
arguments_smaller w word args n e h = let h' : term_size (Apply word args) ≤ n = rw e at h in omega arith

pub last_smaller : (ts : Terms) (t : Term) (n : ℕ) → ts ≡ Last t → terms_size ts ≤ n → term_size t < n
last_smaller ts t n e h = let h' : terms_size (Last t) ≤ n = rw e at h in omega arith

pub more_smaller : (ts us : Terms) (t : Term) (n : ℕ) → ts ≡ More t us → terms_size ts ≤ n → (term_size t < n) × (terms_size us ≤ n)
more_smaller ts us t n e h = let h' : terms_size (More t us) ≤ n = rw e at h in (omega arith, omega arith)

pub more_written : (ts us : Terms) (t : Term) (o o1 o2 all : List ℕ) → ts ≡ More t us → o1 ≡ o ++ bytes_of (term_at Whole t) → o2 ≡ o1 ++ codes ","
    → o ++ bytes_of (arguments_of ts) ≡ all → o2 ++ bytes_of (arguments_of us) ≡ all
more_written ts us t o o1 o2 all e a b h =
    let whole : o2 ++ bytes_of (arguments_of us) ≡ o ++ bytes_of (arguments_of ts) = rw (b, a, e) (simp (bytes_of-append, append_assoc)) in whole ∙ h
