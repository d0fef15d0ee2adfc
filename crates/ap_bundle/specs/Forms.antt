-- Terms and types in prefix form: a letter, the numbers that belong to it, and its parts.
use Rattle.std.specs.Prelude.{ℕ, zero, suc, ◌^◌, nat_lt, if◌then◌else◌, List, [], ◌∷◌, ◌++◌, length, flat_map, Option, None, Some, option_map, option_and_then}
use Rattle.ap_defs.specs.declared.terms.Name.{Name}
use Rattle.ap_defs.specs.declared.terms.Swap.{Swap}
use Rattle.ap_defs.specs.Terms as terms
use Rattle.ap_defs.specs.Terms.{NominalTerm}
use Rattle.ap_defs.specs.Types as types
use Rattle.ap_defs.specs.Types.{NominalType}
use Rattle.ap_bundle.specs.declared.words.Letter.{Letter}
use Rattle.ap_bundle.specs.declared.words.Letter.TheVariants as letter
use Rattle.ap_bundle.specs.declared.words.Word.{Word}
use Rattle.ap_bundle.specs.declared.words.Word.TheVariants.{Number, Letter as ALetter, Node, Head}

infixl 10 ◌>>=◌
abbrev pub ◌>>=◌ : {A B : Type 0} → Option A → (A → Option B) → Option B
None >>= f = None
(Some x) >>= f = f x

abbrev pub name_words : Name → List Word
name_words a = Number a.sort ∷ Number a.num ∷ []

abbrev pub swap_words : Swap → List Word
swap_words s = Number s.sort ∷ Number s.left ∷ Number s.right ∷ []

-- a term: `u`, `n SORT NUM`, `p T T`, `a F T`, `l SORT NUM T`, or `s K`, K triples `SORT NUM NUM`, and `VAR`
abbrev pub term_words : NominalTerm → List Word
term_words terms.unit = ALetter letter.U ∷ []
term_words (terms.name a) = ALetter letter.N ∷ name_words a
term_words (terms.pair t u) = ALetter letter.P ∷ (term_words t ++ term_words u)
term_words (terms.app f t) = ALetter letter.A ∷ (Number f ∷ term_words t)
term_words (terms.abs a t) = ALetter letter.L ∷ (name_words a ++ term_words t)
term_words (terms.susp swaps x) = ALetter letter.S ∷ (Number (length swaps) ∷ (flat_map swap_words swaps ++ Number x.num ∷ []))

-- a type: `u`, `n SORT`, `d DATA`, `p TY TY`, `l TY`, or `b SORT TY`
abbrev pub type_words : NominalType → List Word
type_words types.unit = ALetter letter.U ∷ []
type_words (types.names s) = ALetter letter.N ∷ (Number s ∷ [])
type_words (types.base d) = ALetter letter.D ∷ (Number d ∷ [])
type_words (types.pair t u) = ALetter letter.P ∷ (type_words t ++ type_words u)
type_words (types.list t) = ALetter letter.L ∷ type_words t
type_words (types.abs s t) = ALetter letter.B ∷ (Number s ∷ type_words t)

-- What words are that end with forms: numbers for a letter before them, and then the forms.
pub record Forms (T : Type 0) : Type 0 where
  pub numbers : List ℕ
  pub whole : List T

-- the first, and the others
abbrev pub first : {A : Type 0} → List A → Option (A × List A)
first [] = None
first (x ∷ xs) = Some (x, xs)

abbrev pub if_small : ℕ × List ℕ → Option (ℕ × List ℕ)
if_small n = if nat_lt n.0 (2 ^ 32) then Some n else None

-- a number below 2 ^ 32
unfoldable pub small : List ℕ → Option (ℕ × List ℕ)
small ns = do
  n ← first ns
  if_small n

unfoldable pub a_name : List ℕ → Option (Name × List ℕ)
a_name ns = do
  sort ← small ns
  num ← first sort.1
  Some (record { sort = sort.0; num = num.0 }, num.1)

unfoldable pub a_swap : List ℕ → Option (Swap × List ℕ)
a_swap ns = do
  sort ← small ns
  left ← first sort.1
  right ← first left.1
  Some (record { sort = sort.0; left = left.0; right = right.0 }, right.1)

abbrev pub with_swaps : List Swap → Option (List Swap × List ℕ) → Option (List Swap × List ℕ)
with_swaps front more = more >>= λ m. Some (front ++ m.0, m.1)

-- so many swappings
abbrev pub swaps : ℕ → List ℕ → Option (List Swap × List ℕ)
swaps zero ns = Some ([], ns)
swaps (suc k) ns = a_swap ns >>= λ s. with_swaps (s.0 ∷ []) (swaps k s.1)

-- where no number is left
abbrev pub if_no_number : {A : Type 0} → A → List ℕ → Option A
if_no_number x [] = Some x
if_no_number x (n ∷ ns) = None

unfoldable pub name_onto : List ℕ → List NominalTerm → Option (List NominalTerm)
name_onto ns ts = do
  a ← a_name ns
  if_no_number (terms.name a.0 ∷ ts) a.1

unfoldable pub pair_onto : List ℕ → List NominalTerm → Option (List NominalTerm)
pair_onto ns ts = do
  t ← first ts
  u ← first t.1
  if_no_number (terms.pair t.0 u.0 ∷ u.1) ns

unfoldable pub app_onto : List ℕ → List NominalTerm → Option (List NominalTerm)
app_onto ns ts = do
  f ← small ns
  t ← first ts
  if_no_number (terms.app f.0 t.0 ∷ t.1) f.1

unfoldable pub abs_onto : List ℕ → List NominalTerm → Option (List NominalTerm)
abs_onto ns ts = do
  a ← a_name ns
  t ← first ts
  if_no_number (terms.abs a.0 t.0 ∷ t.1) a.1

unfoldable pub susp_onto : List ℕ → List NominalTerm → Option (List NominalTerm)
susp_onto ns ts = do
  k ← first ns
  front ← swaps k.0 k.1
  x ← first front.1
  if_no_number (terms.susp front.0 (record { num = x.0 }) ∷ ts) x.1

-- a letter before numbers and terms: the term that it begins, and the other terms
abbrev pub term_onto : Letter → List ℕ → List NominalTerm → Option (List NominalTerm)
term_onto letter.U ns ts = if_no_number (terms.unit ∷ ts) ns
term_onto letter.N ns ts = name_onto ns ts
term_onto letter.P ns ts = pair_onto ns ts
term_onto letter.A ns ts = app_onto ns ts
term_onto letter.L ns ts = abs_onto ns ts
term_onto letter.S ns ts = susp_onto ns ts
term_onto letter.D ns ts = None
term_onto letter.B ns ts = None

unfoldable pub names_onto : List ℕ → List NominalType → Option (List NominalType)
names_onto ns ts = do
  s ← small ns
  if_no_number (types.names s.0 ∷ ts) s.1

unfoldable pub base_onto : List ℕ → List NominalType → Option (List NominalType)
base_onto ns ts = do
  d ← small ns
  if_no_number (types.base d.0 ∷ ts) d.1

unfoldable pub pair_type_onto : List ℕ → List NominalType → Option (List NominalType)
pair_type_onto ns ts = do
  t ← first ts
  u ← first t.1
  if_no_number (types.pair t.0 u.0 ∷ u.1) ns

unfoldable pub list_onto : List ℕ → List NominalType → Option (List NominalType)
list_onto ns ts = do
  t ← first ts
  if_no_number (types.list t.0 ∷ t.1) ns

unfoldable pub abs_type_onto : List ℕ → List NominalType → Option (List NominalType)
abs_type_onto ns ts = do
  s ← small ns
  t ← first ts
  if_no_number (types.abs s.0 t.0 ∷ t.1) s.1

-- the same of types
abbrev pub type_onto : Letter → List ℕ → List NominalType → Option (List NominalType)
type_onto letter.U ns ts = if_no_number (types.unit ∷ ts) ns
type_onto letter.N ns ts = names_onto ns ts
type_onto letter.D ns ts = base_onto ns ts
type_onto letter.P ns ts = pair_type_onto ns ts
type_onto letter.L ns ts = list_onto ns ts
type_onto letter.B ns ts = abs_type_onto ns ts
type_onto letter.A ns ts = None
type_onto letter.S ns ts = None

-- how a letter goes before numbers and forms
abbrev pub Onto : Type 0 → Type 0
Onto T = Letter → List ℕ → List T → Option (List T)

abbrev pub forms_only : {T : Type 0} → List T → Forms T
forms_only ts = record { numbers = []; whole = ts }

-- a word before numbers and forms
abbrev pub word_onto : {T : Type 0} → Onto T → Word → Forms T → Option (Forms T)
word_onto onto (Number n) f = Some (record f { numbers = n ∷ f.numbers })
word_onto onto (ALetter l) f = option_map forms_only (onto l f.numbers f.whole)
word_onto onto (Node k) f = None
word_onto onto (Head h) f = None

-- words read from the right: each letter takes its numbers and its parts from what follows it
abbrev pub forms : {T : Type 0} → Onto T → List Word → Option (Forms T)
forms onto [] = Some (forms_only [])
forms onto (w ∷ ws) = forms onto ws >>= word_onto onto w

abbrev pub only : {T : Type 0} → List ℕ → List T → Option T
only [] (t ∷ []) = Some t
only ns ts = None

-- the one form that the words are
unfoldable pub form : {T : Type 0} → Onto T → List Word → Option T
form onto ws = do
  f ← forms onto ws
  only f.numbers f.whole
