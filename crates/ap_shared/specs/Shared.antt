-- Terms by the lines of their parts: the term of each line, by the terms of the lines before it.
use Rattle.std.specs.Prelude.{◌≡◌, ℕ, ◌<◌, ◌+◌, ◌^◌, nat_lt, if◌then◌else◌, List, [], ◌∷◌, ◌++◌, length, slice_index_or, Option, None, Some}
use mathlib.Core.HLevel.{Unit-prop}
use Rattle.std.proofs.Props.{props}
use Rattle.std.specs.List.{AllByRecursion}
use Rattle.ap_defs.specs.Terms as terms
use Rattle.ap_defs.specs.Terms.{NominalTerm}
use Rattle.ap_bundle.specs.Tables.{expanded_size}
use Rattle.ap_shared.specs.declared.lines.Entry.{Entry}
use Rattle.ap_shared.specs.declared.lines.Entry.TheVariants as entry
use Rattle.ap_shared.specs.declared.lines.SharedLine.{SharedLine}

-- the term of a line; one that isn't there stands for `()`
abbrev pub shared_at : List NominalTerm → ℕ → NominalTerm
shared_at ts i = slice_index_or ts i terms.unit

-- a table with lines more at its end, or none
abbrev pub IsGrown : List NominalTerm → List NominalTerm → Type 0
IsGrown ts us = (more : List NominalTerm) × (us ≡ ts ++ more)

-- numbers of lines among so many
abbrev pub AreLinesBelow : ℕ → List ℕ → Type 0
AreLinesBelow n is = AllByRecursion (λ i. i < n) is

-- the term of an entry behind these terms
abbrev pub entry_term : List NominalTerm → Entry → NominalTerm
entry_term ts entry.Unit = terms.unit
entry_term ts (entry.Name a) = terms.name a
entry_term ts (entry.Pair i j) = terms.pair (shared_at ts i) (shared_at ts j)
entry_term ts (entry.App f i) = terms.app f (shared_at ts i)
entry_term ts (entry.Abs s n i) = terms.abs (record { sort = s; num = n }) (shared_at ts i)
entry_term ts (entry.Susp p x) = terms.susp p x

-- its parts are among so many lines
abbrev pub IsBehind : ℕ → Entry → Type 0
IsBehind n entry.Unit = Unit {0}
IsBehind n (entry.Name a) = Unit {0}
IsBehind n (entry.Pair i j) = (i < n) × (j < n)
IsBehind n (entry.App f i) = i < n
IsBehind n (entry.Abs s m i) = i < n
IsBehind n (entry.Susp p x) = Unit {0}

-- the terms of lines, of which the last comes first
abbrev pub terms_back : List SharedLine → List NominalTerm
terms_back [] = []
terms_back (l ∷ ls) = terms_back ls ++ entry_term (terms_back ls) l.entry ∷ []

-- a size, where it is below 2 ^ 64
abbrev pub exact_size : ℕ → Option ℕ
exact_size n = if nat_lt n (2 ^ 64) then Some n else None

-- each line has its parts before it, and its size
abbrev pub AreLines : List SharedLine → Type 0
AreLines [] = Unit {0}
AreLines (l ∷ ls) = AreLines ls × IsBehind (length ls) l.entry × (l.size ≡ exact_size (expanded_size (entry_term (terms_back ls) l.entry)))

-- what is known of a line
pub record IsLine (ts : List NominalTerm) (k : ℕ) (l : SharedLine) : Type 0 where
  pub within : k < length ts
  pub is : shared_at ts k ≡ entry_term ts l.entry
  pub behind : IsBehind k l.entry
  pub size : l.size ≡ exact_size (expanded_size (shared_at ts k))

behind_prop : (n : ℕ) (e : Entry) → IsProp (IsBehind n e)
behind_prop n entry.Unit = Unit-prop
behind_prop n (entry.Name a) = Unit-prop
behind_prop n (entry.Pair i j) = hlevel props
behind_prop n (entry.App f i) = hlevel props
behind_prop n (entry.Abs s m i) = hlevel props
behind_prop n (entry.Susp p x) = Unit-prop

pub lines_prop : (ls : List SharedLine) → IsProp (AreLines ls)
lines_prop [] = Unit-prop
lines_prop (l ∷ ls) =
    let h : IsProp (AreLines ls) = lines_prop ls in
    let k : IsProp (IsBehind (length ls) l.entry) = behind_prop (length ls) l.entry in
    hlevel (props, h, k)
