-- What variables stand for, while it is entered in a table.
use Rattle.std.specs.Prelude.{◌≡◌, ℕ, ◌+◌, ◌*◌, ◌<◌, List, [], ◌∷◌, length, reverse, slice_index_or, Option, None, Some}
use Rattle.ap_defs.specs.Answers.{closed_term}
use Rattle.ap_defs.specs.Canonical.{canonical_term}
use Rattle.ap_defs.specs.Substitution.{under}
use Rattle.ap_defs.specs.Terms.{NominalTerm, abs, app, pair, susp}
use Rattle.ap_defs.specs.Unification.{size}
use Rattle.ap_machine.specs.Views.{state_in}
use Rattle.ap_perm.specs.Closures.{closure_term}
use Rattle.ap_perm.specs.Lookups.{depth_of}
use Rattle.ap_shared.specs.Shared.{IsGrown, shared_at}
use Rattle.ap_shared.specs.SharedViews.{shared_terms}
use Rattle.ap_store.specs.Views.{bindings_of, meaning_in, rank}
use Rattle.ap_store.specs.declared.store.Store.{Store}
use Rattle.ap_derive.specs.declared.closing.Closing.{Closing}
use Rattle.ap_derive.specs.declared.closing.Part.{Part}
use Rattle.ap_derive.specs.declared.closing.Part.TheVariants as parts
use Rattle.ap_derive.specs.declared.closing.Round.{Round}
use Rattle.ap_derive.specs.declared.closing.Round.TheVariants as rounds

abbrev pub closing_terms : Closing → List NominalTerm
closing_terms c = shared_terms c.terms

-- the line that is kept for a number
abbrev pub kept_line : List (Option ℕ) → ℕ → Option ℕ
kept_line ls n = slice_index_or ls n None

-- what the variable of a number stands for
abbrev pub closed_at : Store → ℕ → NominalTerm
closed_at s n = closed_term (state_in s) (susp [] (record { num = n }))

-- each line that is kept is that of what its variable stands for
abbrev pub AreLinesKept : Store → List NominalTerm → List (Option ℕ) → Type 0
AreLinesKept s ts ls = (n i : ℕ) → kept_line ls n ≡ Some i → (i < length ts) × (shared_at ts i ≡ closed_at s n)

abbrev pub IsClosing : Store → Closing → Type 0
IsClosing s c = AreLinesKept s (closing_terms c) c.lines.items

-- a part, entered
abbrev pub part_term : Store → List NominalTerm → Part → NominalTerm
part_term s ts (parts.Left c) = canonical_term (meaning_in s c)
part_term s ts (parts.Made i) = shared_at ts i

abbrev pub IsPartWithin : ℕ → Part → Type 0
IsPartWithin n (parts.Left c) = Unit {0}
IsPartWithin n (parts.Made i) = i < n

abbrev pub IsRoundWithin : ℕ → Round → Type 0
IsRoundWithin n (rounds.RightOf i) = i < n
IsRoundWithin n _ = Unit {0}

-- The term, within what stands round it, of which the innermost comes first, is the whole; and it is what the variables stand
-- for that wait for it.
abbrev pub Leads : Store → List NominalTerm → List Round → NominalTerm → NominalTerm → Type 0
Leads s ts [] t whole = t ≡ whole
Leads s ts (rounds.RightOf i ∷ rs) t whole = (i < length ts) × Leads s ts rs (pair (shared_at ts i) t) whole
Leads s ts (rounds.LeftOf c ∷ rs) t whole = Leads s ts rs (pair t (canonical_term (meaning_in s c))) whole
Leads s ts (rounds.App f ∷ rs) t whole = Leads s ts rs (app f t) whole
Leads s ts (rounds.Abs a ∷ rs) t whole = Leads s ts rs (abs a t) whole
Leads s ts (rounds.Bound x ∷ rs) t whole = (t ≡ closed_term (state_in s) (susp [] x)) × Leads s ts rs t whole

abbrev pub PartLeads : Store → List NominalTerm → List Round → Part → NominalTerm → Type 0
PartLeads s ts rs p whole = IsPartWithin (length ts) p × Leads s ts rs (part_term s ts p) whole

-- how much is left to do, where bindings are followed
abbrev pub closing_work : Store → NominalTerm → ℕ
closing_work s t = 3 * (size (under (bindings_of s) t) + size (under (bindings_of s) t) * depth_of (rank s) t)

abbrev pub left_in_part : Store → Part → ℕ
left_in_part s (parts.Left c) = closing_work s (closure_term c)
left_in_part s (parts.Made i) = 0

abbrev pub left_in_round : Store → Round → ℕ
left_in_round s (rounds.LeftOf c) = 2 + closing_work s (closure_term c)
left_in_round s _ = 1

abbrev pub left_in_rounds : Store → List Round → ℕ
left_in_rounds s [] = 0
left_in_rounds s (r ∷ rs) = left_in_round s r + left_in_rounds s rs

-- the next part for a term: the term is what it is to be, its line is there where it has one, and there is less to do
pub record IsPartForVar (s : Store) (old new : Closing) (t : NominalTerm) (p : Part) : Type 0 where
  pub lines : new.lines.items ≡ old.lines.items
  pub grown : IsGrown (closing_terms old) (closing_terms new)
  pub within : IsPartWithin (length (closing_terms new)) p
  pub is : part_term s (closing_terms new) p ≡ canonical_term (under (bindings_of s) t)
  pub less : 1 + left_in_part s p < closing_work s t

-- a part goes on for a term: it leads where the term led, and there is less to do
pub record PartGoesOn (s : Store) (old new : Closing) (before after : List Round) (t : NominalTerm) (p : Part) : Type 0 where
  pub lines : new.lines.items ≡ old.lines.items
  pub grown : IsGrown (closing_terms old) (closing_terms new)
  pub leads : (whole : NominalTerm) → Leads s (closing_terms old) (reverse before) (canonical_term (under (bindings_of s) t)) whole → PartLeads s (closing_terms new) (reverse after) p whole
  pub less : left_in_rounds s after + left_in_part s p < left_in_rounds s before + closing_work s t

-- what is entered since a table was this one leads, with a part and what stands round it, to a whole
pub record LeadsToWhole (s : Store) (first now : Closing) (rs : List Round) (p : Part) (whole : NominalTerm) : Type 0 where
  pub closing : IsClosing s now
  pub grown : IsGrown (closing_terms first) (closing_terms now)
  pub leads : PartLeads s (closing_terms now) (reverse rs) p whole

-- a part goes on behind a line that was made, within what stood round that
pub record PartGoesOut (old new : Closing) (before after : List Round) (r : Round) (made : ℕ) (p : Part) : Type 0 where
  pub grown : IsGrown (closing_terms old) (closing_terms new)
  pub kept : (s : Store) (whole : NominalTerm) → IsClosing s old → Leads s (closing_terms old) (r ∷ reverse before) (shared_at (closing_terms old) made) whole → IsClosing s new
  pub leads : (s : Store) (whole : NominalTerm) → Leads s (closing_terms old) (r ∷ reverse before) (shared_at (closing_terms old) made) whole → PartLeads s (closing_terms new) (reverse after) p whole
  pub less : (s : Store) → left_in_rounds s after + left_in_part s p < left_in_rounds s before + left_in_round s r
