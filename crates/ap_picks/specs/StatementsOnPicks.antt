-- What is proved of terms that are picked.
use Rattle.std.specs.Prelude.{◌≡◌, ◌+◌, ◌≤◌, ℕ, List, ◌++◌, length, Some, slice_get}
use Rattle.ap_defs.specs.declared.terms.Name.{Name}
use Rattle.ap_defs.specs.Terms.{GroundTerm, abs, app, name, pair, unit}
use Rattle.ap_defs.specs.Types.{NominalConstructor, NominalType}
use Rattle.ap_defs.specs.Typing.{IsOfType}
use Rattle.ap_types.specs.Inhabited.{IsInhabited}
use Rattle.ap_picks.specs.Picks.{picked}

-- each name of a ground term has the property, binders too
abbrev pub EachName : (Name → Type 0) → GroundTerm → Type 0
EachName P unit = Unit {0}
EachName P (name a) = P a
EachName P (pair t u) = EachName P t × EachName P u
EachName P (app f t) = EachName P t
EachName P (abs a t) = P a × EachName P t

-- The name is one of the new names that are numbered from n on, with the sort at its place; the ones before it were there.
pub record IsNewName (n : ℕ) (before after : List ℕ) (a : Name) : Type 0 where
  pub place : ℕ
  pub late : length before ≤ place
  pub number : a.num ≡ n + place
  pub sort : slice_get after place ≡ Some a.sort

-- What was picked has the type, its new names have the sorts that were added, and it has no others.
pub record IsPicked (cs : List NominalConstructor) (n : ℕ) (t : NominalType) (before : List ℕ) (made : GroundTerm × List ℕ) : Type 0 where
  pub typed : IsOfType cs made.0 t
  pub added : List ℕ
  pub extends : made.1 ≡ before ++ added
  pub names : EachName (IsNewName n before made.1) made.0

abbrev pub PicksAreTyped : Type 0
PicksAreTyped = (cs : List NominalConstructor) (n : ℕ) (t : NominalType) → IsInhabited cs t → (before : List ℕ) → IsPicked cs n t before (picked cs n t before)
