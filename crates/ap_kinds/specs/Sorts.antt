-- An item whose names have the sorts of their kinds.
use Rattle.std.specs.Prelude.{◌≡◌, ℕ, List, map, Option, Some}
use Rattle.ap_defs.specs.declared.terms.Name.{Name}
use Rattle.ap_defs.specs.declared.terms.Id.{Id}
use Rattle.ap_defs.specs.declared.terms.Id.TheVariants as ids
use Rattle.ap_defs.specs.RawTerms.{RawTerm, unit, name, var, pair, app, abs, swapped}
use Rattle.ap_defs.specs.Types as types
use Rattle.ap_defs.specs.Types.{NominalKind}
use Rattle.ap_defs.specs.Goals.{GoalOver, succeed, atom, equal, fresh, both, either, exists, new}
use Rattle.ap_defs.specs.Answers.{kind_at}

-- the sort of the kind of a name, and the sort that it has where its kind is none of a name
abbrev pub sort_in : Option NominalKind → ℕ → ℕ
sort_in (Some (types.name s)) sort = s
sort_in _ sort = sort

-- no kind is one of a name, so that each sort stays
abbrev pub KeepSorts : List NominalKind → Type 0
KeepSorts ks = (n sort : ℕ) → sort_in (kind_at ks n) sort ≡ sort

abbrev pub name_with_sort : List NominalKind → Name → Name
name_with_sort ks a = record { sort = sort_in (kind_at ks a.num) a.sort; num = a.num }

abbrev pub id_with_sort : List NominalKind → Id → Id
id_with_sort ks (ids.Name a) = ids.Name (name_with_sort ks a)
id_with_sort ks (ids.Var x) = ids.Var x

abbrev pub with_sorts : List NominalKind → RawTerm → RawTerm
with_sorts ks unit = unit
with_sorts ks (name a) = name (name_with_sort ks a)
with_sorts ks (var x) = var x
with_sorts ks (pair t u) = pair (with_sorts ks t) (with_sorts ks u)
with_sorts ks (app f t) = app f (with_sorts ks t)
with_sorts ks (abs i t) = abs (id_with_sort ks i) (with_sorts ks t)
with_sorts ks (swapped i j t) = swapped (id_with_sort ks i) (id_with_sort ks j) (with_sorts ks t)

abbrev pub terms_with_sorts : List NominalKind → List RawTerm → List RawTerm
terms_with_sorts ks = map (with_sorts ks)

abbrev pub goal_with_sorts : List NominalKind → GoalOver RawTerm → GoalOver RawTerm
goal_with_sorts ks succeed = succeed
goal_with_sorts ks (atom p ts) = atom p (terms_with_sorts ks ts)
goal_with_sorts ks (equal t u) = equal (with_sorts ks t) (with_sorts ks u)
goal_with_sorts ks (fresh t u) = fresh (with_sorts ks t) (with_sorts ks u)
goal_with_sorts ks (both g h) = both (goal_with_sorts ks g) (goal_with_sorts ks h)
goal_with_sorts ks (either g h) = either (goal_with_sorts ks g) (goal_with_sorts ks h)
goal_with_sorts ks (exists x g) = exists x (goal_with_sorts ks g)
goal_with_sorts ks (new a g) = new (name_with_sort ks a) (goal_with_sorts ks g)
