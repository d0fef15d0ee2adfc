-- Names by their places among those that are known: the query's free names first, and then the others.
use Rattle.std.specs.Prelude.{◌≡◌, ℕ, ◌++◌, length, ◌+◌, ◌-◌, nat_lt, if◌then◌else◌, List, position, Option, Some, None}
use Rattle.ap_defs.specs.declared.terms.Cond.{Cond}
use Rattle.ap_defs.specs.declared.terms.Name.{Name}
use Rattle.ap_defs.specs.declared.terms.Var.{Var}
use Rattle.ap_defs.specs.Answers.{NominalAnswer}
use Rattle.ap_defs.specs.Permutations.{name_eq}
use Rattle.ap_defs.specs.Renaming.{local_names}
use Rattle.ap_defs.specs.Types.{NominalLocal}
use Rattle.ap_property.specs.Stated.{other_names}
use Rattle.ap_instance.specs.declared.names.Names.{Names}
use Rattle.ap_defs.specs.Terms.{NominalTerm, abs, app, name, pair, susp, unit}

-- the name at a place: one of the first ones stays as it is, and the others are numbered on
abbrev pub name_at_place : ℕ → ℕ → Name → Option ℕ → Name
name_at_place free first a None = a
name_at_place free first a (Some i) = if nat_lt i free then a else record { sort = a.sort; num = first + (i - free) }

abbrev pub settled_name : ℕ → ℕ → List Name → Name → Name
settled_name free first known a = name_at_place free first a (position (name_eq a) known)

-- a term with each name replaced, and a term for each suspended variable
abbrev pub replaced : (Name → Name) → (Var → NominalTerm) → NominalTerm → NominalTerm
replaced f g unit = unit
replaced f g (name a) = name (f a)
replaced f g (pair t u) = pair (replaced f g t) (replaced f g u)
replaced f g (app k t) = app k (replaced f g t)
replaced f g (abs a t) = abs (f a) (replaced f g t)
replaced f g (susp p x) = g x

abbrev pub name_of_cond : Cond → Name
name_of_cond c = c.name

abbrev pub sort_of : Name → ℕ
sort_of a = a.sort

-- the names of an answer to a query with these identifiers, from which they are numbered on
pub record IsNames (locals : List NominalLocal) (a : NominalAnswer) (n : Names) : Type 0 where
  pub known : n.known.keys ≡ local_names 0 locals ++ other_names locals a
  pub free : n.free ≡ length (local_names 0 locals)
  pub first : n.first ≡ length locals
