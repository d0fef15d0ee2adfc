-- What a look at a variable finds.
use Rattle.std.specs.Prelude.{◌≡◌, ◌⊎◌, ℕ, Bool, true, false, List, [], Option, Some, None}
use Rattle.ap_defs.specs.Renaming.{rename_term}
use Rattle.ap_defs.specs.Substitution.{Binding, occurs, under}
use Rattle.ap_defs.specs.Terms.{NominalTerm, abs, act_term, app, pair, susp, term_of}
use Rattle.ap_defs.specs.declared.terms.Name.{Name}
use Rattle.ap_defs.specs.declared.terms.Swap.{Swap}
use Rattle.ap_defs.specs.declared.terms.Var.{Var}
use Rattle.ap_store.specs.declared.bare.Bare.{Bare}
use Rattle.ap_store.specs.Marks.{HasNoVars}
use Rattle.ap_store.specs.Passed.{is_mark_at}
use Rattle.ap_store.specs.Views.{bindings_of, raw_bound}
use Rattle.ap_store.specs.declared.occurrences.Occurrence.{Occurrence}
use Rattle.ap_store.specs.declared.occurrences.Once.{Once}
use Rattle.ap_store.specs.declared.occurrences.Once.TheVariants as onces
use Rattle.ap_store.specs.declared.passed.Passed.{Passed}
use Rattle.ap_store.specs.declared.occurrences.Occurrence.TheVariants as occurrences
use Rattle.ap_store.specs.declared.occurrences.Step.{Step}
use Rattle.ap_store.specs.declared.occurrences.Step.TheVariants as steps
use Rattle.ap_store.specs.declared.occurrences.Sight.{Sight}
use Rattle.ap_store.specs.declared.occurrences.Sight.TheVariants as sights
use Rattle.ap_store.specs.declared.slots.Found.{Found}
use Rattle.ap_store.specs.declared.slots.Found.TheVariants as founds
use Rattle.ap_store.specs.declared.store.Store.{Store}

-- the term, renamed
abbrev pub bare_term : Bare → NominalTerm
bare_term b = rename_term b.base (term_of b.term.now)

-- whether a variable occurs in what the term stands for under the bindings
abbrev pub occurs_in : Store → Var → Bare → Bool
occurs_in s x b = occurs x (under (bindings_of s) (bare_term b))

-- the term to which it is bound, in which no binding is carried out, if there is one
abbrev pub IsWhatIsFound : Option NominalTerm → Found → Type 0
IsWhatIsFound o founds.Nothing = o ≡ None
IsWhatIsFound o (founds.Plain b) = o ≡ Some (bare_term b)
IsWhatIsFound o (founds.Ground b) = o ≡ Some (bare_term b)
IsWhatIsFound o (founds.Moved b) = (p : List Swap) × (o ≡ Some (act_term p (bare_term b)))

-- likewise, whatever swappings wait
abbrev pub IsBareOf : Option NominalTerm → Option Bare → Type 0
IsBareOf o None = o ≡ None
IsBareOf o (Some b) = (p : List Swap) × (o ≡ Some (act_term p (bare_term b)))

-- what is found is marked
abbrev pub is_ground_found : Found → Bool
is_ground_found founds.Nothing = false
is_ground_found (founds.Plain b) = false
is_ground_found (founds.Ground b) = true
is_ground_found (founds.Moved b) = false

-- the variable is unbound, or stands for a term without variables, or but for swappings for the term
abbrev pub IsSight : Store → Var → Sight → Type 0
IsSight s x sights.Unbound = raw_bound s x ≡ None
IsSight s x sights.Ground = HasNoVars (under (bindings_of s) (susp [] x))
IsSight s x (sights.Below b) = (p : List Swap) × (raw_bound s x ≡ Some (act_term p (bare_term b)))

-- the same, but that a variable that was gone through already has nothing new
abbrev pub IsOnce : Store → Var → Passed → Once → Type 0
IsOnce s x p onces.Unbound = raw_bound s x ≡ None
IsOnce s x p onces.Nothing = HasNoVars (under (bindings_of s) (susp [] x)) ⊎ (is_mark_at p.marks.items x.num ≡ true)
IsOnce s x p (onces.Below b) = (q : List Swap) × (raw_bound s x ≡ Some (act_term q (bare_term b)))

-- the term is under a constructor or a binder, and all of it but for that
abbrev pub IsInner : NominalTerm → NominalTerm → Type 0
IsInner t u = ((f : ℕ) × (t ≡ app f u)) ⊎ ((a : Name) × (t ≡ abs a u))

-- what a term begins with
abbrev pub IsPartStep : NominalTerm → Step → Type 0
IsPartStep t steps.Leaf = (bs : List Binding) → HasNoVars (under bs t)
IsPartStep t (steps.Inner b) = IsInner t (bare_term b)
IsPartStep t (steps.Both b d) = t ≡ pair (bare_term b) (bare_term d)
IsPartStep t (steps.Variable x) = (q : List Swap) × (t ≡ susp q x)

-- whether the variable occurs
abbrev pub does_occur : Occurrence → Bool
does_occur occurrences.Occurs = true
does_occur occurrences.Apart = false
does_occur occurrences.Far = false
does_occur occurrences.Ground = false
does_occur (occurrences.Like w) = false
