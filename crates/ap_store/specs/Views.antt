-- What a store stands for.
use Rattle.std.specs.Prelude.{◌≡◌, ℕ, List, [], ◌∷◌, ◌++◌, map}
use Rattle.ap_defs.specs.Substitution.{Binding, under}
use Rattle.ap_defs.specs.Terms.{NominalTerm}
use Rattle.ap_defs.specs.Types.{NominalKind}
use Rattle.ap_defs.specs.declared.terms.Var.{Var}
use Rattle.ap_perm.specs.Closures.{closure_term}
use Rattle.ap_perm.specs.Lookups as lookups
use Rattle.ap_perm.specs.declared.closures.Closure.{Closure}
use Rattle.ap_store.specs.Changes.{Change, empty, past_after, present_after}
use Rattle.ap_store.specs.Slots.{changes_in, slot_kind}
use Rattle.ap_store.specs.Trails.{no_rank, nothing_bound, rank_after, raw_after}
use Rattle.ap_store.specs.Triples.{Triple}
use Rattle.ap_store.specs.declared.store.Store.{Store}

-- the kinds of the numbers below next
abbrev pub kinds : Store → List NominalKind
kinds s = map slot_kind s.table.items

-- what was done since the store was empty
abbrev pub changes : Store → List Change
changes s = changes_in s.table.items s.trail.items s.noted.items

-- the triple that holds now
abbrev pub present : Store → Triple
present s = present_after (changes s) empty

-- its bindings
abbrev pub bindings_of : Store → List Binding
bindings_of s = (present s).bindings

-- what a closure stands for, with every binding of the store carried out
abbrev pub meaning_in : Store → Closure → NominalTerm
meaning_in s c = under (bindings_of s) (closure_term c)

-- the earlier triples to which the store can go back
abbrev pub past : Store → List Triple
past s = past_after (changes s) empty

-- the earlier triples, followed by the present one
abbrev pub versions : Store → List Triple
versions s = past s ++ present s ∷ []

-- nothing that a store stands for is changed
abbrev pub IsUnchanged : Store → Store → Type 0
IsUnchanged s r = (versions r ≡ versions s) × (kinds r ≡ kinds s)

-- the term of the closure to which a variable is bound, in which no binding is carried out
abbrev pub raw_bound : Store → lookups.Bound
raw_bound s = raw_after (changes s) nothing_bound

-- ranks that fall along bindings
abbrev pub rank : Store → Var → ℕ
rank s = rank_after (changes s) empty no_rank
