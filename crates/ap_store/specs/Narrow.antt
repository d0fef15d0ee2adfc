-- The variables that are left in a term, where they are those of one variable.
use Rattle.std.specs.Prelude.{◌≡◌, Bool, true, false, List, [], Some, None}
use Rattle.ap_defs.specs.Substitution.{Binding, under}
use Rattle.ap_defs.specs.Terms.{NominalTerm, susp}
use Rattle.ap_store.specs.Founds.{bare_term}
use Rattle.ap_store.specs.Likes.{HaveSameVars}
use Rattle.ap_store.specs.Marks.{HasNoVars}
use Rattle.ap_store.specs.Views.{bindings_of, raw_bound}
use Rattle.ap_store.specs.declared.narrow.Alone.{Alone}
use Rattle.ap_store.specs.declared.narrow.Alone.TheVariants as alone
use Rattle.ap_store.specs.declared.narrow.Narrowed.{Narrowed}
use Rattle.ap_store.specs.declared.narrow.Narrowed.TheVariants as narrowed
use Rattle.ap_store.specs.declared.store.Store.{Store}

-- under the bindings a term has no variables, or the same ones as a variable
abbrev pub IsAlone : List Binding → NominalTerm → Alone → Type 0
IsAlone bs t alone.Nothing = HasNoVars (under bs t)
IsAlone bs t (alone.One w) = HaveSameVars (under bs t) (under bs (susp [] w))
IsAlone bs t alone.Several = Unit {0}

-- what is left to look at: nothing, where no variable is left; an unbound variable; or another term, and maybe a variable,
-- all with the same variables as the first term
abbrev pub IsNarrowed : Store → NominalTerm → Narrowed → Type 0
IsNarrowed s t narrowed.Ground = HasNoVars (under (bindings_of s) t)
IsNarrowed s t (narrowed.Ends w f) = (raw_bound s w ≡ None) × HaveSameVars (under (bindings_of s) t) (under (bindings_of s) (susp [] w))
IsNarrowed s t (narrowed.Goes None b) = HaveSameVars (under (bindings_of s) t) (under (bindings_of s) (bare_term b))
IsNarrowed s t (narrowed.Goes (Some w) b) =
    HaveSameVars (under (bindings_of s) t) (under (bindings_of s) (bare_term b)) × HaveSameVars (under (bindings_of s) t) (under (bindings_of s) (susp [] w))

abbrev pub is_several : Alone → Bool
is_several alone.Nothing = false
is_several (alone.One w) = false
is_several alone.Several = true
