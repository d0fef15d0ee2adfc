-- What is kept of each number, and beside the trail.
use Rattle.std.specs.Global.{Global}
use Rattle.std.specs.Prelude.{◌≡◌, ◌<◌, ◌^◌, ◌==◌, ◌||◌, ℕ, zero, suc, Bool, true, false, List, [], ◌∷◌, ◌++◌, Option, Some, None, Vec, is_some, length}
use mathlib.Core.HLevel.{Unit-prop}
use Rattle.std.proofs.Props.{props}
use Rattle.ap_defs.specs.Freshness.{has_cond}
use Rattle.ap_defs.specs.Renaming.{IsBelow, rename_term}
use Rattle.ap_defs.specs.Terms.{NominalTerm, term_of, unit}
use Rattle.ap_defs.specs.Types.{NominalKind, kind_of}
use Rattle.ap_defs.specs.declared.terms.Cond.{Cond}
use Rattle.ap_defs.specs.declared.terms.Var.{Var}
use Rattle.ap_perm.specs.BelowProps.{below_prop}
use Rattle.ap_perm.specs.Closures.{closure_term}
use Rattle.ap_theory.specs.Variables.{EachVar}
use Rattle.ap_store.specs.Changes.{AreChanges, Change, Made, Bound, Added, Taken, empty, present_after}
use Rattle.ap_store.specs.ChangeProps.{changes_prop}
use Rattle.ap_store.specs.Trails.{AreTakenHeld, IsTakenHeld, held_after, nothing_held, held_step}
use Rattle.ap_store.specs.declared.changes.Entry.{Entry}
use Rattle.ap_store.specs.declared.changes.Entry.TheVariants as entries
use Rattle.ap_store.specs.declared.changes.Noted.{Noted}
use Rattle.ap_store.specs.declared.changes.Noted.TheVariants as notes
use Rattle.ap_store.specs.declared.slots.Value.{Value}
use Rattle.ap_store.specs.declared.slots.Value.TheVariants.{Unbound, Plain, Ground, Moved}
use Rattle.ap_store.specs.declared.slots.Slot.{Slot}

abbrev pub slot_kind : Slot → NominalKind
slot_kind s = kind_of s.local.now.kind

-- the term to which a number is bound, in which no binding is carried out
abbrev pub value_term : Value → Option NominalTerm
value_term Unbound = None
value_term (Plain b t) = Some (rename_term b (term_of t.now))
value_term (Ground b t) = Some (rename_term b (term_of t.now))
value_term (Moved c) = Some (closure_term c.value)

abbrev pub bound_in : List Slot → ℕ → Option NominalTerm
bound_in [] i = None
bound_in (s ∷ ss) zero = value_term s.value
bound_in (s ∷ ss) (suc i) = bound_in ss i

-- the term, or () where there is none
abbrev pub term_or_unit : Option NominalTerm → NominalTerm
term_or_unit None = unit
term_or_unit (Some t) = t

abbrev pub kept_term : Value → NominalTerm
kept_term b = term_or_unit (value_term b)

-- The variables of what is bound are below n, and so are its names where no swappings wait.
abbrev pub IsKeptBelow : ℕ → Value → Type 0
IsKeptBelow n Unbound = Unit {0}
IsKeptBelow n (Plain b t) = IsBelow n (rename_term b (term_of t.now))
IsKeptBelow n (Ground b t) = IsBelow n (rename_term b (term_of t.now))
IsKeptBelow n (Moved c) = EachVar (λ y. y.num < n) (closure_term c.value)

abbrev pub AreKeptBelow : ℕ → List Slot → Type 0
AreKeptBelow n [] = Unit {0}
AreKeptBelow n (s ∷ ss) = IsKeptBelow n s.value × AreKeptBelow n ss

abbrev pub var_at : ℕ → Var
var_at i = record { num = i }

abbrev pub noted_change : Noted → Change
noted_change (notes.Added c) = Added c
noted_change (notes.Taken x cs) = Taken x cs.items

-- the changes of a trail, with the terms that stand in the table, and what is noted beside the trail, in order
abbrev pub changes_in : List Slot → List Entry → List Noted → List Change
changes_in ss [] ns = []
changes_in ss (entries.Made n ∷ es) ns = Made n ∷ changes_in ss es ns
changes_in ss (entries.Bound i ∷ es) ns = Bound (var_at i) (term_or_unit (bound_in ss i)) ∷ changes_in ss es ns
changes_in ss (entries.Noted ∷ es) [] = changes_in ss es []
changes_in ss (entries.Noted ∷ es) (n ∷ ns) = noted_change n ∷ changes_in ss es ns

-- how many entries have something noted beside the trail
abbrev pub count_noted : List Entry → ℕ
count_noted [] = 0
count_noted (entries.Made n ∷ es) = count_noted es
count_noted (entries.Bound i ∷ es) = count_noted es
count_noted (entries.Noted ∷ es) = suc (count_noted es)

-- an entry binds the number
abbrev pub binds : ℕ → List Entry → Bool
binds i [] = false
binds i (entries.Made n ∷ es) = binds i es
binds i (entries.Bound j ∷ es) = (i == j) || binds i es
binds i (entries.Noted ∷ es) = binds i es

-- The changes may follow one another; what is taken out is what was held; the table has a slot for each number, which is bound
-- there where the trail binds it; what is bound is below reach; and numbers fit in entries of the trail.
abbrev pub IsStored : List Slot → List Entry → List Noted → ℕ → Type 0
IsStored table es ns reach =
    AreChanges (changes_in table es ns) empty × AreTakenHeld (changes_in table es ns) nothing_held
    × (length table ≡ (present_after (changes_in table es ns) empty).next) × ((i : ℕ) → binds i es ≡ is_some (bound_in table i))
    × AreKeptBelow reach table × (count_noted es ≡ length ns) × (length table < 2 ^ 32)

-- the conditions that are held of a number
abbrev pub held_in : List (Vec Cond Global) → ℕ → List Cond
held_in [] i = []
held_in (v ∷ vs) zero = v.items
held_in (v ∷ vs) (suc i) = held_in vs i

-- what is held of a number is on its variable
abbrev pub IsHeldByVariable : List (Vec Cond Global) → Type 0
IsHeldByVariable held = (i : ℕ) (c : Cond) → has_cond c (held_in held i) ≡ true → c.var.num ≡ i

abbrev pub all_held : List (Vec Cond Global) → List Cond
all_held [] = []
all_held (v ∷ vs) = v.items ++ all_held vs

-- the number whose conditions are taken out is below n
abbrev pub IsTakenBelow : ℕ → Change → Type 0
IsTakenBelow n (Taken x cs) = x.num < n
IsTakenBelow n _ = Unit {0}

abbrev pub AreTakenBelow : ℕ → List Change → Type 0
AreTakenBelow n [] = Unit {0}
AreTakenBelow n (c ∷ cs) = IsTakenBelow n c × AreTakenBelow n cs

-- of each number the conditions are held that came by the changes; what was taken out can be put back
abbrev pub AreHeld : List (Vec Cond Global) → List Change → Type 0
AreHeld held cs = AreTakenBelow (length held) cs × ((i : ℕ) → held_in held i ≡ held_after cs nothing_held i)

link_prop : (c : Change) (k : ℕ → List Cond) → IsProp (IsTakenHeld c k)
link_prop (Made n) k = Unit-prop
link_prop (Bound x t) k = Unit-prop
link_prop (Added c) k = Unit-prop
link_prop (Taken x cs) k = hlevel props

links_prop : (cs : List Change) (k : ℕ → List Cond) → IsProp (AreTakenHeld cs k)
links_prop [] k = Unit-prop
links_prop (c ∷ cs) k = let h : IsProp (IsTakenHeld c k) = link_prop c k in let l : IsProp (AreTakenHeld cs (held_step c k)) = links_prop cs (held_step c k) in hlevel (props, h, l)

kept_prop : (n : ℕ) (b : Value) → IsProp (IsKeptBelow n b)
kept_prop n Unbound = Unit-prop
kept_prop n (Plain b t) = below_prop n (rename_term b (term_of t.now))
kept_prop n (Ground b t) = below_prop n (rename_term b (term_of t.now))
kept_prop n (Moved c) = hlevel props

all_kept_prop : (n : ℕ) (ss : List Slot) → IsProp (AreKeptBelow n ss)
all_kept_prop n [] = Unit-prop
all_kept_prop n (s ∷ ss) = let h : IsProp (IsKeptBelow n s.value) = kept_prop n s.value in let k : IsProp (AreKeptBelow n ss) = all_kept_prop n ss in hlevel (props, h, k)

pub stored_prop : (table : List Slot) (es : List Entry) (ns : List Noted) (reach : ℕ) → IsProp (IsStored table es ns reach)
stored_prop table es ns reach =
    let cs = changes_in table es ns in
    let h : IsProp (AreChanges cs empty) = changes_prop cs empty in
    let k : IsProp (AreTakenHeld cs nothing_held) = links_prop cs nothing_held in
    let l : IsProp (AreKeptBelow reach table) = all_kept_prop reach table in
    hlevel (props, h, k, l)

taken_prop : (n : ℕ) (c : Change) → IsProp (IsTakenBelow n c)
taken_prop n (Made m) = Unit-prop
taken_prop n (Bound x t) = Unit-prop
taken_prop n (Added c) = Unit-prop
taken_prop n (Taken x cs) = hlevel props

all_taken_prop : (n : ℕ) (cs : List Change) → IsProp (AreTakenBelow n cs)
all_taken_prop n [] = Unit-prop
all_taken_prop n (c ∷ cs) = let h : IsProp (IsTakenBelow n c) = taken_prop n c in let k : IsProp (AreTakenBelow n cs) = all_taken_prop n cs in hlevel (props, h, k)

pub held_prop : (held : List (Vec Cond Global)) (cs : List Change) → IsProp (AreHeld held cs)
held_prop held cs = let h : IsProp (AreTakenBelow (length held) cs) = all_taken_prop (length held) cs in hlevel (props, h)
