-- The order of one worker alone: each entry is of the first path of its hand, whose kids take its place.
use Rattle.std.specs.Prelude.{◌≡◌, ℕ, true, false, Option, Some, None, List, [], ◌∷◌, ◌++◌}
use Rattle.ap_paths.specs.declared.entries.Entry.{Entry}
use Rattle.ap_paths.specs.Entries.{TreeEntry, split, done, skip, stop, entries_of}
use Rattle.ap_paths.specs.History.{kids_of, has_stop}
use Rattle.ap_tools.specs.Traces.{IsInOrder}
use Rattle.ap_tools.specs.Turns.{AreBy}
use Rattle.ap_tools.specs.declared.tools.Tools.{Tools}

-- the entries lead from one hand to another
abbrev pub Runs : List (List ℕ) → List TreeEntry → List (List ℕ) → Type 0
Runs ps [] qs = qs ≡ ps
Runs [] (e ∷ es) qs = ⊥
Runs (p ∷ ps) (split seat q ks ∷ es) qs = (q ≡ p) × Runs (kids_of p ks ++ ps) es qs
Runs (p ∷ ps) (done seat q os ∷ es) qs = (q ≡ p) × Runs ps es qs
Runs (p ∷ ps) (skip seat q n ∷ es) qs = (q ≡ p) × Runs ps es qs
Runs (p ∷ ps) (stop seat ∷ es) qs = ⊥

-- where all that was seen is the worker's own, with no stop, it led to this hand
abbrev pub IsSole : List (List ℕ) → ℕ → List Entry → Type 0
IsSole hand n seen = has_stop (entries_of seen) ≡ false → AreBy n seen → Runs ([] ∷ []) (entries_of seen) hand

-- the same without the hand
abbrev pub IsOrdered : ℕ → List Entry → Type 0
IsOrdered n seen = has_stop (entries_of seen) ≡ false → AreBy n seen → IsInOrder ([] ∷ []) (entries_of seen)

-- the number, the count of paths and whether it is alone are those that the worker had
abbrev pub KeepsWho : {W : Type 0} → Tools W → Tools W → Type 0
KeepsWho old new = (new.number ≡ old.number) × (new.count ≡ old.count) × (new.alone ≡ old.alone)

-- a worker alone takes the first path of its hand
abbrev pub TookFirst : {W : Type 0} → Tools W → Option (List ℕ) → Tools W → Type 0
TookFirst old None new = old.alone ≡ true → new.hand.items ≡ old.hand.items
TookFirst old (Some p) new = old.alone ≡ true → old.hand.items ≡ p ∷ new.hand.items
