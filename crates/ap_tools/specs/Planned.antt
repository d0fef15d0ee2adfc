-- Entries that follow the plans of a tree, and when a worker may end.
use Rattle.std.specs.Prelude.{◌≡◌, ℕ, ◌⊎◌, Option, List, [], ◌∷◌}
use Rattle.ap_paths.specs.declared.entries.Entry.{Entry}
use Rattle.ap_defs.specs.declared.paths.Progress.TheVariants.{Finished, Stopped}
use Rattle.ap_paths.specs.Entries.{TreeEntry, split, done, skip, stop, Plan, kids, outs, entry_of, entries_of}
use Rattle.ap_paths.specs.declared.limits.Limit.{Limit}
use Rattle.ap_paths.specs.Limits.{IsWithin}
use Rattle.ap_paths.specs.History.{progress_of}
use Rattle.ap_paths.specs.Trees.{Choices, InChoiceTree, IsChoice}
use Rattle.atomic_table.specs.Seated.{TableId}
use Rattle.ap_tools.specs.Turns.{maker_of}
use Rattle.ap_tools.specs.Seats.{SeatView}

abbrev pub Plans : Type 0
Plans = Option ℕ → List ℕ → Plan

-- the entry is by a plan of a path of the tree
abbrev pub IsPlanned : Choices → Plans → TreeEntry → Type 0
IsPlanned c plan (split seat p ks) = InChoiceTree c p × (most : Option ℕ) × (plan most p ≡ kids ks)
IsPlanned c plan (done seat p os) = InChoiceTree c p × (most : Option ℕ) × (plan most p ≡ outs os)
IsPlanned c plan (skip seat p n) = InChoiceTree c p
IsPlanned c plan (stop seat) = Unit {0}

abbrev pub ArePlanned : Choices → Plans → List TreeEntry → Type 0
ArePlanned c plan [] = Unit {0}
ArePlanned c plan (e ∷ es) = IsPlanned c plan e × ArePlanned c plan es

-- the entries of this number are, and leave out only what is not wanted
abbrev pub OwnPlanned : Choices → Plans → Limit → ℕ → List Entry → Type 0
OwnPlanned c plan l n [] = Unit {0}
OwnPlanned c plan l n (e ∷ es) = (maker_of e ≡ n → IsPlanned c plan (entry_of e) × IsWithin l (entry_of e)) × OwnPlanned c plan l n es

-- each number is a choice
abbrev pub AllAreChoices : Option ℕ → List ℕ → Type 0
AllAreChoices w [] = Unit {0}
AllAreChoices w (k ∷ ks) = IsChoice w k × AllAreChoices w ks

-- who has seen this may end
abbrev pub IsOver : List Entry → Type 0
IsOver seen = (progress_of (entries_of seen) ≡ Finished) ⊎ (progress_of (entries_of seen) ≡ Stopped)

-- a seat of this book that has seen nothing
abbrev pub IsNewSeat : TableId → SeatView → Type 0
IsNewSeat book s = (s.book ≡ book) × (s.seen ≡ [])

-- a worker's seat at its end
abbrev pub EndedSeat : Choices → Plans → Limit → TableId → SeatView → Type 0
EndedSeat c plan l book s = (s.book ≡ book) × OwnPlanned c plan l s.number s.seen × IsOver s.seen
