-- The outputs of the ends of a history, in path order.
use Rattle.std.specs.Prelude.{ℕ, ◌+◌, Bool, if◌then◌else◌, List, [], ◌∷◌, ◌++◌}
use Rattle.std.specs.Ordering.{is_lt, nat_cmp}
use Rattle.std.specs.Cmp.Lexicographic.{slice_cmp}
use Rattle.ap_defs.specs.Answers.{NominalOut}
use Rattle.ap_paths.specs.Entries.{TreeEntry, split, done, skip, stop}
use Rattle.ap_paths.specs.Limits.{found_in}

-- the order of paths: that of lists of numbers, where a beginning comes first
abbrev pub is_path_before : List ℕ → List ℕ → Bool
is_path_before p q = is_lt (slice_cmp nat_cmp p q)

-- a path that has ended, with its outputs
abbrev pub EndedPath : Type 0
EndedPath = List ℕ × List NominalOut

-- an end takes its place by path, behind those of the same path
abbrev pub insert : {X : Type 0} → List ℕ → X → List (List ℕ × X) → List (List ℕ × X)
insert p os [] = (p, os) ∷ []
insert p os (e ∷ es) = if is_path_before p e.0 then (p, os) ∷ e ∷ es else e ∷ insert p os es

-- the ends after an entry
abbrev pub ends_after : List EndedPath → TreeEntry → List EndedPath
ends_after ends (split seat p ks) = ends
ends_after ends (done seat p os) = insert p os ends
ends_after ends (skip seat p n) = ends
ends_after ends (stop seat) = ends

-- the ends of a history, in path order, beside those that stand there
abbrev pub ends_from : List EndedPath → List TreeEntry → List EndedPath
ends_from ends [] = ends
ends_from ends (e ∷ es) = ends_from (ends_after ends e) es

-- how many answers have ended with paths before p
abbrev pub found_before : List ℕ → List EndedPath → ℕ
found_before p [] = 0
found_before p (e ∷ es) = (if is_path_before e.0 p then found_in e.1 else 0) + found_before p es

abbrev pub all_outs : List EndedPath → List NominalOut
all_outs [] = []
all_outs (e ∷ es) = e.1 ++ all_outs es

-- the outputs of a history's ends, in path order
abbrev pub merged : List TreeEntry → List NominalOut
merged history = all_outs (ends_from [] history)
