-- The outputs of a history's ends in path order, as the program's own values.
use Rattle.std.specs.Prelude.{ℕ, List, [], ◌∷◌, ◌++◌}
use Rattle.ap_paths.specs.declared.entries.Entry.{Entry}
use Rattle.ap_paths.specs.declared.entries.Entry.TheVariants.{Split, Done, Skip, Stop}
use Rattle.ap_paths.specs.declared.runs.Run.{Run}
use Rattle.ap_paths.specs.Merging.{insert}

-- the ends of a history, in path order, beside those that stand there
abbrev pub ended_from : List (List ℕ × List Run) → List Entry → List (List ℕ × List Run)
ended_from ends [] = ends
ended_from ends (Split seat p ks ∷ es) = ended_from ends es
ended_from ends (Done seat p os ∷ es) = ended_from (insert p os ends) es
ended_from ends (Skip seat p n ∷ es) = ended_from ends es
ended_from ends (Stop seat ∷ es) = ended_from ends es

abbrev pub all_values : List (List ℕ × List Run) → List Run
all_values [] = []
all_values (e ∷ es) = e.1 ++ all_values es

-- the outputs of a history's ends, in path order
abbrev pub merged_values : List Entry → List Run
merged_values history = all_values (ended_from [] history)
