-- Entries of a book, and what a tree answers, without where their outputs lie in memory.
use Rattle.std.specs.Prelude.{ℕ, List, [], ◌∷◌}
use Rattle.ap_paths.specs.declared.entries.Entry.{Entry}
use Rattle.ap_paths.specs.declared.entries.Entry.TheVariants.{Split, Done, Skip, Stop}
use Rattle.ap_paths.specs.declared.tree.Visit.{Visit}
use Rattle.ap_paths.specs.declared.tree.Visit.TheVariants.{Kids, Outs}
use Rattle.ap_defs.specs.Answers.{NominalOut}
use Rattle.ap_paths.specs.Runs.{outs_of_runs}

-- An entry, with the number of the seat that made it: a path was split into kids, ended with outputs, or was left out
-- since so many answers had ended before it; or all is to stop.
pub data TreeEntry : Type 0 where
  split : ℕ → List ℕ → List ℕ → TreeEntry
  done : ℕ → List ℕ → List NominalOut → TreeEntry
  skip : ℕ → List ℕ → ℕ → TreeEntry
  stop : ℕ → TreeEntry

-- an entry of the program, without where it lies in memory
abbrev pub entry_of : Entry → TreeEntry
entry_of (Split seat p ks) = split seat p ks
entry_of (Done seat p outs) = done seat p (outs_of_runs outs)
entry_of (Skip seat p n) = skip seat p n
entry_of (Stop seat) = stop seat

abbrev pub entries_of : List Entry → List TreeEntry
entries_of [] = []
entries_of (e ∷ es) = entry_of e ∷ entries_of es

-- What a tree answers at a path: the kids that are worth a visit, or the outputs below it.
pub data Plan : Type 0 where
  kids : List ℕ → Plan
  outs : List NominalOut → Plan

-- an answer of the program, without where it lies in memory
abbrev pub visit_of : Visit → Plan
visit_of (Kids ks) = kids ks
visit_of (Outs os) = outs (outs_of_runs os)
