-- Runs of outputs of a kind.
use Rattle.std.specs.Prelude.{◌≡◌, ℕ, suc, Bool, if◌then◌else◌, List, [], ◌∷◌, ◌++◌, ◌≤◌, map, drop, length}
use Rattle.ap_defs.specs.Lines.{Line, lines_of, ended}
use Rattle.ap_defs.specs.Answers.{NominalOut}

-- how many outputs at the beginning pass the test, up to the first that fails it
abbrev pub run_length : (NominalOut → Bool) → List NominalOut → ℕ
run_length test [] = 0
run_length test (o ∷ os) = if test o then suc (run_length test os) else 0

-- after the line for the first n outputs, which is not for none, what is left to write are the lines of the others
pub record IsLineFor (text : Line → List ℕ) (os : List NominalOut) (n : ℕ) (old new : List ℕ) : Type 0 where
  pub some : 1 ≤ n
  pub within : n ≤ length os
  pub written : new ++ ended (map text (lines_of (drop n os))) ≡ old ++ ended (map text (lines_of os))
