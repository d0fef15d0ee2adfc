-- How deep a step stands.
use Rattle.std.specs.Prelude.{ℕ, zero, suc, nat_lt, if◌then◌else◌, List, [], ◌++◌, codes}
use Rattle.std.specs.Fmt.{decimal}

-- a text so many times
abbrev pub repeated : ℕ → List ℕ → List ℕ
repeated zero text = []
repeated (suc n) text = text ++ repeated n text

-- how deep a step stands is told where it is deeper than trees are drawn
abbrev pub depth_note : ℕ → ℕ → List ℕ
depth_note height depth = if nat_lt height depth then codes "(" ++ decimal depth ++ codes ") " else []
