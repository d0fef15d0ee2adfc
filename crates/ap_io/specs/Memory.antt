-- What contracts see of a source and a sink in memory.
use Rattle.std.specs.Prelude.{ℕ, ◌≤◌, List, length}

-- what is left, the calls and the failures so far, and the numbers of the calls that fail
pub record Reading : Type 0 where
  pub left : List ℕ
  pub calls : ℕ
  pub faults : ℕ
  pub fails : List ℕ

-- what is held, the most of one write, the bytes that there is room for, and the rest as of a source
pub record SinkWriting : Type 0 where
  pub held : List ℕ
  pub most : ℕ
  pub room : ℕ
  pub calls : ℕ
  pub faults : ℕ
  pub fails : List ℕ

-- a write takes at least one byte where there is room, and the memory for the room is there
pub record IsRoomy (most room capacity : ℕ) (held : List ℕ) : Type 0 where
  pub takes : 1 ≤ most
  pub fits : length held ≤ room
  pub memory : room ≤ capacity
