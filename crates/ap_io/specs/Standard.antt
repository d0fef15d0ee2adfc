-- What contracts see of a reader or a writer of std with a count.
use Rattle.std.specs.Prelude.{ℕ}

-- the stream of std, and how often it has failed
pub record Counted (A : Type 0) : Type 0 where
  pub stream : A
  pub faults : ℕ
