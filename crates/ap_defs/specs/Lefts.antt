-- Types whose left parts have few levels, on the way to the right.
use Rattle.std.specs.Prelude.{ℕ, ◌<◌}
use Rattle.ap_defs.specs.declared.terms.Ty as code
use Rattle.ap_defs.specs.declared.terms.Ty.TheViews.{size-Ty}

abbrev pub LeftsBelow : ℕ → code.Ty → Type 0
LeftsBelow n (code.Pair' p t q u) = (size-Ty t < n) × LeftsBelow n u
LeftsBelow n (code.List' p t) = LeftsBelow n t
LeftsBelow n (code.Abs' s p t) = LeftsBelow n t
LeftsBelow n t = Unit {0}
