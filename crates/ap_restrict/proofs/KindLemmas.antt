-- The kind of an identifier, by its number.
use Rattle.std.proofs.Common.{◌≡◌, ◌<◌, ◌≤◌, ℕ, zero, suc, List, [], ◌∷◌, length, get_or, refl, arith}
use Rattle.std.specs.Prelude.{Some, None}
use Rattle.ap_defs.specs.declared.goals.Local.{Local}
use Rattle.ap_defs.specs.Types.{kind_of, locals_of}
use Rattle.ap_defs.specs.Answers.{kind_at}
use Rattle.ap_defs.specs.Resolution.{kinds_of}

pub kind_past : (ls : List Local) (n : ℕ) → length ls ≤ n → kind_at (kinds_of (locals_of ls)) n ≡ None
kind_past [] n h = refl
kind_past (l ∷ ls) zero h = absurd (omega arith)
kind_past (l ∷ ls) (suc n) h = kind_past ls n (omega arith)

pub kind_there : (ls : List Local) (n : ℕ) (d : Local) → n < length ls → kind_at (kinds_of (locals_of ls)) n ≡ Some (kind_of (get_or ls n d).kind)
kind_there [] n d h = absurd (omega arith)
kind_there (l ∷ ls) zero d h = refl
kind_there (l ∷ ls) (suc n) d h = kind_there ls n d (omega arith)
