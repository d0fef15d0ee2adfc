use Rattle.std.proofs.Common.{◌≡◌, take}
use Rattle.ap_scopes.proofs.marks.is_word.Given as goal

abbrev pub invariant-comparing : goal.invariant-comparing
invariant-comparing l = take l.place l.left ≡ take l.place l.right
