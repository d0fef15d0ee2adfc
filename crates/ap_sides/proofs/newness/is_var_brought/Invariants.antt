use Rattle.std.proofs.Common.{◌≡◌, drop}
use Rattle.std.specs.List.{list_any}
use Rattle.ap_sides.specs.Brought.{is_id_of_var}
use Rattle.ap_sides.proofs.newness.is_var_brought.Given as goal

abbrev pub invariant-loop-what : goal.invariant-loop-what
invariant-loop-what l = list_any (is_id_of_var l.y) (drop l.what-index l.brought) ≡ list_any (is_id_of_var l.y) l.brought
