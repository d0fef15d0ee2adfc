use Rattle.std.proofs.Common.{◌≡◌, drop}
use Rattle.std.specs.List.{list_any}
use Rattle.ap_sides.specs.Brought.{is_id_of_name}
use Rattle.ap_sides.proofs.newness.is_name_brought.Given as goal

abbrev pub invariant-loop-what : goal.invariant-loop-what
invariant-loop-what l = list_any (is_id_of_name l.b) (drop l.what-index l.brought) ≡ list_any (is_id_of_name l.b) l.brought
