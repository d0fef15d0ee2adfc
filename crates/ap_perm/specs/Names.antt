-- A step of the disagreement set.
use Rattle.std.specs.Prelude.{if◌then◌else◌, List}
use Rattle.ap_defs.specs.Permutations.{act_name, add_name, name_eq}
use Rattle.ap_defs.specs.declared.terms.Name.{Name}
use Rattle.ap_defs.specs.declared.terms.Swap.{Swap}

-- a set of names with one more, where two permutations differ on it
abbrev pub add_differing : List Swap → List Swap → Name → List Name → List Name
add_differing p q a as' = if name_eq (act_name p a) (act_name q a) then as' else add_name a as'
