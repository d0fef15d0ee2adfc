-- The terms so far, and those that are picked for the variables that are left, are all.
use Rattle.std.proofs.Common.{◌≡◌, length, map}
use Rattle.ap_defs.specs.declared.terms.Var.{Var}
use Rattle.ap_defs.specs.Answers.{typed_var_of}
use Rattle.ap_defs.specs.Types.{constructor_of}
use Rattle.ap_defs.specs.Typing.{embedded}
use Rattle.ap_ground.specs.TypedGroundings.{HaveInhabitants}
use Rattle.ap_property.specs.Stated.{given, picks_from}
use Rattle.ap_instance.specs.Tables.{term_beside}
use Rattle.ap_instance.proofs.picks.picks_of.Given as goal

abbrev pub invariant-picking : goal.invariant-picking
invariant-picking l =
    let cs = map constructor_of l.picker.constructors.now in
    let left = picks_from cs l.first (map typed_var_of l.rest) l.sorts.items in
    let all = picks_from cs l.first (map typed_var_of l.fn.vars) l.fn.sorts.items in
    record {
      as_many : length l.picks.vars.keys ≡ length l.picks.terms.items;
      inhabited : HaveInhabitants cs (map typed_var_of l.rest);
      terms : (x : Var) → term_beside l.picks.vars.keys l.picks.terms.items (λ y. embedded (given left.0 y)) x ≡ embedded (given all.0 x);
      sorts : left.1 ≡ all.1;
    }

abbrev pub decreases-picking : goal.decreases-picking
decreases-picking l = length l.rest
