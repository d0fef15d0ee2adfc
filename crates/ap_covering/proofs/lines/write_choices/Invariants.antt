-- With the choices that are left what is written is all.
use Rattle.std.proofs.Common.{◌≡◌, ◌++◌, drop, flat_map}
use Rattle.ap_covering.specs.CoverLines.{dotted}
use Rattle.ap_covering.proofs.lines.write_choices.Given as goal

abbrev pub invariant-writing : goal.invariant-writing
invariant-writing l = l.out.items ++ flat_map dotted (drop l.choice-index l.choices) ≡ l.fn.out.items ++ flat_map dotted l.choices
