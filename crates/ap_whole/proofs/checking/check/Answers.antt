use Rattle.std.proofs.Common.{◌≡◌, ◌≤◌, arith, length}
use Rattle.ap_defs.specs.RawTerms.{raw_of}
use Rattle.ap_defs.specs.Goals.{program_over}
use Rattle.ap_program.specs.NameRestriction.{item_count}
use Rattle.ap_trees.specs.Trees.{items_of_text}
use Rattle.std.proofs.lemmas.List.{length-map}
use Rattle.ap_trees.specs.Trees.{item_of}
use Rattle.ap_typecheck.proofs.TypedPrograms.{program_typed}
use Rattle.ap_typecheck.proofs.Counting.{program_count}
use Rattle.ap_whole.proofs.checking.check.Goals as goal

pub returns-in-Ok-clause-typed : goal.returns-in-Ok-clause-typed
returns-in-Ok-clause-typed c = program_typed (items_of_text c.args.items.items) (program_over raw_of c.in-Ok.program) (c.in-Ok.ensures (items_of_text c.args.items.items) c.in_ok-typing.ensures.made)

pub returns-in-Ok-clause-bounded : goal.returns-in-Ok-clause-bounded
returns-in-Ok-clause-bounded c =
    let few : item_count (program_over raw_of c.in-Ok.program) ≤ length (items_of_text c.args.items.items) = program_count (items_of_text c.args.items.items) (program_over raw_of c.in-Ok.program) (c.in-Ok.ensures (items_of_text c.args.items.items) c.in_ok-typing.ensures.made) in
    let long : length (items_of_text c.args.items.items) ≡ length c.args.items.items = length-map c.args.items.items item_of in
    omega (arith, few, long)
