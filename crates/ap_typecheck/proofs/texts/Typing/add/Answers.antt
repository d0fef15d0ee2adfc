use Rattle.std.proofs.Common.{◌+◌, ◌++◌, ◌∷◌, refl, sym, subst}
use Rattle.ap_trees.specs.Trees.{item_of}
use Rattle.ap_typecheck.specs.declared.texts.Typing.{Typing}
use Rattle.ap_typecheck.specs.Views.{IsRefusedByTypes}
use Rattle.ap_typecheck.proofs.Steps.{typing_on, typing_refused, typing_small}
use Rattle.ap_typecheck.proofs.texts.Typing.add.Goals as goal

pub check_item-requires-clause-small : goal.check_item-requires-clause-small
check_item-requires-clause-small c = typing_small c.args.self.now c.requires.0 c.requires.2 c.requires.1

pub returns-in-Err-check_item-clause-fault : goal.returns-in-Err-check_item-clause-fault
returns-in-Err-check_item-clause-fault c = λ is more t.
    subst (λ e. IsRefusedByTypes e (is ++ item_of c.args.item ∷ more)) (sym c.text_error.ensures)
    (typing_refused c.in-Err-check_item.refusal c.args.self.now is more (item_of c.args.item) _ t refl c.in-Err-check_item.ensures.err)

pub returns-clause-made : goal.returns-clause-made
returns-clause-made c = λ is t.
    let new : Typing = record { state = c.check_item.new.state; words = c.add_form.new.words; spellings = c.check_item.new.spellings; items = c.args.self.now.items + 1 } in
    typing_on c.args.self.now new is (item_of c.args.item) t c.in-Ok-check_item.ensures.flawless c.in-Ok-check_item.ensures.made c.in-Ok.ensures refl c.in-Ok-check_item.ensures.kept
